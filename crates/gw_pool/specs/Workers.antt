-- Workers: what their crew counts, how many of them are run and in which slices, and what one of them leaves.
use Rattle.std.specs.Prelude.{◌≡◌, ℕ, ◌+◌, ◌*◌, ◌≤◌, ◌<◌, ◌^◌, vec_len, ◌⊎◌, Bool, ◌&&◌, nat_lt, nat_le, if◌then◌else◌, Option, Some, None}
use Rattle.atomic_table.specs.Seated.{TableId}
use Rattle.gw_pool.specs.declared.faults.PoolFault.{PoolFault}
use Rattle.gw_pool.specs.declared.faults.PoolFault.TheVariants as faults
use Rattle.gw_pool.specs.declared.totals.Totals.{Totals}
use Rattle.gw_pool.specs.declared.worker.Ending.{Ending}
use Rattle.gw_pool.specs.declared.worker.Ending.TheVariants as endings
use Rattle.gw_pool.specs.Shares.{Share}

-- CREWS

-- what a crew is: the board of its service, the rows taken and not given back, and the steps given back
pub record Crew : Type 0 where
  pub board : TableId
  pub rows : ℕ
  pub steps : ℕ

-- a crew with this board, which counts so many rows and steps
abbrev pub crew_of : TableId → ℕ → ℕ → Crew
crew_of b r n = record { board = b; rows = r; steps = n }

-- RANGES AND REFUSALS

-- at most so many workers are run
abbrev pub most_workers : ℕ
most_workers = 16

-- a slice has at most so many steps
abbrev pub most_slice : ℕ
most_slice = 2 ^ 20

-- a number is at least 1 and at most this one
abbrev pub is_within : ℕ → ℕ → Bool
is_within most n = nat_lt 0 n && nat_le n most

-- the first number out of its range: that of the workers, else that of the steps of a slice
abbrev pub range_fault : ℕ → ℕ → Option PoolFault
range_fault workers slice =
    if is_within most_workers workers then (if is_within most_slice slice then None else Some faults.Slice) else Some faults.Workers

-- workers are refused so: by a number out of its range; else since none could be started, or for want of memory
abbrev pub RefusesRun : Option PoolFault → PoolFault → Type 0
RefusesRun (Some fault) answer = answer ≡ fault
RefusesRun None answer = (answer ≡ faults.Spawn) ⊎ (answer ≡ faults.Memory)

-- TOTALS

-- of at most n workers some were started, of whom each ended in one way
pub record AreEnded (n : ℕ) (t : Totals) : Type 0 where
  pub some : 0 < t.workers
  pub most : t.workers ≤ n
  pub endings : t.short + vec_len t.strays ≤ t.workers

-- the rows and the steps that a crew counts rose as those of the workers' totals did
pub record CountsAlike (old new : Crew) (before after : Totals) : Type 0 where
  pub rows : new.rows + vec_len before.strays ≡ old.rows + vec_len after.strays
  pub steps : new.steps + before.steps ≡ old.steps + after.steps

-- WHAT WORKERS LEAVE

-- 1 for a worker that was started
abbrev pub started_in : Ending → ℕ
started_in endings.NotStarted = 0
started_in ending = 1

-- 1 for a worker that memory ended
abbrev pub short_in : Ending → ℕ
short_in endings.Short = 1
short_in ending = 0

-- 1 for a worker whose task the table didn't take back
abbrev pub strays_in : Ending → ℕ
strays_in endings.NotStarted = 0
strays_in endings.Finished = 0
strays_in endings.Short = 0
strays_in (endings.Stray task) = 1

-- no share counts more steps than all jobs of a service have in all
abbrev pub most_steps : ℕ
most_steps = 2 ^ 50

-- what a worker leaves: its part, which counts a row for its stray; who wasn't started counts nothing
pub record IsOutcome (share : Share) (ending : Ending) : Type 0 where
  pub parts : share.parts ≡ 1
  pub rows : share.rows ≡ strays_in ending
  pub steps : share.steps ≤ started_in ending * most_steps

-- what several workers leave: a part of each, which count a row for each stray; each ends in one way, and none that wasn't started counts anything
pub record IsGathering (share : Share) (started shorts stray_count : ℕ) : Type 0 where
  pub workers : started ≤ share.parts
  pub endings : shorts + stray_count ≤ started
  pub rows : share.rows ≡ stray_count
  pub steps : share.steps ≤ started * most_steps

-- what contracts see of it: the parts, and the places for strays that are left
pub record Gathering : Type 0 where
  pub parts : ℕ
  pub room : ℕ

-- so many parts were gathered, and so many places for strays are left
abbrev pub gathering_of : ℕ → ℕ → Gathering
gathering_of p n = record { parts = p; room = n }
