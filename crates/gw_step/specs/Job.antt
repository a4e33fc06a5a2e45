-- A job, its steps, and the states that it reaches.
use Rattle.std.specs.Prelude.{◌≡◌, ℕ, zero, suc, ◌+◌, ◌^◌, ◌≤◌, ◌<◌, pos, ◌<ℤ◌, List, map, length, slice_index_or, Option, Some, None, is_some}
use Rattle.std.specs.Prelude.{IsTrue, ◌==◌, if◌then◌else◌}
use Rattle.std.specs.List.{All, range_with_len}
use Rattle.gw_object.specs.declared.parts.Parts.{Parts}
use Rattle.gw_object.specs.Grammar.{HasSpelling}
use Rattle.gw_rules.specs.Accepted.{Checked}
use Rattle.gw_rules.specs.WeightsLaws.{Weighted}
use Rattle.gw_step.specs.State.{State}
use Rattle.gw_step.specs.Step.{step}
use Rattle.gw_step.specs.Typing.{WellTyped, AreConserved, IsWoken}
use Rattle.gw_step.specs.Start.{start}
use Rattle.gw_step.specs.Numbers.{IsWithin, made_in, AreWithinLimits, AreFewLive}

-- what a job runs: the parts of its object, the seeds of the 16 streams, the termination count, and at most how many steps
pub record Job : Type 0 where
  pub parts : Parts
  pub streams : List ℕ
  pub count : ℕ
  pub budget : ℕ

-- SEEDS

-- the seed of the stream at a place, from 0, where these are given; a 0, or none, is the stream's own number, from 1
abbrev pub seed_at : List ℕ → ℕ → ℕ
seed_at seeds i = if slice_index_or seeds i 0 == 0 then i + 1 else slice_index_or seeds i 0

-- the seeds of the 16 streams, where these are given
abbrev pub streams_of : List ℕ → List ℕ
streams_of seeds = map (seed_at seeds) (range_with_len 0 16)

-- STEPS

-- s has a step, which leads to t
abbrev pub Step : Job → State → State → Type 0
Step j s t = step j.parts j.budget s ≡ Some t

-- a named end stands
abbrev pub IsFinal : State → Type 0
IsFinal s = IsTrue (is_some s.ended)

-- it runs and has no step: the job meets an error stop
abbrev pub IsStuck : Job → State → Type 0
IsStuck j s = (s.ended ≡ None) × (step j.parts j.budget s ≡ None)

-- THE LONE RUN

-- the start state, if there is one
abbrev pub start_of : Job → Option State
start_of j = start j.parts j.count j.streams

-- one step more, if there is one
abbrev pub then_step : Job → Option State → Option State
then_step j None = None
then_step j (Some s) = step j.parts j.budget s

-- the state so many steps after this one, if there is one and there are so many
unfoldable pub after : Job → ℕ → Option State → Option State
after j zero s = s
after j (suc n) s = then_step j (after j n s)

-- the lone run: from the start state, n steps lead to s
abbrev pub Alone : Job → ℕ → State → Type 0
Alone j n s = after j n (start_of j) ≡ Some s

-- REACHED STATES

-- a job and the state that it is in
pub record Progress : Type 0 where
  pub job : Job
  pub state : State

-- a job as it may be made: its object was checked and is weighted, count and budget are 1 to 2^40, and each stream has a seed in its range
pub record JobFits (j : Job) : Type 0 where
  pub checked : Checked j.parts
  pub weighted : Weighted j.parts
  pub spelled : HasSpelling j.parts
  pub count_least : 0 < j.count
  pub count_most : j.count ≤ 2 ^ 40
  pub budget_least : 0 < j.budget
  pub budget_most : j.budget ≤ 2 ^ 40
  pub streams : length j.streams ≡ 16
  pub each_stream : All (λ seed. (1 ≤ seed) × (seed ≤ 2147483646)) j.streams

-- how far the numbers of a reached state may have come
pub record IsBounded (j : Job) (s : State) : Type 0 where
  pub steps : s.steps ≤ j.budget
  -- a running job has steps left, and a count above 0
  pub runs : s.ended ≡ None → s.steps < j.budget
  pub counts : s.ended ≡ None → pos 0 <ℤ s.count
  -- a step makes one entry or one waiter at most
  pub numbers : IsWithin (length j.parts.blocks) (length j.parts.entities) s.steps (made_in s.steps) s
  pub limits : AreWithinLimits j.parts.blocks s.scheduled
  pub live : AreFewLive s.transactions
  pub conserved : AreConserved s.entities
  pub woken : IsWoken s

-- a state that its job reaches: the lone run has it after as many steps, and it is well-typed
pub record IsReached (p : Progress) : Type 0 where
  pub alone : Alone p.job p.state.steps p.state
  pub fits : JobFits p.job
  pub typed : WellTyped p.job.parts p.state
  pub bounded : IsBounded p.job p.state
