-- One step of a job.
use Rattle.std.specs.Prelude.{Bool, ℕ, ◌+◌, List, [], ◌∷◌, Option, Some, None, ◌==◌, ◌&&◌, is_none, if◌then◌else◌}
use Rattle.gw_object.specs.declared.blocks.Block.{Block}
use Rattle.gw_object.specs.declared.parts.Parts.{Parts}
use Rattle.gw_rules.specs.Kinds.{block_at}
use Rattle.gw_transactions.specs.Transactions.{attributes_at}
use Rattle.gw_step.specs.declared.ends.End.TheVariants.{NoMoreEvents, Budget}
use Rattle.gw_step.specs.Outcome.{Outcome, Gives, EndsBy, HasNoCase, ◌>>=◌, case_of, evaluation_outcome}
use Rattle.gw_rules.specs.Values.{operands}
use Rattle.gw_transactions.specs.declared.Transaction.{Transaction}
use Rattle.gw_step.specs.declared.placement.Placement.TheVariants.{JoinsRetryList}
use Rattle.gw_step.specs.Placing.{place_by}
use Rattle.gw_step.specs.Times.{environment_of}
use Rattle.gw_step.specs.Turning.{two_next, towards, turn_to}
use Rattle.gw_step.specs.State.{FutureEvent, State, with_streams}
use Rattle.gw_step.specs.Changes.{clock_moves, wake}
use Rattle.gw_step.specs.Blocks.{refuses, act}

-- THE SCAN

-- the clock goes to the first time of the future events chain, and the retry list is woken then; where that chain is empty, nothing is left to do
abbrev pub next_event : List FutureEvent → State → Outcome State
next_event [] s = EndsBy NoMoreEvents
next_event (e ∷ es) s = Gives (wake (clock_moves e.time s))

-- the first of the current events chain becomes active; where that is empty, the clock moves
abbrev pub next_active : List ℕ → State → Outcome State
next_active [] s = next_event s.lists.future_events s
next_active (n ∷ ns) s = Gives (record s { lists = record s.lists { active = Some n; current_events = ns } })

-- the transaction n, which is t, meets its one next block
abbrev pub meets_one : Parts → ℕ → Transaction → State → Outcome State
meets_one p n t s = case_of (block_at p.blocks t.next) >>= λ block. act p n t block s

-- whether a block refuses n, which is t and meets it next, and the streams after its operands
abbrev pub refusal_by : Parts → ℕ → Transaction → Block → State → Outcome (Bool × List ℕ)
refusal_by p n t block s =
    evaluation_outcome (operands p (environment_of n t s) block s.streams) >>= λ read.
    Gives (refuses n block read.0 (with_streams read.1 s), read.1)

-- the same of its one next block
abbrev pub refusal : Parts → ℕ → Transaction → State → Outcome (Bool × List ℕ)
refusal p n t s = case_of (block_at p.blocks t.next) >>= λ block. refusal_by p n t block s

-- the transaction n, which is t, turns to a block and meets it; refused it does something else, and the draws stand
abbrev pub tries : Parts → ℕ → Transaction → ℕ → (State → Outcome State) → State → Outcome State
tries p n t b otherwise s =
    refusal p n (towards b t) (turn_to n t b s) >>= λ answer.
    if answer.0 then otherwise (with_streams answer.1 s) else meets_one p n (towards b t) (turn_to n t b s)

-- the first of two next blocks, else the second; refused at both it rests on the retry list, and keeps both
abbrev pub tries_both : Parts → ℕ → Transaction → ℕ × ℕ → State → Outcome State
tries_both p n t pair s = tries p n t pair.0 (λ u. tries p n t pair.1 (λ v. Gives (place_by n JoinsRetryList v)) u) s

-- the transaction n, which is t, goes on to its one next block, or to one of its two
abbrev pub goes_on : Parts → ℕ → Transaction → Option (ℕ × ℕ) → State → Outcome State
goes_on p n t None s = meets_one p n t s
goes_on p n t (Some pair) s = tries_both p n t pair s

-- what a step does, but for the count of steps: the active transaction meets its next block, or another becomes active
abbrev pub scan : Parts → Option ℕ → State → Outcome State
scan p None s = next_active s.lists.current_events s
scan p (Some n) s = case_of (attributes_at n s.transactions) >>= λ t. goes_on p n t (two_next p t) s

-- THE STEP

-- a running job whose steps are as many as its budget ends
abbrev pub within_budget : ℕ → State → State
within_budget budget s = if is_none s.ended && (s.steps == budget) then record s { ended = Some Budget } else s

-- one step more than s, by what the scan comes to: an end that it comes to leaves all else as before the step
abbrev pub step_outcome : ℕ → State → Outcome State → Option State
step_outcome budget s (Gives t) = Some (within_budget budget (record t { steps = s.steps + 1 }))
step_outcome budget s (EndsBy end) = Some (record s { steps = s.steps + 1; ended = Some end })
step_outcome budget s HasNoCase = None

-- the one state after a running state; there is none after a final state, nor where it meets an error stop
unfoldable pub step : Parts → ℕ → State → Option State
step p budget s = if is_none s.ended then step_outcome budget s (scan p s.lists.active s) else None
