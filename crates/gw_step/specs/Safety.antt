-- Typed states never get stuck: no job of a checked object meets an error stop.
use Rattle.std.specs.Prelude.{◌≡◌, ℕ, ◌<◌, ◌≤◌, [], Some, None}
use Rattle.gw_object.specs.declared.blocks.Generate.{Generate}
use Rattle.gw_object.specs.declared.blocks.Block.TheVariants as blocks
use Rattle.gw_object.specs.declared.parts.Parts.{Parts}
use Rattle.gw_object.specs.Grammar.{HasSpelling}
use Rattle.gw_rules.specs.Kinds.{block_at}
use Rattle.gw_rules.specs.Environment.{Environment}
use Rattle.gw_step.specs.Operands.{MayDraw, MayStep}
use Rattle.gw_step.specs.Asks.{IsServed}
use Rattle.gw_rules.specs.Accepted.{Checked}
use Rattle.gw_step.specs.State.{State}
use Rattle.gw_step.specs.Job.{Job, JobFits, Step, IsFinal, IsStuck, Alone, start_of}
use Rattle.gw_step.specs.Residence.{occurrences, occurrences_in}
use Rattle.gw_transactions.specs.declared.Transaction.{Transaction}
use Rattle.gw_transactions.specs.Transactions.{attributes_at}
use Rattle.gw_step.specs.Turning.{two_next, turn_to}
use Rattle.gw_step.specs.Typing.{WellTyped, AreWithinCapacity, AreConserved, IsWoken}

-- a job of a checked object has a start state
abbrev pub CheckedObjectsStart : Type 0
CheckedObjectsStart = (j : Job) → Checked j.parts → (s : State) × (start_of j ≡ Some s)

-- and it is well-typed
abbrev pub StartIsWellTyped : Type 0
StartIsWellTyped = (j : Job) (s : State) → Checked j.parts → start_of j ≡ Some s → WellTyped j.parts s

-- each step of a well-typed state leads to a well-typed state
abbrev pub StepsKeepTypes : Type 0
StepsKeepTypes = (j : Job) (s t : State) → Checked j.parts → WellTyped j.parts s → Step j s t → WellTyped j.parts t

-- a well-typed state that runs has a step
abbrev pub WellTypedStatesStep : Type 0
WellTypedStatesStep = (j : Job) (s : State) → Checked j.parts → WellTyped j.parts s → s.ended ≡ None → (t : State) × Step j s t

-- in a well-typed state the parameters of the active transaction suffice for all that its next block evaluates, also for the procedures that its operands call
abbrev pub ParametersSuffice : Type 0
ParametersSuffice = (p : Parts) (s : State) → Checked p → HasSpelling p → WellTyped p s → MayStep p s

-- and the interval of a GENERATE asks for no parameter at all
abbrev pub IntervalsAskForNothing : Type 0
IntervalsAskForNothing = (p : Parts) (b : ℕ) (g : Generate) (env : Environment) → Checked p → HasSpelling p → block_at p.blocks b
    ≡ Some (blocks.Generate g) → MayDraw p env g.interval

-- who has two next blocks in a well-typed state turns to either, and the state stays well-typed
abbrev pub TurnsKeepTypes : Type 0
TurnsKeepTypes =
    (p : Parts) (s : State) (n : ℕ) (t : Transaction) (pair : ℕ × ℕ) → Checked p → WellTyped p s
    → s.lists.active ≡ Some n → attributes_at n s.transactions ≡ Some t → two_next p t ≡ Some pair
    → WellTyped p (turn_to n t pair.0 s) × WellTyped p (turn_to n t pair.1 s)

-- in a well-typed state the active transaction has all that its next block asks for
abbrev pub BlocksAreServed : Type 0
BlocksAreServed = (p : Parts) (s : State) → Checked p → WellTyped p s → IsServed p s

-- a state that a job of a checked object reaches is well-typed
abbrev pub ReachedStatesAreWellTyped : Type 0
ReachedStatesAreWellTyped = (j : Job) (n : ℕ) (s : State) → Checked j.parts → Alone j n s → WellTyped j.parts s

-- and isn't stuck
abbrev pub NoJobIsStuck : Type 0
NoJobIsStuck = (j : Job) (n : ℕ) (s : State) → Checked j.parts → Alone j n s → IsStuck j s → ⊥

-- where a job ends: after so many steps a named end stands
pub record Ending (j : Job) : Type 0 where
  pub steps : ℕ
  pub state : State
  pub alone : Alone j steps state
  pub final : IsFinal state

-- each job of a checked object comes to a named end
abbrev pub AllJobsEnd : Type 0
AllJobsEnd = (j : Job) → Checked j.parts → 0 < j.budget → Ending j

-- in no state that a job of a checked object reaches a storage holds more than its capacity
abbrev pub StoragesKeepTheirCapacity : Type 0
StoragesKeepTheirCapacity = (j : Job) (n : ℕ) (s : State) → Checked j.parts → Alone j n s → AreWithinCapacity s.entities

-- in no state that a job reaches a storage has lost a unit
abbrev pub StoragesLoseNoUnit : Type 0
StoragesLoseNoUnit = (j : Job) (n : ℕ) (s : State) → JobFits j → Alone j n s → AreConserved s.entities

-- in each state that a job reaches and in which nobody is active, the retry list was woken since the last entry
abbrev pub RestingStatesAreWoken : Type 0
RestingStatesAreWoken = (j : Job) (n : ℕ) (s : State) → JobFits j → Alone j n s → IsWoken s

-- who resides on the retry list in a state that a job of a checked object reaches resides there once, and nowhere else
abbrev pub RetryingResideOnce : Type 0
RetryingResideOnce = (j : Job) (n : ℕ) (s : State) → Checked j.parts → Alone j n s → (m : ℕ) → 1 ≤ occurrences m s.lists.retry
    → (occurrences m s.lists.retry ≡ 1) × (occurrences_in (record s.lists { retry = [] }) m ≡ 0)
