-- Evaluating operands: for whom, what may be read of a machine, and what is answered.
use Rattle.std.specs.Prelude.{◌≡◌, ℕ, ◌≤◌, ◌^◌, ℤ, pos, ◌≤ℤ◌, sum, List, Option, Some, None, IfSome, Result, Ok, Err}
use Rattle.gw_object.specs.declared.blocks.Operand.{Operand}
use Rattle.gw_object.specs.declared.blocks.Spread.{Spread}
use Rattle.gw_members.specs.declared.tx.Tx.{Tx}
use Rattle.gw_object.specs.declared.parts.Parts.{Parts}
use Rattle.gw_rules.specs.declared.ends.PlusEnd.{PlusEnd}
use Rattle.gw_rules.specs.Environment.{Environment}
use Rattle.gw_step.specs.declared.ends.End.{End}
use Rattle.gw_rules.specs.Values.{Evaluation, Value, Fails, source_value, operand_value, drawn_time}
use Rattle.gw_transactions.specs.declared.Transaction.{Transaction}
use Rattle.gw_transactions.specs.Parameters.{no_parameters}
use Rattle.gw_transactions.specs.Transactions.{Holds}
use Rattle.gw_step.specs.Numbers.{AreWhole}
use Rattle.gw_step.specs.Outcome.{Outcome, Gives, EndsBy, ◌>>=◌}
use Rattle.gw_step.specs.State.{State}
use Rattle.gw_step.specs.Times.{environment, environment_of_next, parameters_of, drawn_moment}
use Rattle.gw_machine.specs.Configuration.{Configuration}
use Rattle.gw_machine.specs.EntityTables.{states_of}
use Rattle.gw_machine.specs.View.{state_of, entity_count}
use Rattle.gw_machine.specs.declared.values.Subject.{Subject}

-- FOR WHOM

-- the active transaction, which is t
abbrev pub subject_of : Tx → Transaction → Subject
subject_of tx t = record { number = tx.number; priority = t.priority; mark = t.mark; tx = Some tx }

-- the parameters of a subject; of one that has yet to arrive none is set
abbrev pub parameters_for : Option Tx → State → List (Option ℤ)
parameters_for None s = no_parameters
parameters_for (Some tx) s = parameters_of tx.number s

-- what operands read in a state, for a subject
abbrev pub environment_for : Subject → State → Environment
environment_for subject s = environment subject.number subject.priority subject.mark (parameters_for subject.tx s) s

-- the same, on a machine
abbrev pub environment_in : Subject → Configuration → Environment
environment_in subject m = environment_for subject (state_of m)

-- what they read on a machine for the next transaction that is to arrive, with this priority
abbrev pub next_environment_in : ℤ → Configuration → Environment
next_environment_in priority m = environment_of_next priority (state_of m)

-- WHAT MAY BE READ

-- each table of a machine has an entry for each entity, and an i64 holds the clock and the counts
pub record IsReadable (m : Configuration) : Type 0 where
  pub entities : AreWhole (entity_count m) (states_of m.entities)
  pub entries : sum m.entries ≤ 2 ^ 60
  pub clock : pos 0 ≤ℤ m.clock

-- operands may be evaluated for the subject
pub record CanEvaluate (m : Configuration) (subject : Subject) : Type 0 where
  pub readable : IsReadable m
  pub held : IfSome subject.tx (Holds m.transactions)
  pub number : subject.number ≤ 2 ^ 62
  pub mark : pos 0 ≤ℤ subject.mark

-- WHAT IS ANSWERED

-- an operand's value and where the streams are then, or how its evaluation ends
abbrev pub value_outcome : Result ℤ PlusEnd → List ℕ → Evaluation (ℤ × List ℕ)
value_outcome (Ok value) streams = Value (value, streams)
value_outcome (Err end) streams = Fails end

-- what is answered, as an outcome
abbrev pub outcome_of : {A : Type 0} → Result A End → Outcome A
outcome_of (Ok a) = Gives a
outcome_of (Err end) = EndsBy end

-- a time or a moment, and where the streams are then
abbrev pub time_of : Result ℤ End → List ℕ → Outcome (ℤ × List ℕ)
time_of result streams = outcome_of result >>= λ value. Gives (value, streams)

-- a source, where draws are below a bound, was evaluated for a subject on a machine, and moved the streams
abbrev pub EvaluatesSource : Parts → Subject → ℕ → Operand → Configuration → Result ℤ PlusEnd → List ℕ → List ℕ → Type 0
EvaluatesSource p subject bound source m result old new = source_value p (environment_in subject m) bound source old ≡ value_outcome result new

-- an operand was
abbrev pub EvaluatesOperand : Parts → Subject → Operand → Configuration → Result ℤ PlusEnd → List ℕ → List ℕ → Type 0
EvaluatesOperand p subject operand m result old new = operand_value p (environment_in subject m) operand old ≡ value_outcome result new

-- a time was, by its mean and half-range
abbrev pub EvaluatesTime : Parts → Subject → Spread → Configuration → Result ℤ PlusEnd → List ℕ → List ℕ → Type 0
EvaluatesTime p subject spread m result old new = drawn_time p (environment_in subject m) spread old ≡ value_outcome result new

-- the moment was that lies such a time after the clock
abbrev pub EvaluatesMoment : Parts → Subject → Spread → Configuration → Result ℤ End → List ℕ → List ℕ → Type 0
EvaluatesMoment p subject spread m result old new = drawn_moment p (environment_in subject m) spread m.clock old ≡ time_of result new
