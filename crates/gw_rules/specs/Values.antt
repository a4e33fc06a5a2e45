-- Operand values: what the operands of a block come to, from left to right, and where the streams are after their draws.
use Rattle.std.specs.Prelude.{ℕ, ◌-◌, ◌%◌, ℤ, pos, List, [], ◌∷◌, Option, Some, None, Result, Ok, Err, if◌then◌else◌, set}
use Rattle.gw_object.specs.declared.blocks.Operand.{Operand}
use Rattle.gw_object.specs.declared.blocks.Operand.TheVariants.{Random, Procedure}
use Rattle.gw_object.specs.declared.blocks.Spread.{Spread}
use Rattle.gw_object.specs.declared.blocks.Block.{Block}
use Rattle.gw_object.specs.declared.blocks.Block.TheVariants as blocks
use Rattle.gw_num.specs.declared.arithmetic.NumFault.{NumFault}
use Rattle.gw_num.specs.Generator as generator
use Rattle.gw_num.specs.Table.{at}
use Rattle.gw_object.specs.declared.parts.Parts.{Parts}
use Rattle.gw_rules.specs.Sources.{operand_at, source_of, is_function_value}
use Rattle.gw_rules.specs.declared.ends.PlusEnd.{PlusEnd}
use Rattle.gw_rules.specs.Environment.{Environment, kept_value}
use Rattle.gw_rules.specs.Results.{value_by_operand}
use Rattle.gw_rules.specs.Meaning.{ended_by}
use Rattle.gw_rules.specs.Outcome.{Answer, outcome_of}

-- what an evaluation comes to: a value; or an end, which is the job's; or nothing, where a parameter isn't set, or a procedure is stuck
pub data Evaluation (A : Type 0) : Type 0 where
  Value : (value : A) → Evaluation A
  Fails : (end : PlusEnd) → Evaluation A
  Unset : Evaluation A

infixl 10 ◌>>=◌
-- the first, and then the second with the value of the first
abbrev pub ◌>>=◌ : {A B : Type 0} → Evaluation A → (A → Evaluation B) → Evaluation B
(Value a) >>= f = f a
(Fails end) >>= f = Fails end
Unset >>= f = Unset

-- what arithmetic answers
abbrev pub evaluation_of : {A : Type 0} → Result A NumFault → Evaluation A
evaluation_of (Ok a) = Value a
evaluation_of (Err fault) = Fails (ended_by fault)

-- STREAMS

-- where the stream of a number, from 1, is
abbrev pub stream_at : ℕ → List ℕ → ℕ
stream_at j streams = at 1 streams (j - 1)

-- the streams with the one of a number here
abbrev pub with_stream : ℕ → ℕ → List ℕ → List ℕ
with_stream j stream streams = set streams (j - 1) stream

-- where the first stream is, from which times and the ways of a TRANSFER are drawn
abbrev pub first_stream : List ℕ → ℕ
first_stream streams = stream_at 1 streams

-- the streams with the first one here
abbrev pub with_first : ℕ → List ℕ → List ℕ
with_first stream streams = with_stream 1 stream streams

-- a number below this bound drawn from the stream of a number, and the streams then
abbrev pub drawn_below : ℕ → ℕ → List ℕ → ℤ × List ℕ
drawn_below bound j streams = (pos (generator.next_after (stream_at j streams) % bound), with_stream j (generator.next_after (stream_at j streams)) streams)

-- thousandths drawn from the stream of a number, from 0 to 999, and the streams then
abbrev pub drawn_thousandths : ℕ → List ℕ → ℤ × List ℕ
drawn_thousandths j streams = drawn_below 1000 j streams

-- OPERANDS

-- the value of what is kept, if it is there
abbrev pub if_set : Option ℤ → Evaluation ℤ
if_set None = Unset
if_set (Some value) = Value value

-- what a procedure comes to
abbrev pub came_to : Answer → Evaluation ℤ
came_to None = Unset
came_to (Some (Ok value)) = Value value
came_to (Some (Err end)) = Fails end

-- a draw is in millionths for a function, else in thousandths
abbrev pub draws_below : Operand → ℕ
draws_below o = if is_function_value o then 1000000 else 1000

-- the value of a source, where draws are below a bound, and the streams then
abbrev pub source_value : Parts → Environment → ℕ → Operand → List ℕ → Evaluation (ℤ × List ℕ)
source_value p env bound (Random j) streams = Value (drawn_below bound j streams)
source_value p env bound (Procedure q) streams = came_to (outcome_of p env q) >>= λ value. Value (value, streams)
source_value p env bound source streams = if_set (kept_value env source) >>= λ value. Value (value, streams)

-- an operand's value, which is made of its source's, and the streams then
abbrev pub operand_value : Parts → Environment → Operand → List ℕ → Evaluation (ℤ × List ℕ)
operand_value p env o streams = source_value p env (draws_below o) (source_of p.entities o) streams
    >>= λ value. Value (value_by_operand p.entities o value.0, value.1)

-- a time of this mean and half-range, which are evaluated first; where half the range is 0 nothing more is drawn
abbrev pub drawn_time : Parts → Environment → Spread → List ℕ → Evaluation (ℤ × List ℕ)
drawn_time p env spread streams =
    operand_value p env spread.mean streams >>= λ mean.
    operand_value p env spread.half mean.1 >>= λ half.
    evaluation_of (generator.drawn_time mean.0 half.0 (first_stream half.1)) >>= λ time.
    Value (time.0, with_first time.1 half.1)

-- the one value that a block has
abbrev pub single_value : ℤ × List ℕ → List ℤ × List ℕ
single_value value = (value.0 ∷ [], value.1)

-- the one operand of a block, which a TABULATE of no table lacks
abbrev pub one_operand : Parts → Environment → Option Operand → List ℕ → Evaluation (List ℤ × List ℕ)
one_operand p env None streams = Unset
one_operand p env (Some o) streams = operand_value p env o streams >>= λ value. Value (single_value value)

-- the operand values of a block, and the streams after their draws: at a TABULATE that of its table's argument. A
-- GENERATE's interval is evaluated where an arrival is scheduled: it is the coming transaction's
abbrev pub operands : Parts → Environment → Block → List ℕ → Evaluation (List ℤ × List ℕ)
operands p env (blocks.Terminate by) streams = one_operand p env (Some by) streams
operands p env (blocks.Advance time) streams = drawn_time p env time streams >>= λ time. Value (single_value time)
operands p env (blocks.Assign a) streams = one_operand p env (Some a.value) streams
operands p env (blocks.Test t) streams =
    operand_value p env t.left streams >>= λ left.
    operand_value p env t.right left.1 >>= λ right.
    Value (left.0 ∷ right.0 ∷ [], right.1)
operands p env (blocks.TransferByFraction f) streams = Value (single_value (drawn_thousandths 1 streams))
operands p env (blocks.Savevalue a) streams = one_operand p env (Some a.value) streams
operands p env (blocks.Priority a) streams = one_operand p env (Some a.value) streams
operands p env (blocks.Plus a) streams = one_operand p env (Some a.value) streams
operands p env (blocks.Tabulate t) streams = one_operand p env (operand_at p.entities t) streams
operands p env block streams = Value ([], streams)
