-- The outcome of a procedure, as a function: PLUS evaluation within as many instructions as the procedure may take.
use Rattle.std.specs.Prelude.{ℕ, zero, suc, [], Option, Some, None, Result, Ok, Err, ℤ}
use Rattle.std.specs.Option.{option_and_then}
use Rattle.gw_num.specs.Table.{at}
use Rattle.gw_object.specs.declared.parts.Parts.{Parts}
use Rattle.gw_rules.specs.declared.ends.PlusEnd.{PlusEnd}
use Rattle.gw_rules.specs.Environment.{Environment}
use Rattle.gw_rules.specs.Code.{procedure_at, costs_of}
use Rattle.gw_rules.specs.Meaning.{Frame, Next, Goes, Calls, Returns, Ends, Stuck, push_value, opening_frame, next}

-- what an activation comes to, if it comes to anything: a value or an end
abbrev pub Answer : Type 0
Answer = Option (Result ℤ PlusEnd)

-- with what an activation goes on, by what it comes to from there
abbrev pub if_going : (Frame → Answer) → Next → Answer
if_going onward (Goes f) = onward f
if_going onward other = None

-- with what a procedure that was called came to: its end is the caller's, and its value comes onto the stack once it is finished
abbrev pub once_called : (Frame → Answer) → (ℤ → ℤ) → Frame → Result ℤ PlusEnd → Answer
once_called onward finish rest (Err e) = Some (Err e)
once_called onward finish rest (Ok v) = if_going onward (push_value (finish v) rest)

-- what an activation of the procedure n comes to by what its next instruction does, by what activations come to from later places
abbrev pub answer_by : Parts → (ℕ → Frame → Answer) → ℕ → Next → Answer
answer_by p onward n (Goes f) = onward n f
answer_by p onward n (Calls q arguments finish rest) =
    option_and_then (once_called (onward n) finish rest) (onward q (opening_frame (procedure_at p q) arguments))
answer_by p onward n (Returns v) = Some (Ok v)
answer_by p onward n (Ends e) = Some (Err e)
answer_by p onward n Stuck = None

-- what an activation of the procedure n comes to from here on, where at most so many instructions are still to come;
-- nothing where it is stuck or there are more
unfoldable pub answer_within : Parts → Environment → ℕ → ℕ → Frame → Answer
answer_within p env zero n f = None
answer_within p env (suc most) n f = answer_by p (answer_within p env most) n (next p env n f)

-- what a procedure without arguments comes to, within as many instructions as it costs
unfoldable pub outcome_of : Parts → Environment → ℕ → Answer
outcome_of p env n = answer_within p env (at 0 (costs_of p) n) n (opening_frame (procedure_at p n) [])
