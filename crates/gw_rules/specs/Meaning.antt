-- What PLUS code does: PLUS evaluation. Where nothing is derived, an activation is stuck.
use Rattle.std.specs.Prelude.{◌≡◌, ℕ, suc, ◌+◌, ◌-◌, List, [], ◌∷◌, ◌++◌, length, take, drop, replicate, Option, Some, None, if◌then◌else◌, ◌==◌}
use Rattle.std.specs.Prelude.{nat_le, nat_lt, Result, Ok, Err, ℤ, pos, slice_set, slice_get}
use Rattle.gw_num.specs.declared.arithmetic.NumFault.{NumFault}
use Rattle.gw_num.specs.declared.arithmetic.NumFault.TheVariants as faults
use Rattle.gw_num.specs.declared.operators.Binary.{Binary as BinaryOperator}
use Rattle.gw_num.specs.declared.operators.Unary.{Unary as UnaryOperator}
use Rattle.gw_num.specs.Arithmetic.{is_zero}
use Rattle.gw_num.specs.Operators.{binary_value, unary_value}
use Rattle.gw_object.specs.declared.code.Back.{Back as JumpBack}
use Rattle.gw_object.specs.declared.code.Instruction.{Instruction}
use Rattle.gw_object.specs.declared.code.Instruction.TheVariants.{Push, Get, Set, Value, Binary, Unary, Pop, Jump, JumpIfZero, Back, Call, Return}
use Rattle.gw_object.specs.declared.code.Procedure.{Procedure}
use Rattle.gw_object.specs.declared.parts.Parts.{Parts}
use Rattle.gw_rules.specs.declared.ends.PlusEnd.{PlusEnd}
use Rattle.gw_rules.specs.declared.ends.PlusEnd.TheVariants.{Number, ZeroDivisor, LoopLimit}
use Rattle.gw_object.specs.declared.blocks.Operand.{Operand}
use Rattle.gw_object.specs.declared.blocks.Operand.TheVariants as operands
use Rattle.gw_object.specs.declared.code.Sna.{Sna}
use Rattle.gw_rules.specs.Sources.{source_of, as_operand}
use Rattle.gw_rules.specs.Environment.{Environment, kept_value}
use Rattle.gw_rules.specs.Code.{most_values, procedure_at}
use Rattle.gw_rules.specs.Results.{value_by_operand}

-- ACTIVATIONS

-- how often each BACK was taken, by its instruction's number
abbrev pub Taken : Type 0
Taken = List (ℕ × ℕ)

-- how often the BACK at k was taken
abbrev pub taken_at : Taken → ℕ → ℕ
taken_at [] k = 0
taken_at (x ∷ xs) k = if x.0 == k then x.1 else taken_at xs k

-- the BACK at k is taken once more
abbrev pub take_once : Taken → ℕ → Taken
take_once [] k = (k, 1) ∷ []
take_once (x ∷ xs) k = if x.0 == k then (x.0, x.1 + 1) ∷ xs else x ∷ take_once xs k

-- where an activation of a procedure stands: the number of the instruction that comes next, the stack with its top at
-- the end, the locals, and how often each BACK was taken
pub record Frame : Type 0 where
  pub place : ℕ
  pub stack : List ℤ
  pub locals : List ℤ
  pub taken : Taken

-- what an instruction does to an activation
pub data Next : Type 0 where
  -- it goes on from here
  Goes : (frame : Frame) → Next
  -- it calls a procedure with these arguments, and goes on from the rest with what is made of its value
  Calls : (procedure : ℕ) (arguments : List ℤ) (finish : ℤ → ℤ) (rest : Frame) → Next
  -- it returns this value
  Returns : (value : ℤ) → Next
  -- it ends the evaluation
  Ends : (end : PlusEnd) → Next
  -- nothing: it is stuck
  Stuck : Next

-- to the next instruction
abbrev pub on : Frame → Frame
on f = record f { place = f.place + 1 }

-- with this value on the stack, where there is room for it
abbrev pub push_value : ℤ → Frame → Next
push_value v f = if nat_lt (length f.stack) most_values then Goes (record f { stack = f.stack ++ v ∷ [] }) else Stuck

-- with what there is; else it is stuck
abbrev pub or_stuck : {X : Type 0} → Option X → (X → Next) → Next
or_stuck None next = Stuck
or_stuck (Some x) next = next x

-- with the value on top of the stack, and the stack below it
abbrev pub pop_value : List ℤ → (ℤ → List ℤ → Next) → Next
pop_value stack next = or_stuck (slice_get stack (length stack - 1)) (λ v. next v (take (length stack - 1) stack))

-- the end that a fault of arithmetic brings
abbrev pub ended_by : NumFault → PlusEnd
ended_by faults.Number = Number
ended_by faults.ZeroDivisor = ZeroDivisor

-- with what an operator made of its values on the stack
abbrev pub calculate : Result ℤ NumFault → Frame → Next
calculate (Ok v) f = push_value v f
calculate (Err fault) f = Ends (ended_by fault)

-- with so many arguments from the top of the stack
abbrev pub calls_with : ℕ → ℕ → Frame → Next
calls_with q n f =
    if nat_le n (length f.stack)
    then Calls q (drop (length f.stack - n) f.stack) (λ v. v) (record f { stack = take (length f.stack - n) f.stack })
    else Stuck

-- EACH INSTRUCTION

-- GET
abbrev pub gets : ℕ → Frame → Next
gets local f = or_stuck (slice_get f.locals local) (λ v. push_value v (on f))

-- SET
abbrev pub sets : ℕ → Frame → Next
sets local f =
    pop_value f.stack (λ v rest.
    if nat_lt local (length f.locals) then Goes (record f { place = f.place + 1; stack = rest; locals = slice_set f.locals local v }) else Stuck)

-- an operator on two values: the upper one is the right one
abbrev pub does_binary : BinaryOperator → Frame → Next
does_binary operator f =
    pop_value f.stack (λ right rest.
    pop_value rest (λ left below.
    calculate (binary_value operator left right) (record f { place = f.place + 1; stack = below })))

-- an operator on one value
abbrev pub does_unary : UnaryOperator → Frame → Next
does_unary operator f = pop_value f.stack (λ v rest. calculate (unary_value operator v) (record f { place = f.place + 1; stack = rest }))

-- POP
abbrev pub pops : Frame → Next
pops f = pop_value f.stack (λ v rest. Goes (record f { place = f.place + 1; stack = rest }))

-- JZ
abbrev pub jumps_if_zero : ℕ → Frame → Next
jumps_if_zero target f = pop_value f.stack (λ v rest. Goes (record f { place = (if is_zero v then target else f.place + 1); stack = rest }))

-- BACK: it was taken fewer times than it may be, or ends the evaluation
abbrev pub jumps_back : JumpBack → Frame → Next
jumps_back b f =
    if nat_lt (taken_at f.taken f.place) b.count
    then Goes (record f { place = b.target; taken = take_once f.taken f.place })
    else Ends LoopLimit

-- CALL
abbrev pub calls : Parts → ℕ → Frame → Next
calls p q f = or_stuck (procedure_at p q) (λ pr. calls_with q pr.arguments (on f))

-- RET
abbrev pub returns_top : Frame → Next
returns_top f = pop_value f.stack (λ v rest. Returns v)

-- VALUE of this source: what is kept comes onto the stack, and a procedure is called; nothing is drawn
abbrev pub reads_source : Environment → Operand → (ℤ → ℤ) → Frame → Next
reads_source env (operands.Procedure q) finish f = Calls q [] finish f
reads_source env source finish f = or_stuck (kept_value env source) (λ v. push_value (finish v) f)

-- VALUE
abbrev pub reads : Parts → Environment → Sna → Frame → Next
reads p env sna f = reads_source env (source_of p.entities (as_operand sna)) (value_by_operand p.entities (as_operand sna)) (on f)

-- what an instruction does
unfoldable pub act : Parts → Environment → Instruction → Frame → Next
act p env (Push v) f = push_value v (on f)
act p env (Get local) f = gets local f
act p env (Set local) f = sets local f
act p env (Value sna) f = reads p env sna f
act p env (Binary operator) f = does_binary operator f
act p env (Unary operator) f = does_unary operator f
act p env Pop f = pops f
act p env (Jump target) f = Goes (record f { place = target })
act p env (JumpIfZero target) f = jumps_if_zero target f
act p env (Back b) f = jumps_back b f
act p env (Call q) f = calls p q f
act p env Return f = returns_top f

-- what the next instruction of an activation of the procedure n does
unfoldable pub next : Parts → Environment → ℕ → Frame → Next
next p env n f = or_stuck (procedure_at p n) (λ pr. or_stuck (slice_get pr.code f.place) (λ i. act p env i f))

-- EVALUATION

-- where an activation begins that has so many locals: the arguments are the first ones, and the others are 0
abbrev pub frame_of_locals : ℕ → List ℤ → Frame
frame_of_locals locals arguments = record { place = 0; stack = []; locals = arguments ++ replicate (locals - length arguments) (pos 0); taken = [] }

-- where an activation of a procedure begins
abbrev pub opening_frame : Option Procedure → List ℤ → Frame
opening_frame None arguments = frame_of_locals 0 arguments
opening_frame (Some pr) arguments = frame_of_locals pr.locals arguments

-- from here on an activation of the procedure n executes so many instructions, those of the procedures that it calls included, and comes to this value or end
pub data Derives (p : Parts) (env : Environment) : ℕ → Frame → ℕ → Result ℤ PlusEnd → Type 0 where
  returns : {n : ℕ} {f : Frame} {v : ℤ} → next p env n f ≡ Returns v → Derives p env n f 1 (Ok v)
  ends : {n : ℕ} {f : Frame} {e : PlusEnd} → next p env n f ≡ Ends e → Derives p env n f 1 (Err e)
  goes : {n : ℕ} {f g : Frame} {k : ℕ} {r : Result ℤ PlusEnd} → next p env n f ≡ Goes g → Derives p env n g k r → Derives p env n f (suc k) r
  call_ends : {n q : ℕ} {f g : Frame} {arguments : List ℤ} {finish : ℤ → ℤ} {m : ℕ} {e : PlusEnd} → next p env n f
      ≡ Calls q arguments finish g → Derives p env q (opening_frame (procedure_at p q) arguments) m (Err e) → Derives p env n f (suc m) (Err e)
  call_gives : {n q : ℕ} {f g h : Frame} {arguments : List ℤ} {finish : ℤ → ℤ} {m k : ℕ} {v : ℤ} {r : Result ℤ PlusEnd} → next p env n f
      ≡ Calls q arguments finish g → Derives p env q (opening_frame (procedure_at p q) arguments) m (Ok v) → push_value (finish v) g
      ≡ Goes h → Derives p env n h k r → Derives p env n f (suc (m + k)) r

-- the value or the end of a procedure with these arguments
abbrev pub Evaluates : Parts → Environment → ℕ → List ℤ → Result ℤ PlusEnd → Type 0
Evaluates p env n arguments r = (count : ℕ) × Derives p env n (opening_frame (procedure_at p n) arguments) count r
