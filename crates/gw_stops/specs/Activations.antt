-- Where an activation of PLUS code gets stuck, and which operands have no value.
use Rattle.std.specs.Prelude.{◌≡◌, ◌⊎◌, ℕ, ◌<◌, ◌≤◌, ℤ, List, [], ◌∷◌, length, Some, None, Result, Ok, slice_get}
use Rattle.gw_num.specs.Table.{at}
use Rattle.gw_object.specs.declared.blocks.Operand.{Operand}
use Rattle.gw_object.specs.declared.blocks.Operand.TheVariants.{Parameter, Procedure}
use Rattle.gw_object.specs.declared.code.Sna.{Sna}
use Rattle.gw_object.specs.declared.code.Instruction.{Instruction}
use Rattle.gw_object.specs.declared.code.Instruction.TheVariants.{Get, Set, Value, Call}
use Rattle.gw_object.specs.declared.code.Procedure.{Procedure as Code}
use Rattle.gw_object.specs.declared.parts.Parts.{Parts}
use Rattle.gw_rules.specs.Sources.{source_of, as_operand}
use Rattle.gw_rules.specs.declared.ends.PlusEnd.{PlusEnd}
use Rattle.gw_rules.specs.Environment.{Environment}
use Rattle.gw_rules.specs.Values.{Value as Comes, operand_value}
use Rattle.gw_rules.specs.Code.{most_values, procedure_at, takes, leaves, called_in}
use Rattle.gw_rules.specs.Meaning.{Frame, Goes, Calls, Stuck, push_value, opening_frame, next, Derives}

-- STUCK ACTIVATIONS

-- from here on an activation of the procedure n gets stuck: at once, or later, or in a procedure that it calls, or where it has no room for the value of one
pub data GetsStuck (p : Parts) (env : Environment) : ℕ → Frame → Type 0 where
  at_once : {n : ℕ} {f : Frame} → next p env n f ≡ Stuck → GetsStuck p env n f
  later : {n : ℕ} {f g : Frame} → next p env n f ≡ Goes g → GetsStuck p env n g → GetsStuck p env n f
  in_a_call : {n q : ℕ} {f g : Frame} {arguments : List ℤ} {finish : ℤ → ℤ} → next p env n f ≡ Calls q arguments finish g
      → GetsStuck p env q (opening_frame (procedure_at p q) arguments) → GetsStuck p env n f
  no_room : {n q : ℕ} {f g : Frame} {arguments : List ℤ} {finish : ℤ → ℤ} {m : ℕ} {v : ℤ} → next p env n f ≡ Calls q arguments finish g
      → Derives p env q (opening_frame (procedure_at p q) arguments) m (Ok v) → push_value (finish v) g ≡ Stuck → GetsStuck p env n f
  after_a_call : {n q : ℕ} {f g h : Frame} {arguments : List ℤ} {finish : ℤ → ℤ} {m : ℕ} {v : ℤ} → next p env n f
      ≡ Calls q arguments finish g → Derives p env q (opening_frame (procedure_at p q) arguments) m (Ok v) → push_value (finish v) g
      ≡ Goes h → GetsStuck p env n h → GetsStuck p env n f

-- the instruction that an activation of the procedure n comes to
abbrev pub ComesTo : Parts → ℕ → Frame → Instruction → Type 0
ComesTo p n f i = (code : Code) × (procedure_at p n ≡ Some code) × (slice_get code.code f.place ≡ Some i)

-- an activation that gets stuck comes to no value and no named end
abbrev pub StuckActivationsHaveNoOutcome : Type 0
StuckActivationsHaveNoOutcome = (p : Parts) (env : Environment) (n : ℕ) (f : Frame) → GetsStuck p env n f → (k : ℕ) (r : Result ℤ PlusEnd)
    → Derives p env n f k r → ⊥

-- WHERE AN ACTIVATION IS STUCK

-- at an instruction that takes more values than there are on the stack
abbrev pub EmptyStackStops : Type 0
EmptyStackStops = (p : Parts) (env : Environment) (n : ℕ) (f : Frame) (i : Instruction) → ComesTo p n f i → length f.stack < takes p i → next p env n f ≡ Stuck

-- at an instruction that calls nothing and leaves more values than it takes, where the stack is full
abbrev pub FullStackStops : Type 0
FullStackStops = (p : Parts) (env : Environment) (n : ℕ) (f : Frame) (i : Instruction) → ComesTo p n f i → called_in p.entities i ≡ None
    → takes p i < leaves i → most_values ≤ length f.stack → next p env n f ≡ Stuck

-- where the value of a call comes onto a full stack
abbrev pub FullStackHasNoRoom : Type 0
FullStackHasNoRoom = (f : Frame) (v : ℤ) → most_values ≤ length f.stack → push_value v f ≡ Stuck

-- outside of its procedure's code
abbrev pub JumpOutStops : Type 0
JumpOutStops = (p : Parts) (env : Environment) (n : ℕ) (f : Frame) (code : Code) → procedure_at p n ≡ Some code → length code.code
    ≤ f.place → next p env n f ≡ Stuck

-- in a procedure that isn't there
abbrev pub AbsentProcedureStops : Type 0
AbsentProcedureStops = (p : Parts) (env : Environment) (n : ℕ) (f : Frame) → procedure_at p n ≡ None → next p env n f ≡ Stuck

-- at a CALL of one that isn't there
abbrev pub CallOfAbsentStops : Type 0
CallOfAbsentStops = (p : Parts) (env : Environment) (n : ℕ) (f : Frame) (q : ℕ) → ComesTo p n f (Call q) → procedure_at p q ≡ None → next p env n f ≡ Stuck

-- at a GET of a local that it doesn't have
abbrev pub GetOfAbsentStops : Type 0
GetOfAbsentStops = (p : Parts) (env : Environment) (n : ℕ) (f : Frame) (local : ℕ) → ComesTo p n f (Get local) → length f.locals ≤ local
    → next p env n f ≡ Stuck

-- at a SET of one
abbrev pub SetOfAbsentStops : Type 0
SetOfAbsentStops = (p : Parts) (env : Environment) (n : ℕ) (f : Frame) (local : ℕ) → ComesTo p n f (Set local) → length f.locals ≤ local
    → next p env n f ≡ Stuck

-- at a VALUE of a parameter that isn't set
abbrev pub UnsetValueStops : Type 0
UnsetValueStops = (p : Parts) (env : Environment) (n q : ℕ) (f : Frame) (sna : Sna) → ComesTo p n f (Value sna)
    → source_of p.entities (as_operand sna) ≡ Parameter q → at None env.parameters q ≡ None → next p env n f ≡ Stuck

-- OPERANDS WITHOUT A VALUE

-- a source has no value: it is a parameter that isn't set, or a procedure that gets stuck
abbrev pub HasNone : Parts → Environment → Operand → Type 0
HasNone p env (Parameter q) = at None env.parameters q ≡ None
HasNone p env (Procedure q) = GetsStuck p env q (opening_frame (procedure_at p q) [])
HasNone p env source = ⊥

-- so an operand has no value whose source has none
abbrev pub LacksValue : Parts → Environment → Operand → Type 0
LacksValue p env o = HasNone p env (source_of p.entities o)

-- of these operands, from left to right, one has no value, and each before it has one
abbrev pub OneLacksValue : Parts → Environment → List Operand → List ℕ → Type 0
OneLacksValue p env [] streams = ⊥
OneLacksValue p env (o ∷ os) streams = LacksValue p env o
    ⊎ ((value : ℤ × List ℕ) × (operand_value p env o streams ≡ Comes value) × OneLacksValue p env os value.1)
