-- What an activation of a procedure stands for, and what its steps tell.
use Rattle.std.specs.Prelude.{◌≡◌, ℕ, ◌+◌, ◌-◌, ◌≤◌, ◌<◌, ℤ, List, [], ◌∷◌, length, map, take, slice_get, slice_set, Option, Some, Result, Bool}
use Rattle.std.specs.Prelude.{false, if◌then◌else◌, not, ◌==◌, ◌&&◌, ◌||◌}
use Rattle.gw_object.specs.Limits.{most_backs}
use Rattle.gw_object.specs.CodeGrammar.{is_back}
use Rattle.gw_object.specs.declared.code.Instruction.{Instruction}
use Rattle.gw_object.specs.declared.code.Instruction.TheVariants.{Value, Call}
use Rattle.gw_object.specs.declared.code.Procedure.{Procedure}
use Rattle.gw_object.specs.declared.code.Sna.{Sna}
use Rattle.gw_object.specs.declared.parts.Parts.{Parts}
use Rattle.gw_object.specs.Grammar.{HasSpelling}
use Rattle.gw_rules.specs.Sources.{as_operand}
use Rattle.gw_rules.specs.Code.{procedure_at}
use Rattle.gw_rules.specs.Environment.{Environment}
use Rattle.gw_rules.specs.PlusLaws.{MayBegin, CodeHolds}
use Rattle.gw_rules.specs.Results.{value_by_operand}
use Rattle.gw_rules.specs.PlusChecks.{PlusPasses}
use Rattle.gw_rules.specs.declared.ends.PlusEnd.{PlusEnd}
use Rattle.gw_rules.specs.Meaning.{Taken, Frame, Next, taken_at, take_once, Goes, Calls, Returns, Ends, Derives, opening_frame, on, reads, calls, act}
use Rattle.gw_plus.specs.Reading.{environment_of}
use Rattle.gw_plus.specs.declared.env.Env.{Env}
use Rattle.gw_plus.specs.declared.activation.Turns.{Turns}
use Rattle.gw_plus.specs.declared.activation.Activation.{Activation}
use Rattle.gw_plus.specs.declared.activation.Step.{Step}
use Rattle.gw_plus.specs.declared.activation.Step.TheVariants.{Went, Called, Returned, Ended}

-- the code of a checked object: it keeps the format and kinds, and passes
pub record HasGoodCode (p : Parts) : Type 0 where
  pub fits : HasSpelling p
  pub holds : CodeHolds p
  pub passes : PlusPasses p

-- how often each BACK was taken
abbrev pub taken_of : List Turns → Taken
taken_of turns = map (λ (t : Turns). (t.place, t.count)) turns

-- where an activation stands
abbrev pub frame_of : Activation → Frame
frame_of a = record { place = a.place; stack = a.stack.items; locals = a.locals.items; taken = taken_of a.turns.items }

-- a frame without the value on top of its stack
abbrev pub without_top : Frame → Frame
without_top f = record f { stack = take (length f.stack - 1) f.stack }

-- where an activation begins that has these locals
abbrev pub first_frame : List ℤ → Frame
first_frame locals = record { place = 0; stack = []; locals = locals; taken = [] }

-- an activation of the procedure n that may begin does so with these locals
pub record Begins (p : Parts) (env : Environment) (n : ℕ) (locals : List ℤ) : Type 0 where
  pub procedure : Procedure
  pub arguments : List ℤ
  pub may : MayBegin p env n procedure arguments
  pub locals_are : locals ≡ (opening_frame (Some procedure) arguments).locals

-- COUNTS

-- whether the BACK at k was taken yet
abbrev pub is_taken : Taken → ℕ → Bool
is_taken [] k = false
is_taken (x ∷ xs) k = x.0 == k || is_taken xs k

-- the BACK at k can be counted: it was taken before, or fewer were than there may be
abbrev pub CanCount : Taken → ℕ → Type 0
CanCount taken k = is_taken taken k ≡ false → length taken < most_backs

-- the entry of a number is that for the BACK at k, which is counted as before
abbrev pub HasEntry : ℕ → ℕ → List Turns → List Turns → Type 0
HasEntry entry k old new = slice_get (taken_of new) entry ≡ Some (k, taken_at (taken_of old) k)

-- the BACK at k was taken once more as soon as the entry of a number counts one more
abbrev pub CountsByEntry : ℕ → ℕ → List Turns → List Turns → Type 0
CountsByEntry entry k old new =
    (n : ℕ) → n ≡ taken_at (taken_of old) k + 1 → slice_set (taken_of new) entry (k, n) ≡ take_once (taken_of old) k

-- how many BACKs there are, among these instructions from number k on, that weren't taken yet
abbrev pub untaken_backs : Taken → ℕ → List Instruction → ℕ
untaken_backs taken k [] = 0
untaken_backs taken k (i ∷ code) = (if is_back i && not (is_taken taken k) then 1 else 0) + untaken_backs taken (k + 1) code

-- each BACK of a code can be counted, also those that weren't taken yet
abbrev pub CanCountEach : List Instruction → Taken → Type 0
CanCountEach code taken = length taken + untaken_backs taken 0 code ≤ most_backs

-- STEPS

-- what an instruction makes of the value of the procedure that it calls: VALUE what its attribute makes of it, and CALL leaves it as it is
abbrev pub finish_of : Parts → Instruction → ℤ → ℤ
finish_of p (Value sna) = value_by_operand p.entities (as_operand sna)
finish_of p other = λ v. v

-- an activation did what comes next, which is what this instruction does: it stands here then, and its step tells what was called, returned or ended
abbrev pub Did : Parts → Instruction → Next → Step → Frame → Type 0
Did p i next Went f = next ≡ Goes f
Did p i next (Called q locals) f = (arguments : List ℤ) × (next ≡ Calls q arguments (finish_of p i) f)
    × (locals.items ≡ (opening_frame (procedure_at p q) arguments).locals)
Did p i next (Returned v) f = next ≡ Returns v
Did p i next (Ended end) f = next ≡ Ends end

-- an activation did what comes next and called nothing, so this says the same of each object and each instruction
abbrev pub DidAlone : Next → Step → Frame → Type 0
DidAlone next step f = (p : Parts) (i : Instruction) → Did p i next step f

-- BY ACTIVATIONS

-- the value on top of an activation's stack, if there is one
abbrev pub top_of : Activation → Option ℤ
top_of a = slice_get a.stack.items (length a.stack.items - 1)

-- an instruction of any kind that makes this of a frame did so to an activation
abbrev pub Does : (Frame → Next) → Activation → Activation → Step → Type 0
Does next old new step = DidAlone (next (frame_of old)) step (frame_of new)

-- an instruction of any kind called this procedure, without arguments
abbrev pub CallsAlone : Parts → ℕ → Activation → Activation → Step → Type 0
CallsAlone p q old new step = (i : Instruction) → Did p i (Calls q [] (finish_of p i) (on (frame_of old))) step (frame_of new)

-- CALL called this procedure
abbrev pub DoesCall : Parts → ℕ → Activation → Activation → Step → Type 0
DoesCall p q old new step = Did p (Call q) (calls p q (frame_of old)) step (frame_of new)

-- what the VALUE of an attribute makes of an activation
abbrev pub next_read : Parts → Env → Sna → Activation → Next
next_read p env sna a = reads p (environment_of env) sna (frame_of a)

-- what an instruction does
abbrev pub next_of : Parts → Env → Instruction → Activation → Next
next_of p env i a = act p (environment_of env) i (frame_of a)

-- the VALUE of an attribute did so
abbrev pub DoesRead : Parts → Env → Sna → Activation → Activation → Step → Type 0
DoesRead p env sna old new step = Did p (Value sna) (next_read p env sna old) step (frame_of new)

-- an instruction did what it does
abbrev pub DoesInstruction : Parts → Env → Instruction → Activation → Activation → Step → Type 0
DoesInstruction p env i old new step = Did p i (next_of p env i old) step (frame_of new)

-- the instruction that comes next can be counted as a BACK
abbrev pub CanCountNext : Activation → Type 0
CanCountNext a = CanCount (taken_of a.turns.items) a.place

-- the procedure of a number that begins with these locals has this value, or ends so
abbrev pub Activates : Parts → Env → ℕ → List ℤ → Result ℤ PlusEnd → Type 0
Activates p env number locals result = (count : ℕ) × Derives p (environment_of env) number (first_frame locals) count result
