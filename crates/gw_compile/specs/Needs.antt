-- The parameters that a procedure needs: those for which its code asks, by their numbers, ascending.
use Rattle.std.specs.Prelude.{◌≡◌, ℕ, List, [], ◌∷◌, Result, OnOk, Vec, if◌then◌else◌, ◌==◌, nat_lt, slice_get}
use Rattle.std.specs.Global.{Global}
use Rattle.gw_object.specs.declared.blocks.Operand.{Operand}
use Rattle.gw_object.specs.declared.blocks.Operand.TheVariants as operands
use Rattle.gw_object.specs.declared.code.Instruction.{Instruction}
use Rattle.gw_object.specs.declared.code.Instruction.TheVariants.{Value, Call}
use Rattle.gw_object.specs.declared.code.Procedure.{Procedure}
use Rattle.gw_object.specs.declared.code.Sna.{Sna}
use Rattle.gw_object.specs.declared.code.Sna.TheVariants as snas
use Rattle.gw_rules.specs.Code.{needs_of}
use Rattle.gw_compile.specs.Numbers.{Numbers}

-- what is evaluated for an attribute in the end
abbrev pub source_in : Numbers → Sna → Operand
source_in n (snas.Parameter x) = operands.Parameter x
source_in n (snas.Attribute a) = operands.Attribute a
source_in n (snas.OfEntity of) = n.source of

-- the parameters for which a source asks: the one that it reads, or those that the procedure needs that it calls, where that one is compiled already
abbrev pub asked_by : List Procedure → Operand → List ℕ
asked_by procedures (operands.Parameter x) = x ∷ []
asked_by procedures (operands.Procedure q) = needs_of (slice_get procedures q)
asked_by procedures source = []

-- and an instruction
abbrev pub asks : Numbers → List Procedure → Instruction → List ℕ
asks n procedures (Value sna) = asked_by procedures (source_in n sna)
asks n procedures (Call q) = needs_of (slice_get procedures q)
asks n procedures instruction = []

-- ascending numbers, with this one among them
abbrev pub with_number : ℕ → List ℕ → List ℕ
with_number x [] = x ∷ []
with_number x (y ∷ ys) = if x == y then y ∷ ys else if nat_lt x y then x ∷ y ∷ ys else y ∷ with_number x ys

-- and with these
abbrev pub with_numbers : List ℕ → List ℕ → List ℕ
with_numbers [] needs = needs
with_numbers (x ∷ xs) needs = with_numbers xs (with_number x needs)

-- and with those for which these instructions ask
abbrev pub needs_with : Numbers → List Procedure → List Instruction → List ℕ → List ℕ
needs_with n procedures [] needs = needs
needs_with n procedures (i ∷ code) needs = needs_with n procedures code (with_numbers (asks n procedures i) needs)

-- the parameters for which code asks
abbrev pub needs_in : Numbers → List Procedure → List Instruction → List ℕ
needs_in n procedures code = needs_with n procedures code []

-- these are the parameters for which code asks
abbrev pub AreNeeds : Numbers → List Procedure → List Instruction → Vec ℕ Global → Type 0
AreNeeds n procedures code needs = needs.items ≡ needs_in n procedures code

-- unless there is no memory for them, these numbers come among ascending ones
abbrev pub AddsNeeds : {A E : Type 0} → Result A E → Vec ℕ Global → Vec ℕ Global → List ℕ → Type 0
AddsNeeds result old new more = OnOk result (new.items ≡ with_numbers more old.items)
