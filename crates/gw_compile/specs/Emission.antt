-- The code of expressions, behind code that stands.
use Rattle.std.specs.Prelude.{◌≡◌, ℕ, ◌+◌, List, [], ◌∷◌, ◌++◌, length, Result, OnOk, Vec}
use Rattle.std.specs.Global.{Global}
use Rattle.std.specs.Borrow.{Bor}
use Rattle.std.specs.List.{flat_map}
use Rattle.gw_object.specs.declared.code.Instruction.{Instruction}
use Rattle.gw_object.specs.declared.code.Instruction.TheVariants.{JumpIfZero}
use Rattle.gw_text_expressions.specs.declared.model.Expression.{Expression}
use Rattle.gw_compile.specs.Numbers.{Numbers}
use Rattle.gw_compile.specs.Scope.{scope_of}
use Rattle.gw_compile.specs.Code.{expression_code}

-- unless there is a fault, these instructions come behind others
abbrev pub Puts : {A E : Type 0} → Result A E → Vec Instruction Global → Vec Instruction Global → List Instruction → Type 0
Puts result old new more = OnOk result (new.items ≡ old.items ++ more)

-- by what names stand for, where these locals hold
module _ {A E : Type 0} (result : Result A E) (old new : Vec Instruction Global) (n : Numbers) (locals : List (Bor (List ℕ))) where
  -- the code of an expression comes behind others
  abbrev pub Emits : Expression → Type 0
  Emits e = Puts result old new (expression_code n (scope_of locals) e)

  -- that of several does, in order
  abbrev pub EmitsAll : List Expression → Type 0
  EmitsAll es = Puts result old new (flat_map (expression_code n (scope_of locals)) es)

  -- and that of a test, with a jump that is to lead on from there
  abbrev pub EmitsTest : Expression → Type 0
  EmitsTest test = Puts result old new (expression_code n (scope_of locals) test ++ JumpIfZero 0 ∷ [])

-- a place is the one behind the code of an expression that comes behind other code
abbrev pub IsBehind : Numbers → List (Bor (List ℕ)) → Expression → Vec Instruction Global → ℕ → Type 0
IsBehind n locals e old place = place ≡ length old.items + length (expression_code n (scope_of locals) e)
