-- What may be evaluated at a block that the active transaction meets.
use Rattle.std.proofs.Common.{List, [], ◌∷◌, Option, Some, None}
use Rattle.std.specs.Prelude.{All, IfSome, option_to_list}
use Rattle.std.proofs.lemmas.List.Elements.{All-head, All-tail}
use Rattle.gw_object.specs.declared.blocks.Operand.{Operand}
use Rattle.gw_object.specs.declared.blocks.Spread.{Spread}
use Rattle.gw_object.specs.declared.parts.Parts.{Parts}
use Rattle.gw_rules.specs.Environment.{Environment}
use Rattle.gw_step.specs.Operands.{MayEvaluate, MayDraw}

module _ (p : Parts) (env : Environment) where
  pub first_may : (o : Operand) (os : List Operand) → All (MayEvaluate p env) (o ∷ os) → MayEvaluate p env o
  first_may o os may = All-head (MayEvaluate p env) o os may

  pub second_may : (a b : Operand) (os : List Operand) → All (MayEvaluate p env) (a ∷ b ∷ os) → MayEvaluate p env b
  second_may a b os may = first_may b os (All-tail (MayEvaluate p env) a (b ∷ os) may)

  pub time_may : (time : Spread) → All (MayEvaluate p env) (time.mean ∷ time.half ∷ []) → MayDraw p env time
  time_may time may = record { mean = first_may time.mean (time.half ∷ []) may; half = second_may time.mean time.half [] may }

  pub argument_may : (o : Option Operand) → All (MayEvaluate p env) (option_to_list o) → IfSome o (MayEvaluate p env)
  argument_may None may = tt
  argument_may (Some o) may = first_may o [] may
