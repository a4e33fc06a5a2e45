use Rattle.std.proofs.Common.{◌≡◌, suc, false, List, [], ◌∷◌, length, not, refl, ◌==◌, ap, ◌∙◌, arith}
use Rattle.std.proofs.lemmas.Bool.Decides.{nat_tests}
use Rattle.gw_object.specs.declared.code.Instruction.{Instruction}
use Rattle.gw_rules.specs.PlusChecks.{has_code}
use Rattle.gw_code_flow.proofs.check.has_code.Goals as goal

not_empty : (code : List Instruction) → not (length code == 0) ≡ has_code code
not_empty [] = refl
not_empty (i ∷ code) = let some : (suc (length code) == 0) ≡ false = grind (arith, nat_tests) in rw some refl

pub returns : goal.returns
returns c = ap not c.is_empty.ensures ∙ not_empty c.args.code.now
