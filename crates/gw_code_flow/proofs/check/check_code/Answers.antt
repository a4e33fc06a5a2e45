use Rattle.std.proofs.Common.{refl, ap, ◌∙◌, List, Some, [], ◌∷◌}
use Rattle.gw_object.specs.declared.code.Instruction.{Instruction}
use Rattle.gw_rules.specs.Checks.{first_broken}
use Rattle.gw_rules.specs.PlusChecks.{code_checks}
use Rattle.gw_code_flow.proofs.KnownHeights.{from_table}
use Rattle.gw_code_flow.proofs.check.check_code.Goals as goal

pub loop-i-init : goal.loop-i-init
loop-i-init c =
    ap first_broken (from_table c.args.parts.now c.args.number c.args.procedure.now _ c.as_slice-code.result.now refl)
    ∙ ap (λ (code : List Instruction). first_broken (code_checks c.args.parts.now c.args.number c.args.procedure.now (Some 0 ∷ []) 0 code))
    c.as_slice-code.ensures
