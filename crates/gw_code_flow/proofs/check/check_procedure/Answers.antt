use Rattle.std.proofs.lemmas.Result.{err_from_is_err_and}
use Rattle.gw_rules.proofs.Broken.{stops_first, joined}
use Rattle.gw_rules.specs.PlusChecks.{body_checks}
use Rattle.gw_code_flow.proofs.check.check_procedure.Goals as goal

pub returns-in_err-check_code-clause-checks : goal.returns-in_err-check_code-clause-checks
returns-in_err-check_code-clause-checks c =
    let of_code = body_checks c.args.parts.now c.args.number c.args.procedure.now in
    let p = err_from_is_err_and c.from_residual.result c.from_residual.ensures.1 in
    rw (p.1, p.2) (stops_first of_code _ _ c.in_err-check_code.ensures)

pub returns-clause-checks : goal.returns-clause-checks
returns-clause-checks c =
    let of_code = body_checks c.args.parts.now c.args.number c.args.procedure.now in
    joined c.check_cost.result of_code _ c.in_ok-check_code.ensures (rw c.as_slice.ensures at c.check_cost.ensures.checks)
