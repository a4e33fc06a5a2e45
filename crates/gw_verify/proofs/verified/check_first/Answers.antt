use Rattle.std.proofs.lemmas.Result.{err_from_is_err_and}
use Rattle.gw_rules.specs.Pass.{kinds_checks}
use Rattle.gw_rules.proofs.Broken.{stops_first, joined}
use Rattle.gw_rules.specs.PlusChecks.{plus_checks}
use Rattle.gw_verify.proofs.verified.check_first.Goals as goal

pub returns-in_err-check_kinds-clause-found : goal.returns-in_err-check_kinds-clause-found
returns-in_err-check_kinds-clause-found c =
    let p = err_from_is_err_and c.from_residual.result c.from_residual.ensures.1 in
    rw (p.1, p.2) (stops_first (kinds_checks c.args.object.now) (plus_checks c.args.object.now) _ c.in_err-check_kinds.ensures)

pub returns-clause-found : goal.returns-clause-found
returns-clause-found c =
    joined c.check_plus.result (kinds_checks c.args.object.now) (plus_checks c.args.object.now) c.in_ok-check_kinds.ensures c.check_plus.ensures
