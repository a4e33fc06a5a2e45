use Rattle.std.proofs.lemmas.Result.{err_from_is_err_and}
use Rattle.gw_rules.specs.Weights.{weight_checks}
use Rattle.gw_rules.specs.Accepted.{checks}
use Rattle.gw_rules.proofs.AllPass.{first_pass}
use Rattle.gw_verify.proofs.Found.{found_first, found_last}
use Rattle.gw_verify.proofs.verified.check_all.Goals as goal

pub returns-in_err-check_through_flow-clause-found : goal.returns-in_err-check_through_flow-clause-found
returns-in_err-check_through_flow-clause-found c =
    let p = err_from_is_err_and c.from_residual.result c.from_residual.ensures.1 in
    rw (p.1, p.2) (found_first (checks c.args.object.now) (weight_checks c.args.object.now) _ c.in_err-check_through_flow.ensures.found)

pub returns-clause-found : goal.returns-clause-found
returns-clause-found c =
    found_last c.check_weights.result (checks c.args.object.now) (weight_checks c.args.object.now) c.in_ok-check_through_flow.ensures.found
    c.check_weights.ensures

pub returns-clause-first : goal.returns-clause-first
returns-clause-first c = λ fault broken.
    let none = first_pass c.args.object.now c.in_ok-check_through_flow.ensures.found in
    absurd (cc)
