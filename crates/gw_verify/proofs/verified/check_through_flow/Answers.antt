use Rattle.std.proofs.Common.{inl}
use Rattle.std.proofs.lemmas.Result.{err_from_is_err_and}
use Rattle.gw_rules.proofs.Broken.{stops_first}
use Rattle.gw_rules.specs.Flow.{own_table, flow_checks}
use Rattle.gw_flow.proofs.Found.{found_later}
use Rattle.gw_rules.specs.Accepted.{first_checks, checks}
use Rattle.gw_verify.proofs.verified.check_through_flow.Goals as goal

pub returns-in_err-check_first-clause-found : goal.returns-in_err-check_first-clause-found
unfolding checks
returns-in_err-check_first-clause-found c =
    let p = err_from_is_err_and c.from_residual.result c.from_residual.ensures.1 in
    rw (p.1, p.2) (inl (stops_first (first_checks c.args.object.now) (flow_checks c.args.object.now (own_table c.args.object.now)) _
    c.in_err-check_first.ensures.found))

pub returns-clause-found : goal.returns-clause-found
unfolding checks
returns-clause-found c =
    found_later c.check_flow.result (first_checks c.args.object.now) (flow_checks c.args.object.now (own_table c.args.object.now))
    c.in_ok-check_first.ensures.found c.check_flow.ensures
