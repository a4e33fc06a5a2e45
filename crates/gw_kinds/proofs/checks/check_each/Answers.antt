use Rattle.std.proofs.Common.{◌∙◌, ◌+◌, ap, sym, arith}
use Rattle.std.proofs.lemmas.Result.{err_from_is_err_and}
use Rattle.gw_rules.specs.Checks.{first_broken}
use Rattle.gw_rules.proofs.Broken.{goes_on, stops, is_done}
use Rattle.gw_kinds.proofs.checks.check_each.Goals as goal

pub loop-i-preserved : goal.loop-i-preserved
loop-i-preserved g c =
    let checks = g.C.NumberedChecks.checks c.args.checks.now c.args.parts.now in
    let number = c.args.first + c.loop-i.i in
    let same = ap (λ x. first_broken (checks number x)) (sym c.index-elements-i.is) in
    goes_on checks number c.args.elements.now c.loop-i.i c.index-elements-i.result _ c.loop-i-test.true c.loop-i.invariant _ (omega arith)
    (same ∙ c.in_ok-check_one.ensures)

pub returns-in_err-check_one : goal.returns-in_err-check_one
returns-in_err-check_one g c =
    let checks = g.C.NumberedChecks.checks c.args.checks.now c.args.parts.now in
    let number = c.args.first + c.loop-i.i in
    let same = ap (λ x. first_broken (checks number x)) (sym c.index-elements-i.is) in
    let found = stops checks number c.args.elements.now c.loop-i.i c.index-elements-i.result _ c.loop-i-test.true c.loop-i.invariant _
    (same ∙ c.in_err-check_one.ensures) in
    let p = err_from_is_err_and c.from_residual.result c.from_residual.ensures.1 in
    rw (p.1, p.2) found

pub returns : goal.returns
returns g c =
    is_done (g.C.NumberedChecks.checks c.args.checks.now c.args.parts.now) (c.args.first + c.loop-i.i) c.args.elements.now c.loop-i.i _
    c.loop-i-test.false c.loop-i.invariant
