use Rattle.std.proofs.Common.{arith, true, false}
use Rattle.gw_alternatives.specs.declared.study_point.StudyPoint.{StudyPoint}
use Rattle.gw_page.specs.Limits.{IsShare}
use Rattle.gw_page.proofs.Shares.{one, more, all, known}
use Rattle.gw_page.proofs.limits.are_shares.Goals as goal

pub returns-then-not-branch : goal.returns-then-not-branch
returns-then-not-branch c =
    one (λ (a : StudyPoint). IsShare c.args.number c.args.steps c.args.numbers a.spec false) c.args.points.now c.loop-i.i
    c.index-points-i.result (omega arith) c.index-points-i.is
    (known c.args.number c.args.steps c.args.numbers c.index-points-i.result _ c.in_ok-is_share.field-0 false c.index-points-i.is
    c.if-not-branch.true c.in_ok-is_share.ensures)

pub loop-i-preserved : goal.loop-i-preserved
loop-i-preserved c =
    more (λ (a : StudyPoint). IsShare c.args.number c.args.steps c.args.numbers a.spec true) c.args.points.now c.loop-i.i
    c.index-points-i.result (omega arith) c.index-points-i.is
    c.loop-i.invariant
    (known c.args.number c.args.steps c.args.numbers c.index-points-i.result _ c.in_ok-is_share.field-0 true c.index-points-i.is
    c.if-not-branch.false c.in_ok-is_share.ensures)

pub returns : goal.returns
returns c =
    all (λ (a : StudyPoint). IsShare c.args.number c.args.steps c.args.numbers a.spec true) c.args.points.now c.loop-i.i
    (omega (arith, c.loop-i-test.false)) c.loop-i.invariant
