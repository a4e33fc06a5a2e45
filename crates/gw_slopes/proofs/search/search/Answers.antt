use Rattle.std.proofs.Common.{refl, arith, sym, ◌∙◌}
use Rattle.gw_slopes.proofs.Alike.{same_trial, same_tried, same_helps, alike_both, none_more}
use Rattle.gw_slopes.proofs.search.search.Goals as goal

pub loop-parameter-init : goal.loop-parameter-init
loop-parameter-init c = (refl, λ r some lt tried. absurd (omega (arith, some, lt)))

pub returns-then-branch : goal.returns-then-branch
returns-then-branch c =
    let p = c.args.parts.now in
    let before = c.loop-parameter.invariant in
    let o = c.loop-parameter.parts in
    let x = c.helps.new.parts in
    let q = c.loop-parameter.parameter in
    let step = c.in_ok-helps.ensures in
    let t = same_trial p o before.0 x q _ (step.trial c.if-branch.true) in
    record {
      alike = alike_both p o x before.0 step.alike;
      has = λ h. record {
        parameter = q;
        tried = same_tried p o before.0 q ∙ step.tried c.if-branch.true;
        before = before.1;
        rest = t.rest;
        slopes = t.slopes;
        passes = t.passes c.if-branch.true;
        least = t.least;
      };
      none = λ h. absurd (cc);
    }

pub loop-parameter-preserved : goal.loop-parameter-preserved
loop-parameter-preserved c =
    let p = c.args.parts.now in
    let before = c.loop-parameter.invariant in
    let o = c.loop-parameter.parts in
    let q = c.loop-parameter.parameter in
    let step = c.in_ok-helps.ensures in (
      alike_both p o c.helps.new.parts before.0 step.alike,
      none_more p q before.1 (λ tried. same_helps p o before.0 q (step.none c.if-branch.false (sym (same_tried p o before.0 q) ∙ tried))),
    )
