use Rattle.std.proofs.Common.{sym, ◌∙◌}
use Rattle.std.proofs.lemmas.Result.{IfOk-weaker}
use Rattle.gw_slopes.proofs.Alike.{differ_alike}
use Rattle.gw_slopes.proofs.search.helps.Goals as goal

pub returns : goal.returns
returns c =
    let p = c.args.parts.now in
    IfOk-weaker c.passes_with.result _ _ (λ b t. record {
      alike = differ_alike p c.passes_with.new.parts t.rest;
      tried = λ h. sym c.is_tried.ensures ∙ c.if-not-is_tried.false;
      trial = λ h. t;
      none = λ h tried. t.none h;
    })
    c.passes_with.ensures.tried
