use Rattle.std.proofs.Common.{◌≡◌, ◌∙◌}
use Rattle.gw_plus.proofs.GoodCode.{good_code}
use Rattle.gw_plus.proofs.evaluation.eval.Goals as goal

pub activate-requires-clause-code : goal.activate-requires-clause-code
activate-requires-clause-code c =
    let same : c.parts-parts.result.now ≡ c.args.verified.now = c.parts-parts.ensures.value ∙ c.object.ensures.value in
    rw same (good_code c.args.verified.now (rw c.object.ensures.value at c.parts-parts.ensures.limits) c.object.ensures.checked)
