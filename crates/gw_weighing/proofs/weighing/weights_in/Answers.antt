use Rattle.std.proofs.Common.{subst}
use Rattle.std.proofs.lemmas.Result.{IfOk-weaker}
use Rattle.gw_object.specs.declared.parts.Parts.{Parts}
use Rattle.gw_weighing.specs.Certificates.{AreLeast}
use Rattle.gw_weighing.proofs.Spelled.{is_counted}
use Rattle.gw_weighing.proofs.weighing.weights_in.Goals as goal

pub weights_of-requires : goal.weights_of-requires
weights_of-requires c = rw c.parts.ensures.value (is_counted c.args.object.now c.parts.ensures.limits)

pub returns : goal.returns
returns c =
    let o = c.args.object.now in
    IfOk-weaker c.weights_of.result _ _
    (λ w h. subst (λ (p : Parts). AreLeast p w.blocks.items w.chains.items) c.parts.ensures.value
    (h (rw c.parts.ensures.value (o.weights, o.chain_weights, c.parts.ensures.limits)))) c.weights_of.ensures
