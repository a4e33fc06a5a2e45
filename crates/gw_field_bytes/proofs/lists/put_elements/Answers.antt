use Rattle.gw_field_bytes.proofs.Receiving.{one_more_put}
use Rattle.gw_field_bytes.proofs.lists.put_elements.Goals as goal

pub loop-element-preserved : goal.loop-element-preserved
loop-element-preserved g c =
    one_more_put g.T.Put.spelling c.args.elements.now c.loop-element.element-index c.element-item.result _ _ _ c.loop-element-test.true
    c.element-item.is c.loop-element.invariant c.in_ok-put_into.ensures
