use Rattle.std.proofs.Common.{length}
use Rattle.gw_pieces.specs.Order.{lookup_of, search_of, search_to}
use Rattle.gw_pieces.proofs.Visiting.{next_place}
use Rattle.gw_pieces.proofs.order.visit_each.Goals as goal

pub loop-place-preserved : goal.loop-place-preserved
loop-place-preserved c =
    let l = lookup_of c.args.text.now in
    let most = length c.args.text.now.origins.now in
    next_place l (search_to l most) _ (search_of c.loop-place.order) (search_of c.visit.new.order) c.loop-place.place most
    c.loop-place-test.true c.in_ok-visit.ensures c.loop-place.invariant
