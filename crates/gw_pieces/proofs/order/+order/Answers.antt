use Rattle.std.proofs.Common.{◌∙◌, ◌<◌, sym, ap, arith}
use Rattle.std.specs.Prelude.{slice_get}
use Rattle.gw_pieces.specs.Order.{lookup_of, search_of, search_to, origin_unless_visited}
use Rattle.gw_pieces.proofs.Succeeding.{on_ok}
use Rattle.gw_pieces.proofs.Visiting.{visited, not_deeper, less_deep}
use Rattle.gw_pieces.proofs.order.+order.Goals as goal

pub visit-returns-in_ok-visit_callees-in-Some : goal.visit-returns-in_ok-visit_callees-in-Some
visit-returns-in_ok-visit_callees-in-Some t c =
    let l = lookup_of c.args.text.now in
    let before = search_of c.args.order.now in
    let is = sym c.in-Some.is ∙ c.unvisited.ensures
    ∙ ap (λ v. origin_unless_visited (slice_get v c.args.place) (slice_get l.origins c.args.place)) c.deref.ensures.value in
    on_ok c.put_origin.result
    (λ grown. visited l (search_to l c.args.depth) before _ (search_of c.visit_callees.new.order) c.args.place c.in-Some.origin _ is
    (ap (λ v. record { visited = v; done = before.done }) c.mark.ensures) c.in_ok-visit_callees-in-Some.ensures grown) c.put_origin.ensures

pub visit_callees-returns-then-depth-eq0 : goal.visit_callees-returns-then-depth-eq0
visit_callees-returns-then-depth-eq0 t c = not_deeper (lookup_of c.args.text.now) c.args.depth (search_of c.args.order.now) _ c.if-depth-eq0.true

pub visit_callees-returns : goal.visit_callees-returns
visit_callees-returns t c =
    let l = lookup_of c.args.text.now in
    let s = search_of c.args.order.now in
    let some : 0 < c.args.depth = omega (arith, c.if-depth-eq0.false) in
    let places = c.deref.ensures.value ∙ c.in_ok-callees.ensures in
    on_ok c.visit_all.result (λ is. is ∙ less_deep l c.args.depth s c.deref.result.now some ∙ ap (search_to l c.args.depth s) places) c.visit_all.ensures
