use Rattle.std.proofs.Common.{◌≡◌, ◌-◌, length}
use Rattle.gw_pieces.specs.Order.{lookup_of, search_of, search_to, visit_each, numbers_from}
use Rattle.gw_pieces.proofs.order.visit_each.Given as goal

-- the origins that are left are still to be visited
abbrev pub invariant-loop-place : goal.invariant-loop-place
invariant-loop-place l =
    visit_each (lookup_of l.text) (search_to (lookup_of l.text) (length l.text.origins.now)) (search_of l.fn.order) (numbers_from 0 (length l.text.origins.now))
    ≡ visit_each (lookup_of l.text) (search_to (lookup_of l.text) (length l.text.origins.now)) (search_of l.order)
    (numbers_from l.place (length l.text.origins.now - l.place))
