use Rattle.std.proofs.Common.{◌≡◌, ◌+◌, ◌*◌, drop}
use Rattle.gw_pieces.specs.Order.{lookup_of, search_of, search_to, visit_each}
use Rattle.gw_pieces.proofs.order.+order.Given as goal

-- each round goes less deep
abbrev pub decreases-visit : goal.decreases-visit
decreases-visit l = 3 * l.depth + 1

abbrev pub decreases-visit_callees : goal.decreases-visit_callees
decreases-visit_callees l = 3 * l.depth

abbrev pub decreases-visit_all : goal.decreases-visit_all
decreases-visit_all l = 3 * l.depth + 2

-- those that are left are still to be visited
abbrev pub invariant-visit_all-loop-i : goal.invariant-visit_all-loop-i
invariant-visit_all-loop-i l = visit_each (lookup_of l.text) (search_to (lookup_of l.text) l.depth) (search_of l.fn.order) l.places
    ≡ visit_each (lookup_of l.text) (search_to (lookup_of l.text) l.depth) (search_of l.order) (drop l.i l.places)
