use Rattle.std.proofs.Common.{◌≡◌}
use Rattle.gw_load.proofs.dear.done_beside.Given as goal

abbrev pub invariant-loop-spec : goal.invariant-loop-spec
invariant-loop-spec g l =
    (goal.iterator-loop-spec g).can_next l.spec-iterator
    × (goal.iterator-loop-spec g).is_finite l.spec-iterator
    × (l.crew.board ≡ l.fn.service)
