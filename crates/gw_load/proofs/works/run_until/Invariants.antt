use Rattle.std.proofs.Common.{◌≡◌}
use Rattle.gw_load.proofs.works.run_until.Given as goal

abbrev pub invariant-loop : goal.invariant-loop
invariant-loop g l =
    (goal.iterator-loop g).can_next l.iterator'
    × (goal.iterator-loop g).is_finite l.iterator'
    × (l.crew.board ≡ l.fn.service)
