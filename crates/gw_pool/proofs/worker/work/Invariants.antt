use Rattle.std.proofs.Common.{◌≡◌, ◌≤◌}
use Rattle.gw_pool.specs.Workers.{most_steps}
use Rattle.gw_pool.proofs.worker.work.Given as goal

abbrev pub invariant-loop : goal.invariant-loop
invariant-loop g l =
    (goal.iterator-loop g).can_next l.iterator' × (goal.iterator-loop g).is_finite l.iterator'
    × (l.share.parts ≡ 1) × (l.share.rows ≡ 0) × (l.share.steps ≤ most_steps)
    × (l.seat.board ≡ l.service)
