use Rattle.std.proofs.Common.{◌≡◌}
use Rattle.gw_load.proofs.settling.settle.Given as goal

abbrev pub invariant-loop-diary : goal.invariant-loop-diary
invariant-loop-diary g l = l.seat.board ≡ l.fn.service
