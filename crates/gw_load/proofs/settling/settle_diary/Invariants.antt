use Rattle.std.proofs.Common.{◌≡◌}
use Rattle.gw_load.proofs.settling.settle_diary.Given as goal

abbrev pub invariant-loop-row : goal.invariant-loop-row
invariant-loop-row g l = l.seat.board ≡ l.fn.service
