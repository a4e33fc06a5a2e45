use Rattle.std.specs.Prelude.{◌≡◌}
use Rattle.gw_pool_tests.proofs.tests.boards.readings_rise.Given as goal

abbrev pub invariant-loop : goal.invariant-loop
invariant-loop l = l.seat.board ≡ l.board
