use Rattle.std.proofs.Common.{arith, ap, sym, ◌∙◌}
use Rattle.gw_pool.specs.Board.{Seat}
use Rattle.gw_pool.proofs.Steps.{splits}
use Rattle.gw_pool.proofs.board.Board.split_off.Goals as goal

pub split_seat-inner-requires : goal.split_seat-inner-requires
split_seat-inner-requires c = (ap (λ (s : Seat). s.board) c.seat.view_is ∙ c.requires ∙ sym c.self.view_is, omega (arith, c.self.invariant), splits _ _)
