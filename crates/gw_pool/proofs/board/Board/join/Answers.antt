use Rattle.std.proofs.Common.{arith, ap, sym, ◌∙◌}
use Rattle.gw_pool.specs.Board.{Seat}
use Rattle.gw_pool.proofs.Steps.{joins}
use Rattle.gw_pool.proofs.board.Board.join.Goals as goal

pub join_seat-requires : goal.join_seat-requires
join_seat-requires c = (
  ap (λ (s : Seat). s.board) c.seat.view_is ∙ c.requires.first ∙ sym c.self.view_is,
  ap (λ (s : Seat). s.board) c.other.view_is ∙ c.requires.second ∙ sym c.self.view_is,
  c.other.invariant,
  omega (arith, c.self.invariant),
  joins _ _ _ _,
)
