use Rattle.std.proofs.Common.{arith, ap, sym, ◌∙◌}
use Rattle.gw_pool.specs.Board.{Seat}
use Rattle.gw_pool.proofs.Steps.{publishes}
use Rattle.gw_pool.proofs.board.Board.publish.Goals as goal

pub fetch_max-requires : goal.fetch_max-requires
fetch_max-requires c = (
  ap (λ (s : Seat). s.board) c.seat.view_is ∙ c.requires ∙ sym c.self.view_is,
  omega (arith, c.self.invariant, c.slot-slot.ensures.range),
  publishes _ _ _ _ _ c.slot-slot.ensures.range c.steps-steps.ensures.range,
)
