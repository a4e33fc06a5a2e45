use Rattle.std.proofs.Common.{arith, ap, sym, ◌∙◌}
use Rattle.gw_pool.specs.Board.{Seat}
use Rattle.gw_pool.proofs.Steps.{reads}
use Rattle.gw_pool.proofs.board.Board.progress.Goals as goal

pub load-requires : goal.load-requires
load-requires c = (
  ap (λ (s : Seat). s.board) c.seat.view_is ∙ c.requires.board ∙ sym c.self.view_is,
  omega (arith, c.self.invariant, c.requires.slot),
  reads _ _ _ _ c.requires.slot,
)
