use Rattle.gw_pool.proofs.Steps.{opens}
use Rattle.gw_pool.proofs.board.Board.new.Goals as goal

pub of_words-requires : goal.of_words-requires
of_words-requires c = opens
