use Rattle.std.proofs.Common.{length}
use Rattle.gw_rounds.proofs.rounds.+comes_round.Given as goal

abbrev pub decreases-comes_round : goal.decreases-comes_round
decreases-comes_round l = length l.others.now
