use Rattle.std.proofs.Common.{length}
use Rattle.gw_explain.proofs.advice.+advice_in.Given as goal

abbrev pub decreases-advice_in : goal.decreases-advice_in
decreases-advice_in l = length l.rows.now
