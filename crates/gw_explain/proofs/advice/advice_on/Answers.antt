use Rattle.gw_explain.specs.Codes.{advice_words}
use Rattle.gw_explain.proofs.Coded.{coded_as}
use Rattle.gw_explain.proofs.advice.advice_on.Goals as goal

pub returns-clause-codes : goal.returns-clause-codes
unfolding advice_words
returns-clause-codes c = coded_as _ c.advice_in.result c.args.code c.advice_in.ensures
