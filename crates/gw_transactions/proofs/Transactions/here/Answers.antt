use Rattle.std.proofs.Common.{◌∙◌, ap}
use Rattle.gw_transactions.specs.Transactions.{Population, here_count}
use Rattle.gw_transactions.proofs.Transactions.here.Goals as goal

pub returns : goal.returns
returns c = c.get.ensures ∙ c.self.invariant.2 c.args.block ∙ ap (λ (p : Population). here_count c.args.block p.txs) c.self.view_is
