use Rattle.std.proofs.Common.{◌∙◌}
use Rattle.gw_transactions.proofs.Populations.{live_is}
use Rattle.gw_transactions.proofs.Transactions.live.Goals as goal

pub returns : goal.returns
returns c = c.len.ensures ∙ live_is c.self.inside c.self.invariant.0 _ c.self.view_is
