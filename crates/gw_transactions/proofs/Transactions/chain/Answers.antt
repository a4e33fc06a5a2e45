use Rattle.std.proofs.Common.{ap, arith, sym}
use Rattle.std.proofs.lemmas.Grind.{common_steps}
use Rattle.gw_transactions.specs.Transactions.{chain_of}
use Rattle.gw_transactions.proofs.Populations.{held, value_of}
use Rattle.gw_transactions.proofs.Transactions.chain.Goals as goal

pub index-requires : goal.index-requires
index-requires c = let slot = held c.self.inside c.self.invariant.0 _ c.self.view_is c.args.tx c.requires in grind (arith, common_steps, slot.1)

pub returns : goal.returns
returns c = sym (ap chain_of (value_of c.self.inside c.self.invariant.0 _ c.self.view_is c.args.tx c.requires _ c.index.ensures))
