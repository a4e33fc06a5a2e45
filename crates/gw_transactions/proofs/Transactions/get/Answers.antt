use Rattle.std.proofs.Common.{ap, arith, option_map}
use Rattle.gw_transactions.specs.Transactions.{LiveTransaction}
use Rattle.std.proofs.lemmas.Grind.{common_steps}
use Rattle.gw_transactions.proofs.Populations.{held, value_of, sound_of}
use Rattle.gw_transactions.proofs.Transactions.get.Goals as goal

pub index-requires : goal.index-requires
index-requires c = let slot = held c.self.inside c.self.invariant.0 _ c.self.view_is c.args.tx c.requires in grind (arith, common_steps, slot.1)

pub returns-clause-value : goal.returns-clause-value
returns-clause-value c =
    ap (option_map (λ (t : LiveTransaction). t.attributes)) (value_of c.self.inside c.self.invariant.0 _ c.self.view_is c.args.tx c.requires _ c.index.ensures)

pub returns-clause-sound : goal.returns-clause-sound
returns-clause-sound c = sound_of c.self.inside c.self.invariant.0 _ c.self.view_is
