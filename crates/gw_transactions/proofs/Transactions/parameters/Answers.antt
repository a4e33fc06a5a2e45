use Rattle.std.proofs.Common.{ap, arith, sym, ◌∙◌}
use Rattle.std.specs.Option.{option_map_or}
use Rattle.std.proofs.lemmas.Grind.{common_steps}
use Rattle.gw_transactions.specs.Parameters.{no_parameters}
use Rattle.gw_transactions.specs.Transactions.{LiveTransaction, Population}
use Rattle.gw_transactions.proofs.Populations.{held, value_of}
use Rattle.gw_transactions.proofs.Transactions.parameters.Goals as goal

pub index-requires : goal.index-requires
index-requires c = let slot = held c.self.inside c.self.invariant.0 _ c.self.view_is c.args.tx c.requires in grind (arith, common_steps, slot.1)

pub row-requires : goal.row-requires
row-requires c = c.self.invariant.4

pub returns : goal.returns
returns c =
    ap (λ last. record { values = c.row.result.now.values; last = last })
    (c.row.ensures.last (c.self.invariant.3.alike c.args.tx.place c.index.result.now c.index.ensures) ∙ ap (λ (p : Population). p.last) c.self.view_is)
    ∙ ap (λ values. record { values = values; last = c.args.self.now.last })
    (c.row.ensures.values
    ∙ sym (ap (λ t. option_map_or (λ (t : LiveTransaction). t.parameters) t no_parameters)
    (value_of c.self.inside c.self.invariant.0 _ c.self.view_is c.args.tx c.requires _ c.index.ensures)))
