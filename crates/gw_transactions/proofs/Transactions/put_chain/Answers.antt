use Rattle.std.proofs.Common.{refl, None, ◌∙◌, ap, arith}
use Rattle.std.proofs.lemmas.Grind.{common_steps}
use Rattle.gw_num.specs.Table.{at}
use Rattle.gw_transactions.specs.Transactions.{with_chain}
use Rattle.gw_transactions.specs.declared.Kept.{Kept}
use Rattle.gw_transactions.specs.Slots.{live_as}
use Rattle.gw_transactions.proofs.Here.{counted-kept}
use Rattle.gw_transactions.proofs.Populations.{held, value_of, counted_of, written-by, written-rest, written-fields}
use Rattle.gw_transactions.proofs.Transactions.put_chain.Goals as goal

pub index_mut-requires : goal.index_mut-requires
index_mut-requires c = let slot = held c.self.inside c.self.invariant.0 _ c.self.view_is c.args.tx c.requires in grind (arith, common_steps, slot.1)

-- what is kept of the transaction now
abbrev kept : (c : goal.After-self-1) → Kept
kept c = record { attributes = c.index_mut.result.now.1.attributes; key = c.index_mut.result.now.1.key; chain = c.args.chain }

pub invariant_of-self : goal.invariant_of-self
invariant_of-self c =
    let there = value_of c.self.inside c.self.invariant.0 _ c.self.view_is c.args.tx c.requires _ c.index_mut.ensures.value in
    let counted = counted-kept c.self.inside.here _ (counted_of c.self.inside c.self.invariant.0 _ c.self.view_is c.self.invariant.2)
    c.args.tx.number (live_as c.self.inside.beside c.index_mut.result.now.1) (live_as c.self.inside.beside (kept c)) there refl in
    let fields = written-fields c.self.inside c.self.invariant.0 _ c.self.view_is c.args.tx c.requires c.index_mut.result.now
    c.index_mut.ensures.value (kept c) c.self.inside.here c.self.invariant.1 counted c.self.invariant.3 refl in
    (fields.0, fields.1, fields.2, fields.3, c.self.invariant.4)

pub returns-clause-txs : goal.returns-clause-txs
returns-clause-txs c =
    written-by c.self.inside c.self.invariant.0 _ c.self.view_is c.args.tx c.requires c.index_mut.result.now c.index_mut.ensures.value
    (kept c) (with_chain c.args.chain) refl

pub returns-clause-rest : goal.returns-clause-rest
returns-clause-rest c = written-rest c.self.inside c.self.invariant.0 _ c.self.view_is c.args.tx c.requires c.index_mut.result.now
    c.index_mut.ensures.value (kept c)

pub returns-clause-handles : goal.returns-clause-handles
returns-clause-handles c = λ tx holds. ap (λ places. at None places tx.number) (returns-clause-rest c).places ∙ holds
