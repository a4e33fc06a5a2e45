use Rattle.std.proofs.Common.{refl, None, ◌∙◌, ap, arith}
use Rattle.std.proofs.lemmas.Grind.{common_steps}
use Rattle.gw_transactions.specs.Transactions.{with_attributes}
use Rattle.gw_transactions.specs.declared.Kept.{Kept}
use Rattle.gw_transactions.specs.Slots.{live_as}
use Rattle.gw_transactions.proofs.Here.{counted-one, counted-few, counted-set}
use Rattle.gw_num.specs.Table.{at}
use Rattle.gw_transactions.proofs.Populations.{held, value_of, counted_of, sound_of, written-by, written-rest, written-fields}
use Rattle.gw_transactions.proofs.Transactions.set.Goals as goal

pub index-requires : goal.index-requires
index-requires c = let slot = held c.self.inside c.self.invariant.0 _ c.self.view_is c.args.tx c.requires.held in grind (arith, common_steps, slot.1)

pub take-requires : goal.take-requires
take-requires c =
    counted-one c.self.inside.here _ (counted_of c.self.inside c.self.invariant.0 _ c.self.view_is c.self.invariant.2) c.args.tx.number
    (live_as c.self.inside.beside c.index.result.now.1)
    (value_of c.self.inside c.self.invariant.0 _ c.self.view_is c.args.tx c.requires.held _ c.index.ensures)

pub add-requires-clause-few : goal.add-requires-clause-few
add-requires-clause-few c =
    let counted = counted_of c.self.inside c.self.invariant.0 _ c.self.view_is c.self.invariant.2 in
    let few = (sound_of c.self.inside c.self.invariant.0 _ c.self.view_is).few in
    omega (arith, c.take.ensures c.args.transaction.current, counted-few c.self.inside.here _ counted few c.args.transaction.current)

pub index_mut-requires : goal.index_mut-requires
index_mut-requires c = let slot = held c.self.inside c.self.invariant.0 _ c.self.view_is c.args.tx c.requires.held in grind (arith, common_steps, slot.1)

-- what is kept of the transaction now
abbrev kept : (c : goal.After-add) → Kept
kept c = record { attributes = c.args.transaction; key = c.index_mut.result.now.1.key; chain = c.index_mut.result.now.1.chain }

pub returns-clause-txs : goal.returns-clause-txs
returns-clause-txs c =
    written-by c.self.inside c.self.invariant.0 _ c.self.view_is c.args.tx c.requires.held c.index_mut.result.now c.index_mut.ensures.value
    (kept c) (with_attributes c.args.transaction) refl

pub invariant_of-self : goal.invariant_of-self
invariant_of-self c =
    let counted = counted_of c.self.inside c.self.invariant.0 _ c.self.view_is c.self.invariant.2 in
    let there = value_of c.self.inside c.self.invariant.0 _ c.self.view_is c.args.tx c.requires.held _ c.index.ensures in
    let now = counted-set c.self.inside.here _ counted c.take.new.self c.add.new.self c.args.tx.number
    (live_as c.self.inside.beside c.index.result.now.1) (live_as c.self.inside.beside (kept c)) there c.take.ensures c.add.ensures in
    let fields = written-fields c.self.inside c.self.invariant.0 _ c.self.view_is c.args.tx c.requires.held c.index_mut.result.now
    c.index_mut.ensures.value (kept c) c.add.new.self c.self.invariant.1 now c.self.invariant.3 refl in
    (fields.0, fields.1, fields.2, fields.3, c.self.invariant.4)

pub returns-clause-rest : goal.returns-clause-rest
returns-clause-rest c = written-rest c.self.inside c.self.invariant.0 _ c.self.view_is c.args.tx c.requires.held c.index_mut.result.now
    c.index_mut.ensures.value (kept c)

pub returns-clause-handles : goal.returns-clause-handles
returns-clause-handles c = λ tx holds. ap (λ places. at None places tx.number) (returns-clause-rest c).places ∙ holds
