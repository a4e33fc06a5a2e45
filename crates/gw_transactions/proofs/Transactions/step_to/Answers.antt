use Rattle.std.proofs.Common.{◌≡◌, Option, Some, None, option_map, unwrap_or, refl, ◌∙◌, sym, ap, arith}
use Rattle.std.proofs.lemmas.Grind.{common_steps}
use Rattle.gw_transactions.specs.Transactions.{LiveTransaction, attributes_at, with_attributes}
use Rattle.gw_transactions.specs.declared.Transaction.{Transaction}
use Rattle.gw_transactions.specs.declared.Kept.{Kept}
use Rattle.gw_transactions.specs.Slots.{live_as}
use Rattle.gw_transactions.proofs.Here.{counted-one, counted-few, counted-go}
use Rattle.gw_num.specs.Table.{at}
use Rattle.gw_transactions.proofs.Populations.{held, value_of, counted_of, sound_of, written-by, written-rest, written-fields}
use Rattle.gw_transactions.proofs.Transactions.step_to.Goals as goal

pub index_mut-requires : goal.index_mut-requires
index_mut-requires c = let slot = held c.self.inside c.self.invariant.0 _ c.self.view_is c.args.tx c.requires.held in grind (arith, common_steps, slot.1)

pub go-requires-clause-there : goal.go-requires-clause-there
go-requires-clause-there c =
    counted-one c.self.inside.here _ (counted_of c.self.inside c.self.invariant.0 _ c.self.view_is c.self.invariant.2) c.args.tx.number
    (live_as c.self.inside.beside c.index_mut.result.now.1)
    (value_of c.self.inside c.self.invariant.0 _ c.self.view_is c.args.tx c.requires.held _ c.index_mut.ensures.value)

pub go-requires-clause-few : goal.go-requires-clause-few
go-requires-clause-few c =
    let counted = counted_of c.self.inside c.self.invariant.0 _ c.self.view_is c.self.invariant.2 in
    let few = (sound_of c.self.inside c.self.invariant.0 _ c.self.view_is).few in
    omega (arith, counted-few c.self.inside.here _ counted few c.args.current)

-- what is kept of the transaction now
abbrev kept : (c : goal.After-go) → Kept
kept c = record {
  attributes = record c.index_mut.result.now.1.attributes { current = c.args.current; next = c.args.next };
  key =
      c.index_mut.result.now.1.key;
  chain = c.index_mut.result.now.1.chain;
}

-- the attributes that it is found with are those that were kept
same_attributes : (c : goal.After-go) (t : Transaction) → attributes_at c.args.tx.number c.args.self.now.txs ≡ Some t → c.index_mut.result.now.1.attributes ≡ t
same_attributes c t found =
    let there = value_of c.self.inside c.self.invariant.0 _ c.self.view_is c.args.tx c.requires.held _ c.index_mut.ensures.value in
    ap (λ (o : Option Transaction). unwrap_or o c.index_mut.result.now.1.attributes)
    (sym (ap (option_map (λ (t : LiveTransaction). t.attributes)) there) ∙ found)

pub returns-clause-txs : goal.returns-clause-txs
returns-clause-txs c =
    λ t found.
    written-by c.self.inside c.self.invariant.0 _ c.self.view_is c.args.tx c.requires.held c.index_mut.result.now c.index_mut.ensures.value
    (kept c) (with_attributes (record t { current = c.args.current; next = c.args.next }))
    (ap (λ (a : Transaction). record (live_as c.self.inside.beside c.index_mut.result.now.1)
    { attributes = record a { current = c.args.current; next = c.args.next } }) (same_attributes c t found))

pub invariant_of-self : goal.invariant_of-self
invariant_of-self c =
    let counted = counted_of c.self.inside c.self.invariant.0 _ c.self.view_is c.self.invariant.2 in
    let there = value_of c.self.inside c.self.invariant.0 _ c.self.view_is c.args.tx c.requires.held _ c.index_mut.ensures.value in
    let now = counted-go c.self.inside.here _ counted c.go.new.self c.args.tx.number
    (live_as c.self.inside.beside c.index_mut.result.now.1) (live_as c.self.inside.beside (kept c)) there c.go.ensures in
    let fields = written-fields c.self.inside c.self.invariant.0 _ c.self.view_is c.args.tx c.requires.held c.index_mut.result.now
    c.index_mut.ensures.value (kept c) c.go.new.self c.self.invariant.1 now c.self.invariant.3 refl in
    (fields.0, fields.1, fields.2, fields.3, c.self.invariant.4)

pub returns-clause-rest : goal.returns-clause-rest
returns-clause-rest c = written-rest c.self.inside c.self.invariant.0 _ c.self.view_is c.args.tx c.requires.held c.index_mut.result.now
    c.index_mut.ensures.value (kept c)

pub returns-clause-handles : goal.returns-clause-handles
returns-clause-handles c = λ tx holds. ap (λ places. at None places tx.number) (returns-clause-rest c).places ∙ holds
