use Rattle.std.proofs.Common.{◌≡◌, ◌<◌, ◌+◌, ℕ, List, Option, ℤ, None, Some, refl, ◌∙◌, sym, ap, subst, option_map, arith}
use Rattle.std.proofs.lemmas.Grind.{common_steps}
use Rattle.std.specs.Int.{w64}
use Rattle.std.proofs.lemmas.Int.{to_z-of_z}
use Rattle.gw_num.specs.Table.{at, put}
use Rattle.slab.specs.Slab.{get}
use Rattle.gw_transactions.specs.Transactions.{Population, LiveTransaction, with_parameter}
use Rattle.gw_transactions.specs.Slots.{live_as, row_at, by_number, AreCounted}
use Rattle.gw_transactions.proofs.Here.{counted-kept}
use Rattle.gw_transactions.proofs.Populations.{held, value_of, counted_of, own-changed, changed-txs, changed-rest}
use Rattle.gw_transactions.proofs.Transactions.assign.Goals as goal

pub index-requires : goal.index-requires
index-requires c = let slot = held c.self.inside c.self.invariant.0 _ c.self.view_is c.args.tx c.requires.held in grind (arith, common_steps, slot.1)

some_last : (c : goal.After-set) → 0 < c.self.inside.unset.last
some_last c = let last = ap (λ (p : Population). p.last) c.self.view_is in omega (arith, last, c.requires.number.0, c.requires.number.1)

pub set-requires-clause-there : goal.set-requires-clause-there
set-requires-clause-there c =
    let last = ap (λ (p : Population). p.last) c.self.view_is in
    c.self.invariant.3.there c.args.tx.place c.index.result.now c.index.ensures (omega (arith, last, c.requires.number.0, c.requires.number.1))

pub set-requires-clause-number : goal.set-requires-clause-number
set-requires-clause-number c =
    let last = ap (λ (p : Population). p.last) c.self.view_is in
    (c.requires.number.0, omega (arith, c.self.invariant.3.alike c.args.tx.place c.index.result.now c.index.ensures, last, c.requires.number.1))

no_none : (c : goal.After-set) → c.self.inside.unset.last ≡ 0 → (key : ℕ) → get c.set.new.beside key ≡ None
no_none c zero_is key = absurd (omega (arith, zero_is, some_last c))

txs_are : (c : goal.After-set)
    → by_number (λ place kept. live_as c.set.new.beside kept) (c.self.inside.created + 1) 0 c.self.inside.slots.slots
    ≡ put None c.args.self.now.txs c.args.tx.number (Some (live_as c.set.new.beside c.index.result.now.1))
txs_are c = changed-txs c.self.inside c.self.invariant.0 _ c.self.view_is c.args.tx c.requires.held c.index.result.now c.index.ensures
    c.set.new.beside c.self.invariant.3 c.set.ensures.others (no_none c)

there : (c : goal.After-set) → at None c.args.self.now.txs c.args.tx.number ≡ Some (live_as c.self.inside.beside c.index.result.now.1)
there c = value_of c.self.inside c.self.invariant.0 _ c.self.view_is c.args.tx c.requires.held _ c.index.ensures

pub invariant_of-self : goal.invariant_of-self
invariant_of-self c = (
  c.self.invariant.0,
  c.self.invariant.1,
  subst (AreCounted c.self.inside.here) (sym (txs_are c))
      (counted-kept c.self.inside.here _ (counted_of c.self.inside c.self.invariant.0 _ c.self.view_is c.self.invariant.2) c.args.tx.number
      (live_as c.self.inside.beside c.index.result.now.1) (live_as c.set.new.beside c.index.result.now.1) (there c) refl),
  own-changed c.self.inside.unset.last c.self.inside.beside c.set.new.beside c.self.inside.slots.slots c.index.result.now.1.key
      c.self.invariant.3 (some_last c) (omega (arith, c.self.invariant.3.room, c.set.ensures.len, c.set.ensures.capacity))
      c.set.ensures.last c.set.ensures.there c.set.ensures.others,
  c.self.invariant.4,
)

pub returns-clause-txs : goal.returns-clause-txs
returns-clause-txs c =
    txs_are c
    ∙ ap (λ (ps : List (Option ℤ)). put None c.args.self.now.txs c.args.tx.number
    (Some (record { attributes = c.index.result.now.1.attributes; parameters = ps; chain = c.index.result.now.1.chain })))
    (c.set.ensures.values ∙ ap (λ (v : ℤ). put None (row_at c.self.inside.beside c.index.result.now.1.key).values c.args.number (Some v))
    (to_z-of_z w64 c.args.value c.ranges.value))
    ∙ ap (put None c.args.self.now.txs c.args.tx.number) (sym (ap (option_map (with_parameter c.args.number c.args.value)) (there c)))

pub returns-clause-rest : goal.returns-clause-rest
returns-clause-rest c = changed-rest c.self.inside c.self.invariant.0 _ c.self.view_is c.args.tx c.requires.held c.index.result.now
    c.index.ensures c.set.new.beside c.self.invariant.3 c.set.ensures.others (no_none c) c.set.ensures.len c.set.ensures.capacity

pub returns-clause-handles : goal.returns-clause-handles
returns-clause-handles c = λ tx holds. ap (λ places. at None places tx.number) (returns-clause-rest c).places ∙ holds
