use Rattle.std.proofs.Common.{option_map, refl, subst, ◌∙◌, ◌+◌, sym, ap, arith, ◌≡◌, ℕ, Some, None}
use Rattle.std.proofs.lemmas.Grind.{common_steps}
use Rattle.gw_transactions.specs.Transactions.{Population, LiveTransaction, live_count}
use Rattle.slab.specs.Slab.{get}
use Rattle.gw_transactions.specs.Slots.{live_as, space_in, AreNumbered, AreCounted}
use Rattle.gw_transactions.proofs.Here.{counted-one, counted-remove}
use Rattle.gw_transactions.proofs.Slots.{no_slot}
use Rattle.gw_num.specs.Table.{at}
use Rattle.gw_num.proofs.Tables.{at-put_other}
use Rattle.gw_transactions.proofs.Populations.{length-txs, next_is, held, value_of, counted_of, table-set, numbered-set_of, live_count-remove}
use Rattle.gw_transactions.proofs.Populations.{none_still, own-removed, removed-txs, sound}
use Rattle.gw_transactions.proofs.Room.{room-rises}
use Rattle.gw_transactions.proofs.Transactions.remove.Goals as goal

pub remove-requires : goal.remove-requires
remove-requires c = let slot = held c.self.inside c.self.invariant.0 _ c.self.view_is c.args.tx c.requires in grind (arith, common_steps, slot.1)

was_there : (c : goal.After-result-1) → at None c.args.self.now.txs c.args.tx.number ≡ Some (live_as c.self.inside.beside c.remove.result.1)
was_there c = value_of c.self.inside c.self.invariant.0 _ c.self.view_is c.args.tx c.requires _ c.remove.ensures.value

pub returns-clause-value : goal.returns-clause-value
returns-clause-value c = ap (option_map (λ (t : LiveTransaction). t.attributes)) (was_there c)

pub take-requires : goal.take-requires
take-requires c =
    counted-one c.self.inside.here _ (counted_of c.self.inside c.self.invariant.0 _ c.self.view_is c.self.invariant.2) c.args.tx.number
    (live_as c.self.inside.beside c.remove.result.1)
    (value_of c.self.inside c.self.invariant.0 _ c.self.view_is c.args.tx c.requires _ c.remove.ensures.value)

numbered : (c : goal.After-result-1) → AreNumbered c.remove.new.self.slots (c.self.inside.created + 1)
numbered c = rw c.remove.ensures.slots
    (numbered-set_of c.self.inside c.self.invariant.0 _ c.self.view_is c.args.tx None c.requires (λ b e. absurd (no_slot b e)))

none : (c : goal.After-result-1) → c.self.inside.unset.last ≡ 0 → (key : ℕ) → get c.forget.new.beside key ≡ None
none c = none_still c.self.inside.unset.last c.remove.result.1.key c.self.inside.beside c.forget.new.beside c.self.inside.slots.slots
    c.self.invariant.3 c.forget.ensures.none c.forget.ensures.others

pub returns-clause-txs : goal.returns-clause-txs
returns-clause-txs c =
    rw c.remove.ensures.slots
    (removed-txs c.self.inside c.self.invariant.0 _ c.self.view_is c.args.tx c.requires c.remove.result c.remove.ensures.value
    c.forget.new.beside c.self.invariant.3 c.forget.ensures.others (none c))

pub returns-clause-room : goal.returns-clause-room
returns-clause-room c =
    let room = ap (λ (p : Population). p.room) c.self.view_is in
    omega (
      arith,
      room,
      room-rises c.self.inside.unset.last (space_in c.self.inside.slots) (space_in c.self.inside.beside) (space_in c.remove.new.self)
          (space_in c.forget.new.beside)
          (omega (arith, c.self.invariant.1, c.remove.ensures.len, c.remove.ensures.capacity))
          (λ some. omega (
            arith,
            c.self.invariant.3.room,
            c.forget.ensures.capacity,
            c.forget.ensures.len (c.self.invariant.3.there c.args.tx.place c.remove.result c.remove.ensures.value some),
          )),
    )

pub returns-clause-places : goal.returns-clause-places
returns-clause-places c =
    rw c.remove.ensures.slots
    (table-set c.self.inside c.self.invariant.0 _ c.self.view_is (λ place kept. place) (λ p. p.places) refl c.args.tx None c.requires
    (λ b e. absurd (no_slot b e)))

pub returns-clause-made : goal.returns-clause-made
returns-clause-made c =
    length-txs c.remove.new.self c.forget.new.beside (c.self.inside.created + 1) c.self.inside.unset.last (numbered c)
    ∙ next_is c.self.inside c.self.invariant.0 _ c.self.view_is

pub returns-clause-live : goal.returns-clause-live
returns-clause-live c = ap (λ txs. live_count txs + 1) (returns-clause-txs c)
    ∙ live_count-remove c.self.inside c.self.invariant.0 _ c.self.view_is c.args.tx c.requires

pub returns-clause-handles : goal.returns-clause-handles
returns-clause-handles c =
    λ tx other holds.
    ap (λ places. at None places tx.number) (returns-clause-places c)
    ∙ at-put_other None c.args.self.now.places c.args.tx.number tx.number None other
    ∙ holds

pub returns-clause-sound : goal.returns-clause-sound
returns-clause-sound c = sound c.remove.new.self c.forget.new.beside c.self.inside.created c.self.inside.unset.last (numbered c)

pub invariant_of-self : goal.invariant_of-self
invariant_of-self c = (
  numbered c,
  omega (arith, c.self.invariant.1, c.remove.ensures.len, c.remove.ensures.capacity),
  subst (AreCounted c.take.new.self) (sym (returns-clause-txs c))
      (counted-remove c.self.inside.here c.args.self.now.txs
      (counted_of c.self.inside c.self.invariant.0 _ c.self.view_is c.self.invariant.2) c.take.new.self c.args.tx.number
      (live_as c.self.inside.beside c.remove.result.1) (was_there c) c.take.ensures),
  rw c.remove.ensures.slots
      (own-removed c.self.inside.unset.last c.self.inside.beside c.forget.new.beside c.self.inside.slots.slots c.args.tx.place
      c.remove.result c.self.invariant.3 c.remove.ensures.value
      (omega (arith, c.self.invariant.3.room, c.forget.ensures.less, c.forget.ensures.capacity)) c.forget.ensures.none c.forget.ensures.others),
  c.self.invariant.4,
)
