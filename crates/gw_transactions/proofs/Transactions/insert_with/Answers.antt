use Rattle.std.proofs.Common.{refl, subst, sym, inl, inr, ◌≤◌, length, Some, None, rules, ◌≡◌, ◌<◌, ◌+◌, ◌-◌, ◌^◌, ◌∙◌, ap, arith}
use Rattle.std.proofs.lemmas.Bool.{cases_lt}
use Rattle.slab.specs.Slab.{slab_len}
use Rattle.gw_transactions.specs.Transactions.{Population, made_with, live_count}
use Rattle.gw_transactions.specs.declared.Kept.{Kept}
use Rattle.gw_transactions.specs.Parameters.{Numbered}
use Rattle.gw_transactions.specs.Slots.{live_as, space_in, AreCounted}
use Rattle.gw_transactions.proofs.Here.{counted-few, counted-insert}
use Rattle.gw_num.specs.Table.{at, put}
use Rattle.gw_num.proofs.Tables.{at-put, at-put_past}
use Rattle.gw_transactions.proofs.Populations.{length-txs, next_is, table-next, numbered-next_of, live_count-insert, counted_of, sound_of, own-next}
use Rattle.gw_transactions.proofs.Populations.{inserted-txs, sound}
use Rattle.gw_transactions.proofs.Room.{room-slots, room-beside, room-falls}
use Rattle.gw_transactions.proofs.Transactions.insert_with.Goals as goal

pub overflow_add-self : goal.overflow_add-self
overflow_add-self c =
    let few : (c.self.inside.created + 1) < 2 ^ 62 = omega (arith, next_is c.self.inside c.self.invariant.0 _ c.self.view_is, c.requires.few) in
    search (rules, few)

pub keep-key-requires-clause-room : goal.keep-key-requires-clause-room
keep-key-requires-clause-room c =
    λ some.
    let last = c.requires.parameters ∙ sym (ap (λ (p : Population). p.last) c.self.view_is) in
    let room = ap (λ (p : Population). p.room) c.self.view_is in
    omega (
      arith,
      room,
      c.requires.room,
      room-beside c.self.inside.unset.last (space_in c.self.inside.slots) (space_in c.self.inside.beside) (omega (arith, some, last)),
    )

pub keep-key-requires-clause-none : goal.keep-key-requires-clause-none
keep-key-requires-clause-none c =
    λ none_is. c.self.invariant.3.none (sym (c.requires.parameters ∙ sym (ap (λ (p : Population). p.last) c.self.view_is)) ∙ none_is)

pub insert_reserved-place-requires : goal.insert_reserved-place-requires
insert_reserved-place-requires c =
    let room = ap (λ (p : Population). p.room) c.self.view_is in
    omega (arith, room, c.requires.room, room-slots c.self.inside.unset.last (space_in c.self.inside.slots) (space_in c.self.inside.beside))

pub add-requires-clause-few : goal.add-requires-clause-few
add-requires-clause-few c =
    counted-few c.self.inside.here _ (counted_of c.self.inside c.self.invariant.0 _ c.self.view_is c.self.invariant.2)
    (sound_of c.self.inside c.self.invariant.0 _ c.self.view_is).few c.args.transaction.current

abbrev kept : (c : goal.After-add) → Kept
kept c = record { attributes = c.args.transaction; key = c.keep-key.result; chain = None }

last_is : (c : goal.After-add) → c.args.parameters.last ≡ c.self.inside.unset.last
last_is c = c.requires.parameters ∙ sym (ap (λ (p : Population). p.last) c.self.view_is)

bare : (c : goal.After-add) → c.self.inside.unset.last ≡ 0 → c.keep-key.new.beside ≡ c.self.inside.beside
bare c zero_is = c.keep-key.ensures.none (last_is c ∙ zero_is)

-- the newcomer has the parameters that were given
made : (c : goal.After-add) → live_as c.keep-key.new.beside (kept c) ≡ made_with c.args.parameters.values c.args.transaction
made c = ap (λ (n : Numbered). made_with n.values c.args.transaction) c.keep-key.ensures.row

pub returns-clause-txs : goal.returns-clause-txs
returns-clause-txs c =
    inserted-txs c.self.inside c.self.invariant.0 _ c.self.view_is c.self.invariant.3 c.keep-key.new.beside c.keep-key.result
    c.keep-key.ensures.vacant c.keep-key.ensures.others (bare c) c.insert_reserved-place.new.self c.insert_reserved-place.result
    (kept c) c.requires.few c.insert_reserved-place.ensures.was_vacant c.insert_reserved-place.ensures.updates
    ∙ ap (λ t. put None c.args.self.now.txs (length c.args.self.now.txs) (Some t)) (made c)

beside_fits : (c : goal.After-add) → slab_len c.keep-key.new.beside ≤ c.keep-key.new.beside.capacity
beside_fits c =
    elim (cases_lt 0 c.self.inside.unset.last) [
      | inl some ↦
          let room = ap (λ (p : Population). p.room) c.self.view_is in
          let beside = room-beside c.self.inside.unset.last (space_in c.self.inside.slots) (space_in c.self.inside.beside) some in
          omega (arith, room, c.requires.room, beside, c.keep-key.ensures.capacity, c.keep-key.ensures.len (omega (arith, last_is c, some)))
      | inr past ↦ rw (bare c (omega (arith, past))) c.self.invariant.3.room
    ]

pub invariant_of-self : goal.invariant_of-self
invariant_of-self c =
    let room = ap (λ (p : Population). p.room) c.self.view_is in
    let slots = room-slots c.self.inside.unset.last (space_in c.self.inside.slots) (space_in c.self.inside.beside) in (
      numbered-next_of c.self.inside c.self.invariant.0 _ c.self.view_is c.insert_reserved-place.new.self c.insert_reserved-place.result
          (kept c) c.requires.few c.insert_reserved-place.ensures.updates,
      omega (arith, room, slots, c.requires.room, c.insert_reserved-place.ensures.len, c.insert_reserved-place.ensures.capacity),
      subst (AreCounted c.add.new.self) (sym (returns-clause-txs c))
          (counted-insert c.self.inside.here c.args.self.now.txs
          (counted_of c.self.inside c.self.invariant.0 _ c.self.view_is c.self.invariant.2) c.add.new.self
          (made_with c.args.parameters.values c.args.transaction) c.add.ensures),
      own-next c.self.inside.unset.last c.self.inside.beside c.keep-key.new.beside c.self.inside.slots.slots c.self.invariant.3
          c.keep-key.result c.keep-key.ensures.vacant c.keep-key.ensures.others (bare c) c.insert_reserved-place.new.self.slots
          c.insert_reserved-place.result (c.self.inside.created + 1) (kept c) refl c.insert_reserved-place.ensures.updates.others
          c.insert_reserved-place.ensures.updates.changed (beside_fits c)
          (ap (λ (n : Numbered). n.last) c.keep-key.ensures.row ∙ last_is c) (λ some. c.keep-key.ensures.there (omega (arith, last_is c, some))),
      c.self.invariant.4,
    )

pub returns-clause-room : goal.returns-clause-room
returns-clause-room c =
    let room = ap (λ (p : Population). p.room) c.self.view_is in
    omega (
      arith,
      room,
      room-falls c.self.inside.unset.last (space_in c.self.inside.slots) (space_in c.self.inside.beside)
          (space_in c.insert_reserved-place.new.self) (space_in c.keep-key.new.beside)
          (omega (arith, c.insert_reserved-place.ensures.len, c.insert_reserved-place.ensures.capacity))
          (λ some. omega (arith, c.keep-key.ensures.len (omega (arith, last_is c, some)), c.keep-key.ensures.capacity)),
    )

pub returns-clause-number : goal.returns-clause-number
returns-clause-number c = next_is c.self.inside c.self.invariant.0 _ c.self.view_is

pub returns-clause-places : goal.returns-clause-places
returns-clause-places c =
    table-next c.self.inside c.self.invariant.0 _ c.self.view_is (λ place kept. place) (λ p. p.places) refl
    c.insert_reserved-place.new.self c.insert_reserved-place.result (kept c) c.requires.few c.insert_reserved-place.ensures.was_vacant
    c.insert_reserved-place.ensures.updates

pub returns-clause-made : goal.returns-clause-made
returns-clause-made c =
    omega (
      arith,
      next_is c.self.inside c.self.invariant.0 _ c.self.view_is,
      length-txs c.insert_reserved-place.new.self c.keep-key.new.beside (c.self.inside.created + 1 + 1) c.self.inside.unset.last (invariant_of-self c).0,
    )

pub returns-clause-live : goal.returns-clause-live
returns-clause-live c =
    ap live_count (returns-clause-txs c)
    ∙ live_count-insert c.self.inside c.self.invariant.0 _ c.self.view_is (made_with c.args.parameters.values c.args.transaction)

pub returns-clause-held : goal.returns-clause-held
returns-clause-held c =
    ap (λ places. at None places (c.self.inside.created + 1)) (returns-clause-places c)
    ∙ ap (at None (put None c.args.self.now.places (length c.args.self.now.txs) (Some c.insert_reserved-place.result))) (returns-clause-number c)
    ∙ at-put None c.args.self.now.places (length c.args.self.now.txs) (Some c.insert_reserved-place.result)

pub returns-clause-handles : goal.returns-clause-handles
returns-clause-handles c =
    λ tx holds.
    let lengths = (sound_of c.self.inside c.self.invariant.0 _ c.self.view_is).lengths in
    ap (λ places. at None places tx.number) (returns-clause-places c)
    ∙ at-put_past c.args.self.now.places (length c.args.self.now.txs) tx.number (Some c.insert_reserved-place.result) tx.place (omega (arith, lengths)) holds

pub returns-clause-was_sound : goal.returns-clause-was_sound
returns-clause-was_sound c = sound_of c.self.inside c.self.invariant.0 _ c.self.view_is

pub returns-clause-sound : goal.returns-clause-sound
returns-clause-sound c =
    sound c.insert_reserved-place.new.self c.keep-key.new.beside (c.self.inside.created + 1) c.self.inside.unset.last (invariant_of-self c).0
