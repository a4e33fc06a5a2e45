-- What the fields tell of the population, before a call and after it.
use Rattle.std.proofs.Common.{◌≡◌, ◌≢◌, ℕ, ℤ, zero, suc, ◌+◌, ◌-◌, ◌^◌, ◌<◌, ◌≤◌, ◌==◌, if◌then◌else◌, List, [], ◌∷◌, get_or, get_or-set_same}
use Rattle.std.proofs.Common.{get_or-set_other, inl, inr, length, set, Option, Some, None, option_map, unwrap_or, is_some, cond, refl, sym, ap, ◌∙◌}
use Rattle.std.proofs.Common.{subst, arith}
use Rattle.std.specs.Prelude.{IsSome, min}
use Rattle.std.proofs.lemmas.Bool.{cases_eq, cases_lt}
use Rattle.slab.specs.Slab.{Slab, get, Updates, ContainsKey, slab_len, with_value}
use Rattle.gw_members.specs.declared.tx.Tx.{Tx}
use Rattle.gw_transactions.specs.declared.Kept.{Kept}
use Rattle.gw_transactions.specs.declared.Transactions.TheInside.{Inside}
use Rattle.gw_num.specs.Table.{at, put}
use Rattle.gw_transactions.specs.Transactions.{Population, LiveTransaction, Holds, KeepsRest, IsSound, live_count}
use Rattle.gw_transactions.specs.Parameters.{Numbered, none_of}
use Rattle.gw_transactions.specs.Slots.{live_as, row_at, space_in, room_for, by_number, population_of, AreNumbered, AreCounted, HaveTheirOwn}
use Rattle.gw_num.proofs.Tables.{at_some, at-get_or, at_past, put-at, count_by-put}
use Rattle.gw_transactions.proofs.Slots.{same_slot, no_slot, own_number, entry_of, by_number-set, by_number-next, by_number-alike, by_number-changed}
use Rattle.gw_transactions.proofs.Slots.{numbered-set, numbered-next, at-by_number, at-by_number_free, slot_of, length-by_number, count_by-by_number}

-- A SOUND POPULATION

abbrev HasValue : {X : Type 0} → Option X → Type 0
HasValue {X} o = (x : X) × (o ≡ Some x)

-- what is there where something of the other kind is
some_as : {X Y : Type 0} (a : Option X) (b : Option Y) → is_some a ≡ is_some b → HasValue a → HasValue b
some_as None b same value = absurd (cc)
some_as (Some x) None same value = absurd (cc)
some_as (Some x) (Some y) same value = (y, refl)

same_some : {X Y : Type 0} (a : Option X) (b : Option Y) → (HasValue a → HasValue b) → (HasValue b → HasValue a) → is_some a ≡ is_some b
same_some None None to from = refl
same_some None (Some y) to from = let value = (from (y, refl)).1 in absurd (cc)
same_some (Some x) None to from = let value = (to (x, refl)).1 in absurd (cc)
same_some (Some x) (Some y) to from = refl

-- the place of a number that has a transaction
pub place_of : (p : Population) → IsSound p → (number : ℕ) (t : LiveTransaction) → at None p.txs number ≡ Some t → (place : ℕ)
    × (at None p.places number ≡ Some place)
place_of p sound number t there = some_as (at None p.txs number) (at None p.places number) (sym (sound.placed number)) (t, there)

-- the transaction of a handle
pub transaction_of : (p : Population) → IsSound p → (tx : Tx) → Holds p tx → (t : LiveTransaction) × (at None p.txs tx.number ≡ Some t)
transaction_of p sound tx holds = some_as (at None p.places tx.number) (at None p.txs tx.number) (sound.placed tx.number) (tx.place, holds)

-- THE TABLES OF A SLAB

module _ (s : Slab (ℕ × Kept)) (beside : Slab Numbered) (next last : ℕ) where
  slot_of_tx : (number : ℕ) (t : LiveTransaction) → at None (population_of s beside next last).txs number ≡ Some t → (p : ℕ) × (x : Kept)
      × (get s p ≡ Some (number, x))
  slot_of_tx number t there =
      let slot = slot_of (λ place kept. live_as beside kept) next 0 number s.slots t there in
      (slot.0, slot.1, slot.2)

  slot_at : (number place : ℕ) → at None (population_of s beside next last).places number ≡ Some place → (t : Kept) × (get s place ≡ Some (number, t))
  slot_at number place there =
      let slot = slot_of (λ place kept. place) next 0 number s.slots place there in
      let here : slot.0 ≡ place = omega (arith, slot.3) in
      (slot.1, ap (get s) (sym here) ∙ slot.2)

  module _ (num : AreNumbered s.slots next) where
    tx-slot : (p number : ℕ) (t : Kept) → get s p ≡ Some (number, t) → at None (population_of s beside next last).txs number ≡ Some (live_as beside t)
    tx-slot p number t there = at-by_number (λ place kept. live_as beside kept) next 0 p s.slots (number, t) num there

    place-slot : (p number : ℕ) (t : Kept) → get s p ≡ Some (number, t) → at None (population_of s beside next last).places number ≡ Some p
    place-slot p number t there =
        let here : 0 + p ≡ p = omega arith in
        rw here at (at-by_number (λ place kept. place) next 0 p s.slots (number, t) num there)

    pub length-txs : length (population_of s beside next last).txs ≡ next
    length-txs = length-by_number (λ place kept. live_as beside kept) next 0 s.slots num

    sound_from : 0 < next → IsSound (population_of s beside next last)
    sound_from begun =
        record {
          begun = omega (arith, length-txs, begun);
          few = omega (arith, length-txs, num.few);
          nobody = at-by_number_free (λ place kept. live_as beside kept) next 0 0 s.slots
              (λ p a there zero_is. absurd (omega (arith, zero_is, (num.given p a there).0)));
          lengths = length-by_number (λ place kept. place) next 0 s.slots num ∙ sym length-txs;
          placed = λ number.
              same_some (at None (population_of s beside next last).places number) (at None (population_of s beside next last).txs number)
              (λ place. let slot = slot_at number place.0 place.1 in (live_as beside slot.0, tx-slot place.0 number slot.0 slot.1))
              (λ t. let slot = slot_of_tx number t.0 t.1 in (slot.0, place-slot slot.0 number slot.1 slot.2));
          below = λ number place there. let slot = slot_at number place there in omega (arith, length-txs, (num.given place (number, slot.0) slot.1).1);
          apart = λ m n place at_m at_n.
              let a = slot_at m place at_m in
              let b = slot_at n place at_n in
              ap (λ (x : ℕ × Kept). x.0) (same_slot (m, a.0) (n, b.0) (sym a.1 ∙ b.1));
        }

    live_count-slots : live_count (population_of s beside next last).txs ≡ slab_len s
    live_count-slots = count_by-by_number (λ place kept. live_as beside kept) next 0 s.slots is_some is_some num refl refl (λ p a. refl)

pub sound : (s : Slab (ℕ × Kept)) (beside : Slab Numbered) (created last : ℕ) → AreNumbered s.slots (created + 1)
    → IsSound (population_of s beside (created + 1) last)
sound s beside created last num = sound_from s beside (created + 1) last num (omega arith)

-- PARAMETERS OF THEIR OWN

-- a transaction that is kept, with these parameters
abbrev as_live : Kept → List (Option ℤ) → LiveTransaction
as_live kept parameters = record { attributes = kept.attributes; parameters = parameters; chain = kept.chain }

-- whoever is kept still has parameters under the key that it had
own-kept : (last : ℕ) (was now : Slab Numbered) (old new : List (Option (ℕ × Kept))) → HaveTheirOwn last was old → slab_len now
    ≤ now.capacity → (last ≡ 0 → (key : ℕ) → get now key ≡ None)
    → ((q : ℕ) (b : ℕ × Kept) → get_or new q None ≡ Some b → (a : ℕ × Kept) × (get_or old q None ≡ Some a) × (b.1.key ≡ a.1.key)
    × ((row_at now b.1.key).last ≡ last) × (0 < last → ContainsKey now b.1.key)) → HaveTheirOwn last now new
own-kept last was now old new own room none stay =
    record {
      room = room;
      alike = λ p a is. (stay p a is).3;
      there = λ p a is some. (stay p a is).4 some;
      apart = λ p q a b at_p at_q some same.
          let x = stay p a at_p in
          let y = stay q b at_q in
          own.apart p q x.0 y.0 x.1 y.1 some (sym x.2 ∙ same ∙ y.2);
      none = none;
    }

-- a slot is written, and keeps its key
pub own-written : (last : ℕ) (beside : Slab Numbered) (slots : List (Option (ℕ × Kept))) (place : ℕ) (was : ℕ × Kept) (now : Kept)
    → HaveTheirOwn last beside slots → get_or slots place None ≡ Some was → now.key ≡ was.1.key → HaveTheirOwn last beside (set slots place (Some (was.0, now)))
own-written last beside slots place was now own there same =
    let within : place < length slots = at_some slots place was (at-get_or None slots place ∙ there) in
    own-kept last beside beside slots (set slots place (Some (was.0, now))) own own.room own.none
    (λ q b is.
    elim (cases_eq q place) [
      | inl here ↦
          let value : (was.0, now) ≡ b =
          same_slot (was.0, now) b
          (sym (get_or-set_same slots place (Some (was.0, now)) None within)
          ∙ ap (λ i. get_or (set slots place (Some (was.0, now))) i None) (sym here) ∙ is) in
          let key : b.1.key ≡ was.1.key = ap (λ (x : ℕ × Kept). x.1.key) (sym value) ∙ same in (
            was,
            ap (λ i. get_or slots i None) here ∙ there,
            key,
            ap (λ k. (row_at beside k).last) key ∙ own.alike place was there,
            λ some. subst (ContainsKey beside) (sym key) (own.there place was there some),
          )
      | inr other ↦
          let before : get_or slots q None ≡ Some b = sym (get_or-set_other slots place q (Some (was.0, now)) None other) ∙ is in
          (b, before, refl, own.alike q b before, own.there q b before)
    ])

-- the parameters of one change
pub own-changed : (last : ℕ) (was now : Slab Numbered) (slots : List (Option (ℕ × Kept))) (key : ℕ) → HaveTheirOwn last was slots → 0
    < last → slab_len now ≤ now.capacity → (row_at now key).last ≡ (row_at was key).last → ContainsKey now key
    → ((other : ℕ) → other ≢ key → get now other ≡ get was other) → HaveTheirOwn last now slots
own-changed last was now slots key own some room same there others =
    own-kept last was now slots slots own room (λ zero_is. absurd (omega (arith, some, zero_is)))
    (λ q b is.
    elim (cases_eq b.1.key key) [
      | inl here ↦ (
        b,
        is,
        refl,
        ap (λ k. (row_at now k).last) here ∙ same ∙ ap (λ k. (row_at was k).last) (sym here) ∙ own.alike q b is,
        λ more. subst (ContainsKey now) (sym here) there,
      )
      | inr other ↦ (
        b,
        is,
        refl,
        ap (λ (o : Option Numbered). (unwrap_or o (none_of 0)).last) (others b.1.key other) ∙ own.alike q b is,
        λ more. subst IsSome (sym (others b.1.key other)) (own.there q b is more),
      )
    ])

-- what changes under the key of one slot changes for no other
pub same_row : (last : ℕ) (was now : Slab Numbered) (slots : List (Option (ℕ × Kept))) (place : ℕ) (a : ℕ × Kept)
    → HaveTheirOwn last was slots → get_or slots place None ≡ Some a → ((other : ℕ) → other ≢ a.1.key → get now other ≡ get was other)
    → (last ≡ 0 → (key : ℕ) → get now key ≡ None) → (q : ℕ) (b : ℕ × Kept) → q ≢ place → get_or slots q None ≡ Some b → get now b.1.key ≡ get was b.1.key
same_row last was now slots place a own there others none q b other is =
    elim (cases_lt 0 last) [
      | inl some ↦ others b.1.key (λ same. other (own.apart q place b a is there some same))
      | inr past ↦ let zero_is : last ≡ 0 = omega (arith, past) in none zero_is b.1.key ∙ sym (own.none zero_is b.1.key)
    ]

-- nothing is kept where there is nothing to keep, also once one key more is gone
pub none_still : (last key : ℕ) (was now : Slab Numbered) (slots : List (Option (ℕ × Kept))) → HaveTheirOwn last was slots → get now key
    ≡ None → ((other : ℕ) → other ≢ key → get now other ≡ get was other) → last ≡ 0 → (k : ℕ) → get now k ≡ None
none_still last key was now slots own gone others zero_is k =
    elim (cases_eq k key) [ inl here ↦ ap (get now) here ∙ gone | inr other ↦ others k other ∙ own.none zero_is k ]

-- one goes
pub own-removed : (last : ℕ) (was now : Slab Numbered) (slots : List (Option (ℕ × Kept))) (place : ℕ) (a : ℕ × Kept)
    → HaveTheirOwn last was slots → get_or slots place None ≡ Some a → slab_len now ≤ now.capacity → get now a.1.key ≡ None
    → ((other : ℕ) → other ≢ a.1.key → get now other ≡ get was other) → HaveTheirOwn last now (set slots place None)
own-removed last was now slots place a own there room gone others =
    let within : place < length slots = at_some slots place a (at-get_or None slots place ∙ there) in
    let none = none_still last a.1.key was now slots own gone others in
    own-kept last was now slots (set slots place None) own room none
    (λ q b is.
    elim (cases_eq q place) [
      | inl here ↦ absurd (no_slot b (sym (get_or-set_same slots place None None within) ∙ ap (λ i. get_or (set slots place None) i None) (sym here) ∙ is))
      | inr other ↦
          let before : get_or slots q None ≡ Some b = sym (get_or-set_other slots place q None None other) ∙ is in
          let same : get now b.1.key ≡ get was b.1.key = same_row last was now slots place a own there others none q b other before in (
            b,
            before,
            refl,
            ap (λ (o : Option Numbered). (unwrap_or o (none_of 0)).last) same ∙ own.alike q b before,
            λ some. subst IsSome (sym same) (own.there q b before some),
          )
    ])

-- one comes, under a key that was vacant
module _ (last : ℕ) (was now : Slab Numbered) (old : List (Option (ℕ × Kept))) (own : HaveTheirOwn last was old) (key : ℕ)
    (vacant : get was key ≡ None) (others : (other : ℕ) → other ≢ key → get now other ≡ get was other) (bare : last ≡ 0 → now ≡ was) where
  vacant_for : (q : ℕ) (b : ℕ × Kept) → get_or old q None ≡ Some b → 0 < last → b.1.key ≢ key
  vacant_for q b is some clash = let bad = subst IsSome (ap (get was) clash ∙ vacant) (own.there q b is some) in absurd (cc)

  -- all others keep theirs
  pub same_beside : (q : ℕ) (b : ℕ × Kept) → get_or old q None ≡ Some b → get now b.1.key ≡ get was b.1.key
  same_beside q b is =
      elim (cases_lt 0 last) [
        | inl some ↦ others b.1.key (vacant_for q b is some)
        | inr past ↦ ap (λ (s : Slab Numbered). get s b.1.key) (bare (omega (arith, past)))
      ]

  pub own-next : (new : List (Option (ℕ × Kept))) (place n : ℕ) (t : Kept) → t.key ≡ key
      → ((q : ℕ) → q ≢ place → get_or new q None ≡ get_or old q None) → get_or new place None ≡ Some (n, t) → slab_len now ≤ now.capacity
      → (row_at now key).last ≡ last → (0 < last → ContainsKey now key) → HaveTheirOwn last now new
  own-next new place n t key_is stay changed room same there =
      let value : (q : ℕ) (b : ℕ × Kept) → q ≡ place → get_or new q None ≡ Some b → b.1.key ≡ key =
      λ q b here is. ap (λ (x : ℕ × Kept). x.1.key) (sym (same_slot (n, t) b (sym changed ∙ ap (λ i. get_or new i None) (sym here) ∙ is))) ∙ key_is in
      record {
        room = room;
        alike = λ p a is.
            elim (cases_eq p place) [
              | inl here ↦ ap (λ k. (row_at now k).last) (value p a here is) ∙ same
              | inr other ↦
                  let before : get_or old p None ≡ Some a = sym (stay p other) ∙ is in
                  ap (λ (o : Option Numbered). (unwrap_or o (none_of 0)).last) (same_beside p a before) ∙ own.alike p a before
            ];
        there = λ p a is some.
            elim (cases_eq p place) [
              | inl here ↦ subst (ContainsKey now) (sym (value p a here is)) (there some)
              | inr other ↦
                  let before : get_or old p None ≡ Some a = sym (stay p other) ∙ is in
                  subst IsSome (sym (same_beside p a before)) (own.there p a before some)
            ];
        apart = λ p q a b at_p at_q some clash.
            elim (cases_eq p place) [
              | inl p_is ↦
                  elim (cases_eq q place) [
                    | inl q_is ↦ p_is ∙ sym q_is
                    | inr q_other ↦ absurd (vacant_for q b (sym (stay q q_other) ∙ at_q) some (sym clash ∙ value p a p_is at_p))
                  ]
              | inr p_other ↦
                  elim (cases_eq q place) [
                    | inl q_is ↦ absurd (vacant_for p a (sym (stay p p_other) ∙ at_p) some (clash ∙ value q b q_is at_q))
                    | inr q_other ↦ own.apart p q a b (sym (stay p p_other) ∙ at_p) (sym (stay q q_other) ∙ at_q) some clash
                  ]
            ];
        none = λ zero_is k. ap (λ (s : Slab Numbered). get s k) (bare zero_is) ∙ own.none zero_is k;
      }

-- THE POPULATION THAT THE FIELDS SHOW

module _ (inside : Inside) (num : AreNumbered inside.slots.slots (inside.created + 1)) (p : Population)
    (is : population_of inside.slots inside.beside (inside.created + 1) inside.unset.last ≡ p) where
  pub sound_of : IsSound p
  sound_of = subst IsSound is (sound inside.slots inside.beside inside.created inside.unset.last num)

  pub next_is : inside.created + 1 ≡ length p.txs
  next_is = sym (length-txs inside.slots inside.beside (inside.created + 1) inside.unset.last num) ∙ ap (λ (q : Population). length q.txs) is

  pub live_is : slab_len inside.slots ≡ live_count p.txs
  live_is = sym (live_count-slots inside.slots inside.beside (inside.created + 1) inside.unset.last num) ∙ ap (λ (q : Population). live_count q.txs) is

  -- the slot of a handle
  pub held : (tx : Tx) → Holds p tx → (t : Kept) × (get inside.slots tx.place ≡ Some (tx.number, t))
      × (at None p.txs tx.number ≡ Some (live_as inside.beside t))
  held tx holds =
      let slot = slot_at inside.slots inside.beside (inside.created + 1) inside.unset.last tx.number tx.place
      (subst (λ (q : Population). Holds q tx) (sym is) holds) in (
        slot.0,
        slot.1,
        subst (λ (q : Population). at None q.txs tx.number ≡ Some (live_as inside.beside slot.0)) is
            (tx-slot inside.slots inside.beside (inside.created + 1) inside.unset.last num tx.place tx.number slot.0 slot.1),
      )

  -- its value
  pub value_of : (tx : Tx) → Holds p tx → (a : ℕ × Kept) → get inside.slots tx.place ≡ Some a → at None p.txs tx.number ≡ Some (live_as inside.beside a.1)
  value_of tx holds a there = let slot = held tx holds in slot.2
      ∙ ap (λ (b : ℕ × Kept). Some (live_as inside.beside b.1)) (same_slot (tx.number, slot.0) a (sym slot.1 ∙ there))

  -- EITHER TABLE

  module _ {Y : Type 0} (entry : ℕ → Kept → Y) (table : Population → List (Option Y))
      (is_table : table (population_of inside.slots inside.beside (inside.created + 1) inside.unset.last)
      ≡ by_number entry (inside.created + 1) 0 inside.slots.slots) where
    was : by_number entry (inside.created + 1) 0 inside.slots.slots ≡ table p
    was = sym is_table ∙ ap table is

    -- the slot of a handle is written under its number, or emptied
    pub table-set : (tx : Tx) (v : Option (ℕ × Kept)) → Holds p tx → ((b : ℕ × Kept) → v ≡ Some b → b.0 ≡ tx.number)
        → by_number entry (inside.created + 1) 0 (set inside.slots.slots tx.place v) ≡ put None (table p) tx.number (entry_of entry tx.place v)
    table-set tx v holds own =
        let slot = held tx holds in
        let here : 0 + tx.place ≡ tx.place = omega arith in
        rw here at (by_number-set entry (inside.created + 1) 0 tx.place inside.slots.slots (tx.number, slot.0) v num slot.1 own)
        ∙ ap (λ ys. put None ys tx.number (entry_of entry tx.place v)) was

    -- a slot that was empty takes the next number
    pub table-next : (new : Slab (ℕ × Kept)) (place : ℕ) (t : Kept) → length p.txs < 2 ^ 62 → get inside.slots place ≡ None
        → Updates inside.slots new place (Some (inside.created + 1, t)) → by_number entry (inside.created + 1 + 1) 0 new.slots
        ≡ put None (table p) (length p.txs) (Some (entry place t))
    table-next new place t few vacant updates =
        by_number-next entry (inside.created + 1) place inside.slots.slots new.slots t (omega arith) (omega (arith, few, next_is)) num
        vacant updates.changed updates.others
        ∙ ap (λ ys. put None ys (inside.created + 1) (Some (entry place t))) was
        ∙ ap (λ n. put None (table p) n (Some (entry place t))) next_is

  -- THE NUMBERS

  pub numbered-set_of : (tx : Tx) (v : Option (ℕ × Kept)) → Holds p tx → ((b : ℕ × Kept) → v ≡ Some b → b.0 ≡ tx.number)
      → AreNumbered (set inside.slots.slots tx.place v) (inside.created + 1)
  numbered-set_of tx v holds own =
      let slot = held tx holds in
      numbered-set inside.slots.slots (inside.created + 1) tx.place (tx.number, slot.0) v
      (at_some inside.slots.slots tx.place (tx.number, slot.0) (at-get_or None inside.slots.slots tx.place ∙ slot.1)) slot.1 own num

  pub numbered-next_of : (new : Slab (ℕ × Kept)) (place : ℕ) (t : Kept) → length p.txs < 2 ^ 62
      → Updates inside.slots new place (Some (inside.created + 1, t)) → AreNumbered new.slots (inside.created + 1 + 1)
  numbered-next_of new place t few updates =
      numbered-next inside.slots.slots new.slots (inside.created + 1) place t (omega arith) (omega (arith, few, next_is)) updates.changed updates.others num

  -- the place of a handle is there already
  pub places-put : (tx : Tx) → Holds p tx → put None p.places tx.number (Some tx.place) ≡ p.places
  places-put tx holds = ap (put None p.places tx.number) (sym holds) ∙ put-at None p.places tx.number (at_some p.places tx.number tx.place holds)

  -- HOW MANY ARE AT EACH BLOCK

  pub counted_of : AreCounted inside.here (population_of inside.slots inside.beside (inside.created + 1) inside.unset.last).txs → AreCounted inside.here p.txs
  counted_of counted = subst (λ (q : Population). AreCounted inside.here q.txs) is counted

  -- HOW MANY ARE LIVE

  live_count-put : (number : ℕ) (before now : Option LiveTransaction) → at None p.txs number ≡ before
      → live_count (put None p.txs number now) + cond (is_some before) 1 0 ≡ live_count p.txs + cond (is_some now) 1 0
  live_count-put number before now there =
      ap (λ t. live_count (put None p.txs number now) + cond (is_some t) 1 0) (sym there) ∙ count_by-put None is_some p.txs number now refl

  -- another transaction under the number of a handle
  pub live_count-write : (tx : Tx) (t : LiveTransaction) → Holds p tx → live_count (put None p.txs tx.number (Some t)) ≡ live_count p.txs
  live_count-write tx t holds = let slot = held tx holds in omega (arith, live_count-put tx.number (Some (live_as inside.beside slot.0)) (Some t) slot.2)

  pub live_count-remove : (tx : Tx) → Holds p tx → live_count (put None p.txs tx.number None) + 1 ≡ live_count p.txs
  live_count-remove tx holds = let slot = held tx holds in omega (arith, live_count-put tx.number (Some (live_as inside.beside slot.0)) None slot.2)

  pub live_count-insert : (t : LiveTransaction) → live_count (put None p.txs (length p.txs) (Some t)) ≡ live_count p.txs + 1
  live_count-insert t = omega (arith, live_count-put (length p.txs) None (Some t) (at_past None p.txs (length p.txs) (omega arith)))

  -- ANOTHER TRANSACTION UNDER THE NUMBER OF A HANDLE

  module _ (tx : Tx) (holds : Holds p tx) (was : ℕ × Kept) (there : get inside.slots tx.place ≡ Some was) (now : Kept) where
    own : (b : ℕ × Kept) → Some (was.0, now) ≡ Some b → b.0 ≡ tx.number
    own b is =
        let slot = held tx holds in
        own_number _ _ b is ∙ ap (λ (a : ℕ × Kept). a.0) (sym (same_slot (tx.number, slot.0) was (sym slot.1 ∙ there)))

    pub written-txs : by_number (λ place kept. live_as inside.beside kept) (inside.created + 1) 0
        (set inside.slots.slots tx.place (Some (was.0, now))) ≡ put None p.txs tx.number (Some (live_as inside.beside now))
    written-txs = table-set (λ place kept. live_as inside.beside kept) (λ q. q.txs) refl tx (Some (was.0, now)) holds own

    pub written-places : by_number (λ place kept. place) (inside.created + 1) 0 (set inside.slots.slots tx.place (Some (was.0, now))) ≡ p.places
    written-places = table-set (λ place kept. place) (λ q. q.places) refl tx (Some (was.0, now)) holds own ∙ places-put tx holds

    pub written-numbered : AreNumbered (set inside.slots.slots tx.place (Some (was.0, now))) (inside.created + 1)
    written-numbered = numbered-set_of tx (Some (was.0, now)) holds own

    pub written-length : length
        (population_of (with_value inside.slots tx.place (was.0, now)) inside.beside (inside.created + 1) inside.unset.last).txs ≡ length p.txs
    written-length = length-txs (with_value inside.slots tx.place (was.0, now)) inside.beside (inside.created + 1) inside.unset.last written-numbered ∙ next_is

    pub written-live : live_count
        (population_of (with_value inside.slots tx.place (was.0, now)) inside.beside (inside.created + 1) inside.unset.last).txs ≡ live_count p.txs
    written-live = ap live_count written-txs ∙ live_count-write tx (live_as inside.beside now) holds

    -- as many slots are taken
    pub written-len : slab_len (with_value inside.slots tx.place (was.0, now)) ≡ slab_len inside.slots
    written-len = sym (live_count-slots (with_value inside.slots tx.place (was.0, now)) inside.beside (inside.created + 1)
        inside.unset.last written-numbered) ∙ written-live ∙ sym live_is

    -- by a change of what was there
    pub written-by : (change : LiveTransaction → LiveTransaction) → live_as inside.beside now ≡ change (live_as inside.beside was.1)
        → by_number (λ place kept. live_as inside.beside kept) (inside.created + 1) 0 (set inside.slots.slots tx.place (Some (was.0, now)))
        ≡ put None p.txs tx.number (option_map change (at None p.txs tx.number))
    written-by change is_now =
        written-txs ∙ ap (put None p.txs tx.number) (ap Some is_now ∙ sym (ap (option_map change) (value_of tx holds was there)))

    -- which has its parameters where they were
    pub written-own : HaveTheirOwn inside.unset.last inside.beside inside.slots.slots → now.key ≡ was.1.key
        → HaveTheirOwn inside.unset.last inside.beside (set inside.slots.slots tx.place (Some (was.0, now)))
    written-own own same = own-written inside.unset.last inside.beside inside.slots.slots tx.place was now own there same

    -- there is as much room
    pub written-room : room_for (with_value inside.slots tx.place (was.0, now)) inside.beside inside.unset.last ≡ p.room
    written-room =
        ap (λ n. if inside.unset.last == 0 then inside.slots.capacity - n else min (inside.slots.capacity - n) (space_in inside.beside)) written-len
        ∙ ap (λ (q : Population). q.room) is

    -- all else stays
    pub written-rest : KeepsRest p (population_of (with_value inside.slots tx.place (was.0, now)) inside.beside (inside.created + 1) inside.unset.last)
    written-rest = record {
      places = written-places;
      room = omega (arith, written-room);
      last = ap (λ (q : Population). q.last) is;
      made = written-length;
      live = written-live;
      sound = sound (with_value inside.slots tx.place (was.0, now)) inside.beside inside.created inside.unset.last written-numbered;
    }

    -- what holds of the fields holds still, where these are the counts then
    pub written-fields : (here : List ℕ) → slab_len inside.slots ≤ inside.slots.capacity
        → AreCounted here (put None p.txs tx.number (Some (live_as inside.beside now)))
        → HaveTheirOwn inside.unset.last inside.beside inside.slots.slots → now.key ≡ was.1.key
        → AreNumbered (set inside.slots.slots tx.place (Some (was.0, now))) (inside.created + 1)
        × (slab_len (with_value inside.slots tx.place (was.0, now)) ≤ inside.slots.capacity)
        × AreCounted here (by_number (λ place kept. live_as inside.beside kept) (inside.created + 1) 0
        (set inside.slots.slots tx.place (Some (was.0, now))))
        × HaveTheirOwn inside.unset.last inside.beside (set inside.slots.slots tx.place (Some (was.0, now)))
    written-fields here room counted own same =
        (written-numbered, omega (arith, written-len, room), subst (AreCounted here) (sym written-txs) counted, written-own own same)

  -- OTHER PARAMETERS UNDER THE KEY OF A HANDLE'S SLOT

  module _ (tx : Tx) (holds : Holds p tx) (a : ℕ × Kept) (there : get inside.slots tx.place ≡ Some a) (now : Slab Numbered)
      (own : HaveTheirOwn inside.unset.last inside.beside inside.slots.slots)
      (others : (other : ℕ) → other ≢ a.1.key → get now other ≡ get inside.beside other) (none : inside.unset.last ≡ 0 → (key : ℕ) → get now key ≡ None) where
    -- whoever has another slot is who it was
    pub same_live : (q : ℕ) (b : ℕ × Kept) → q ≢ tx.place → get inside.slots q ≡ Some b → live_as now b.1 ≡ live_as inside.beside b.1
    same_live q b other is =
        ap (λ (o : Option Numbered). as_live b.1 (unwrap_or o (none_of 0)).values)
        (same_row inside.unset.last inside.beside now inside.slots.slots tx.place a own there others none q b other is)

    number_is : a.0 ≡ tx.number
    number_is = let slot = held tx holds in ap (λ (x : ℕ × Kept). x.0) (same_slot a (tx.number, slot.0) (sym there ∙ slot.1))

    pub changed-txs : by_number (λ place kept. live_as now kept) (inside.created + 1) 0 inside.slots.slots ≡ put None p.txs tx.number (Some (live_as now a.1))
    changed-txs =
        by_number-changed (live_as inside.beside) (live_as now) (inside.created + 1) tx.place inside.slots.slots a num there same_live
        ∙ ap (λ n. put None (by_number (λ place kept. live_as inside.beside kept) (inside.created + 1) 0 inside.slots.slots) n
        (Some (live_as now a.1))) number_is
        ∙ ap (λ (q : Population). put None q.txs tx.number (Some (live_as now a.1))) is

    pub changed-rest : slab_len now ≡ slab_len inside.beside → now.capacity ≡ inside.beside.capacity
        → KeepsRest p (population_of inside.slots now (inside.created + 1) inside.unset.last)
    changed-rest len capacity =
        let space : space_in now ≡ space_in inside.beside = ap (λ n. now.capacity - n) len ∙ ap (λ n. n - slab_len inside.beside) capacity in
        let room : room_for inside.slots now inside.unset.last ≡ p.room =
        ap (λ n. if inside.unset.last == 0 then space_in inside.slots else min (space_in inside.slots) n) space ∙ ap (λ (q : Population). q.room) is in
        record {
          places = ap (λ (q : Population). q.places) is;
          room = omega (arith, room);
          last = ap (λ (q : Population). q.last) is;
          made = length-txs inside.slots now (inside.created + 1) inside.unset.last num ∙ next_is;
          live = ap live_count changed-txs ∙ live_count-write tx (live_as now a.1) holds;
          sound = sound inside.slots now inside.created inside.unset.last num;
        }

    -- the slot is emptied
    pub removed-txs : by_number (λ place kept. live_as now kept) (inside.created + 1) 0 (set inside.slots.slots tx.place None) ≡ put None p.txs tx.number None
    removed-txs =
        let within : tx.place < length inside.slots.slots = at_some inside.slots.slots tx.place a (at-get_or None inside.slots.slots tx.place ∙ there) in
        by_number-alike (live_as inside.beside) (live_as now) (inside.created + 1) 0 (set inside.slots.slots tx.place None)
        (λ q b at_q.
        elim (cases_eq q tx.place) [
          | inl same ↦ absurd (no_slot b
              (sym (get_or-set_same inside.slots.slots tx.place None None within)
              ∙ ap (λ i. get_or (set inside.slots.slots tx.place None) i None) (sym same) ∙ at_q))
          | inr other ↦ same_live q b other (sym (get_or-set_other inside.slots.slots tx.place q None None other) ∙ at_q)
        ])
        ∙ table-set (λ place kept. live_as inside.beside kept) (λ q. q.txs) refl tx None holds (λ b e. absurd (no_slot b e))

  -- ONE COMES, WITH PARAMETERS UNDER A VACANT KEY

  pub inserted-txs : (own : HaveTheirOwn inside.unset.last inside.beside inside.slots.slots) (now : Slab Numbered) (key : ℕ)
      → get inside.beside key ≡ None → ((other : ℕ) → other ≢ key → get now other ≡ get inside.beside other)
      → (inside.unset.last ≡ 0 → now ≡ inside.beside) → (new : Slab (ℕ × Kept)) (place : ℕ) (t : Kept) → length p.txs < 2 ^ 62
      → get inside.slots place ≡ None → Updates inside.slots new place (Some (inside.created + 1, t))
      → by_number (λ place kept. live_as now kept) (inside.created + 1 + 1) 0 new.slots ≡ put None p.txs (length p.txs) (Some (live_as now t))
  inserted-txs own now key vacant others bare new place t few free updates =
      table-next (λ place kept. live_as now kept) (λ q. q.txs)
      (sym (by_number-alike (live_as inside.beside) (live_as now) (inside.created + 1) 0 inside.slots.slots
      (λ q b at_q. ap (λ (o : Option Numbered). as_live b.1 (unwrap_or o (none_of 0)).values)
      (same_beside inside.unset.last inside.beside now inside.slots.slots own key vacant others bare q b at_q))))
      new place t few free updates
