-- The least units that those ask who are counted.
use Rattle.std.proofs.Common.{◌≡◌, ℕ, zero, suc, ◌+◌, ◌≤◌, ◌<◌, ◌==◌, if◌then◌else◌, Bool, true, false, List, [], ◌∷◌, map, drop, Option, Some, None}
use Rattle.std.proofs.Common.{refl, sym, ap, ◌∙◌, subst, inl, inr, ◌⊎◌, arith}
use Rattle.std.specs.Prelude.{nat_le}
use Rattle.std.specs.Option.{option_map_or}
use Rattle.std.proofs.lemmas.Bool.{cases_eq, eq-eqb, ne_eqb, leb-true, leb-false, lt-leb}
use Rattle.std.proofs.lemmas.List.Sums.{sum_by-cons}
use Rattle.gw_object.specs.declared.blocks.Block.{Block}
use Rattle.gw_object.specs.declared.blocks.Units.{Units}
use Rattle.gw_rules.specs.Kinds.{block_at}
use Rattle.gw_step.specs.Blocks.{units_asked, admit_by, looked_at, admission}
use Rattle.gw_step.specs.Changes.{storage}
use Rattle.gw_step.specs.State.{State, delay_list}
use Rattle.gw_step.specs.Residence.{occurrences}
use Rattle.gw_entities.specs.Storage.{has_room}
use Rattle.gw_entities.specs.declared.storages.Storage.{Storage}
use Rattle.gw_transactions.specs.declared.Transaction.{Transaction}
use Rattle.gw_transactions.specs.Transactions.{attributes_at}
use Rattle.gw_machine.specs.Admission.{AsksInVain, AdmitsNobody, AllAskInVain}
use Rattle.gw_machine.specs.declared.wants.Want.{Want}
use Rattle.gw_machine.specs.declared.least.Least.{Least}
use Rattle.gw_machine.specs.declared.least.Least.TheVariants.{Unknown, Nobody, Units as Asks}
use Rattle.gw_machine.specs.Wants.{counted_at, want_count, IsTold, AreTold, next_of, nexts, IsWanted, IsLeast, lesser}
use Rattle.gw_num.specs.Table.{at}
use Rattle.gw_machine.specs.Configuration.{Configuration}
use Rattle.gw_machine.specs.View.{state_of, member_number}
use Rattle.gw_machine.proofs.Changes.{delay_list-at}
use Rattle.gw_machine.proofs.Knowing.{next-found}
use Rattle.gw_machine.proofs.Walks.{rest_of_walk, vain-looked_at, vain-first, admission-none}
use Rattle.gw_step.proofs.Follows.{asked-enter}
use Rattle.gw_step.proofs.Residence.{same_number}

-- TOLD

pub told-none : (es : List ℕ) → AreTold es []
told-none es i some = absurd (omega (arith, some))

pub told-more : (es : List ℕ) (w : Want) (ws : List Want) → IsTold es w → AreTold es ws → AreTold es (w ∷ ws)
told-more es w ws first rest zero = first
told-more es w ws first rest (suc i) = rest i

-- THE LEAST OF SOME

-- the least of what was least so far and what a want asks
abbrev pub step : List Block → ℕ → Least → Want → Least
step bs e least w = if w.waiting == 0 then least else lesser least (units_asked e (block_at bs w.block))

-- the least of what was least so far and what these wants ask
abbrev pub least_in : List Block → ℕ → List Want → Least → Least
least_in bs e [] least = least
least_in bs e (w ∷ ws) least = least_in bs e ws (step bs e least w)

-- it is known
abbrev IsSaid : Least → Type 0
IsSaid Unknown = ⊥
IsSaid Nobody = Unit {0}
IsSaid (Asks n) = Unit {0}

module _ (bs : List Block) (e : ℕ) where
  -- only how many want to enter each block matters
  pub least-by : (f g : ℕ → ℕ) → ((b : ℕ) → f b ≡ g b) → (least : Least) → IsLeast bs e f least → IsLeast bs e g least
  least-by f g same Unknown h = tt
  least-by f g same Nobody h = λ b u w. h b u (record { some = omega (arith, w.some, same b); asks = w.asks })
  least-by f g same (Asks n) h = (
    (λ b u w. h.0 b u (record { some = omega (arith, w.some, same b); asks = w.asks })),
    (h.1.0, h.1.1, record { some = omega (arith, h.1.2.some, same h.1.0); asks = h.1.2.asks }, h.1.3),
  )

  -- whoever is wanted was so before, or asks what this want asks
  was_or_now : (f : ℕ → ℕ) (w : Want) (b : ℕ) (u : Units) → IsWanted bs e (λ k. f k + counted_at k w) b u → (IsWanted bs e f b u)
      ⊎ ((b ≡ w.block) × (0 < w.waiting))
  was_or_now f w b u h = elim (cases_eq w.block b) [
    | inl same ↦ by_count (f b) refl (sym same)
    | inr other ↦ inl (record { some = let none : counted_at b w ≡ 0 = rw (ne_eqb w.block b other) refl in omega (arith, h.some, none); asks = h.asks })
  ]
    where
      by_count : (n : ℕ) → f b ≡ n → b ≡ w.block → (IsWanted bs e f b u) ⊎ ((b ≡ w.block) × (0 < w.waiting))
      by_count (suc n) is same = inl (record { some = omega (arith, is); asks = h.asks })
      by_count zero is same =
          let now : counted_at b w ≡ w.waiting = rw (eq-eqb w.block b (sym same)) refl in
          inr (same, omega (arith, h.some, is, now))

  counted-here : (w : Want) → counted_at w.block w ≡ w.waiting
  counted-here w = rw (eq-eqb w.block w.block refl) refl

  same-asked : (w : Want) (b : ℕ) (u v : Units) → b ≡ w.block → units_asked e (block_at bs w.block) ≡ Some v
      → units_asked e (block_at bs b) ≡ Some u → u.number ≡ v.number
  same-asked w b u v here asks also =
      let both : Some u ≡ Some v = sym also ∙ ap (λ k. units_asked e (block_at bs k)) here ∙ asks in
      ap (λ (o : Option Units). elim o [ None ↦ 0 | Some x ↦ x.number ]) both

  -- one more want is looked at
  less : (f : ℕ → ℕ) (w : Want) → 0 < w.waiting → (least : Least) (o : Option Units) → units_asked e (block_at bs w.block) ≡ o
      → IsSaid least → IsLeast bs e f least → IsLeast bs e (λ k. f k + counted_at k w) (lesser least o) × IsSaid (lesser least o)
  less f w some Unknown o is said h = absurd said
  less f w some Nobody None is said h = (
    (λ b u v. elim (was_or_now f w b u v) [
      | inl before ↦ h b u before
      | inr now ↦ let no : Some u ≡ None = sym v.asks ∙ ap (λ k. units_asked e (block_at bs k)) now.0 ∙ is in absurd cc
    ]),
    tt,
  )
  less f w some Nobody (Some n) is said h = (
    (
      (λ b u v. elim (was_or_now f w b u v) [
        | inl before ↦ absurd (h b u before)
        | inr now ↦ omega (arith, same-asked w b u n now.0 is v.asks)
      ]),
      (w.block, n, record { some = omega (arith, some, counted-here w); asks = is }, refl),
    ),
    tt,
  )
  less f w some (Asks least) None is said h = (
    (
      (λ b u v. elim (was_or_now f w b u v) [
        | inl before ↦ h.0 b u before
        | inr now ↦ let no : Some u ≡ None = sym v.asks ∙ ap (λ k. units_asked e (block_at bs k)) now.0 ∙ is in absurd cc
      ]),
      (h.1.0, h.1.1, record { some = omega (arith, h.1.2.some); asks = h.1.2.asks }, h.1.3),
    ),
    tt,
  )
  less f w some (Asks least) (Some n) is said h = by_test (nat_le least n.number) refl
    where
      by_test : (b : Bool) → nat_le least n.number ≡ b → IsLeast bs e (λ k. f k + counted_at k w) (Asks (if b then least else n.number)) × Unit {0}
      by_test true le = (
        (
          (λ b u v. elim (was_or_now f w b u v) [
            | inl before ↦ h.0 b u before
            | inr now ↦ omega (arith, same-asked w b u n now.0 is v.asks, leb-true least n.number le)
          ]),
          (h.1.0, h.1.1, record { some = omega (arith, h.1.2.some); asks = h.1.2.asks }, h.1.3),
        ),
        tt,
      )
      by_test false gt = (
        (
          (λ b u v. elim (was_or_now f w b u v) [
            | inl before ↦ omega (arith, h.0 b u before, leb-false least n.number gt)
            | inr now ↦ omega (arith, same-asked w b u n now.0 is v.asks)
          ]),
          (w.block, n, record { some = omega (arith, some, counted-here w); asks = is }, refl),
        ),
        tt,
      )

  stepped : (f : ℕ → ℕ) (w : Want) (least : Least) → IsSaid least → IsLeast bs e f least
      → IsLeast bs e (λ k. f k + counted_at k w) (step bs e least w) × IsSaid (step bs e least w)
  stepped f w least said h = by_count w.waiting refl
    where
      either_way : (b : Bool) (n : ℕ) → (if b then n else n) ≡ n
      either_way true n = refl
      either_way false n = refl

      by_count : (n : ℕ) → w.waiting ≡ n → IsLeast bs e (λ k. f k + counted_at k w) (step bs e least w) × IsSaid (step bs e least w)
      by_count zero is = rw is (least-by f (λ k. f k + (if w.block == k then 0 else 0)) (λ b. omega (arith, either_way (w.block == b) 0)) least h, said)
      by_count (suc n) is = rw (other_zero is) (less f w (omega (arith, is)) least (units_asked e (block_at bs w.block)) refl said h)
        where
          other_zero : w.waiting ≡ suc n → (w.waiting == 0) ≡ false
          other_zero is = ne_eqb w.waiting 0 (λ none. absurd (omega (arith, none, is)))

  least-of : (ws : List Want) (f : ℕ → ℕ) (least : Least) → IsSaid least → IsLeast bs e f least
      → IsLeast bs e (λ k. f k + want_count k ws) (least_in bs e ws least)
  least-of [] f least said h = least-by f (λ k. f k + want_count k []) (λ b. omega arith) least h
  least-of (w ∷ ws) f least said h =
      let s = stepped f w least said h in
      least-by (λ k. f k + counted_at k w + want_count k ws) (λ k. f k + want_count k (w ∷ ws))
      (λ b. omega (arith, sum_by-cons (counted_at b) w ws)) (least_in bs e ws (step bs e least w))
      (least-of ws (λ k. f k + counted_at k w) (step bs e least w) s.1 s.0)

  pub least-counted : (ws : List Want) → IsLeast bs e (λ b. want_count b ws) (least_in bs e ws Nobody)
  least-counted ws =
      least-by (λ k. 0 + want_count k ws) (λ b. want_count b ws) (λ b. omega arith) (least_in bs e ws Nobody)
      (least-of ws (λ k. 0) Nobody tt (λ b u w. absurd (omega (arith, w.some))))

-- NOBODY ENTERS

module _ (bs : List Block) (e : ℕ) (s : State) where
  in_vain : (ns : List ℕ) → ((b : ℕ) → 0 < occurrences b (map (next_of s.transactions) ns) → AsksInVain bs e b s) → admission bs e ns s ≡ s
  in_vain [] h = admission-none bs e s
  in_vain (n ∷ ns) h =
      vain-first bs e n ns s (by_live (attributes_at n s.transactions) refl) (in_vain ns (λ b some. h b (omega (arith, some))))
    where
      by_live : (o : Option Transaction) → attributes_at n s.transactions ≡ o → looked_at bs e n s ≡ s
      by_live None is = ap (λ (o : Option Transaction). option_map_or (admit_by bs e n s) o s) is
      by_live (Some t) live = vain-looked_at bs e n s t live
          (subst (λ b. AsksInVain bs e b s) (next-found n s.transactions t live)
          (h (next_of s.transactions n) (omega (arith, same_number (next_of s.transactions n) (next_of s.transactions n) refl))))

  -- where all ask in vain nobody enters
  pub vain-nobody : AllAskInVain bs e s → AdmitsNobody bs e s
  vain-nobody h = in_vain (delay_list e s) h

  -- where nobody asks for units of the storage
  pub nobody-asks : IsLeast bs e (λ b. occurrences b (nexts e s)) Nobody → AllAskInVain bs e s
  nobody-asks h b some u asks = absurd (h b u (record { some = some; asks = asks }))

  -- where there is no room for the least
  pub least-refused : (n : ℕ) → IsLeast bs e (λ b. occurrences b (nexts e s)) (Asks n) → has_room n (storage e s) ≡ false → AllAskInVain bs e s
  least-refused n h none b some u asks =
      subst (λ k. has_room u.number (storage k s) ≡ false) (sym (asked-enter e (block_at bs b) u asks).1)
      (more-refused n u.number (storage e s) (h.0 b u (record { some = some; asks = asks })) none)
    where
      more-refused : (n k : ℕ) (x : Storage) → n ≤ k → has_room n x ≡ false → has_room k x ≡ false
      more-refused n k x le none = lt-leb (x.contents.content + k) x.capacity (omega (arith, le, leb-false (x.contents.content + n) x.capacity none))

-- what is left of a list has no more of a number
occurrences-left : (f : ℕ → ℕ) (b i : ℕ) (ns : List ℕ) → occurrences b (map f (drop i ns)) ≤ occurrences b (map f ns)
occurrences-left f b zero [] = omega arith
occurrences-left f b (suc i) [] = omega arith
occurrences-left f b zero (k ∷ ks) = omega arith
occurrences-left f b (suc i) (k ∷ ks) = omega (arith, occurrences-left f b i ks)

-- where all ask in vain, nobody of those to whom a walk has still to come enters
pub vain-rest : (bs : List Block) (e i : ℕ) (m : Configuration) → AllAskInVain bs e (state_of m) → rest_of_walk bs e i m ≡ state_of m
vain-rest bs e i m h =
    let ns = map member_number (at [] m.waits.lists e) in
    in_vain bs e (state_of m) (drop i ns) (λ b some. h b
    (let here = ap (λ ks. occurrences b (map (next_of m.transactions.txs) ks)) (delay_list-at m e) in
    omega (arith, some, occurrences-left (next_of m.transactions.txs) b i ns, here)))
