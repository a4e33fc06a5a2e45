-- The tables of a slab's slots, and what an edit of one slot makes of them.
use Rattle.std.proofs.Common.{◌≡◌, ◌≢◌, ℕ, zero, suc, ◌+◌, ◌^◌, ◌<◌, ◌≤◌, List, [], ◌∷◌, length, get_or, set, Option, Some, None, Bool, false, cond}
use Rattle.std.proofs.Common.{count_by, refl, sym, ap, ◌∙◌, inl, inr, arith, get_or-set_same, get_or-set_other}
use Rattle.std.proofs.lemmas.Bool.{cases_eq}
use Rattle.std.proofs.lemmas.List.{length-replicate}
use Rattle.std.proofs.lemmas.List.Sums.{sum_by-cons}
use Rattle.gw_num.specs.Table.{at, put}
use Rattle.gw_transactions.specs.Slots.{by_number, AreNumbered}
use Rattle.gw_num.proofs.Tables.{at_some, at-get_or, at-put, at-put_other, put-put, put-put_other, put-at, length-put, at-replicate, put-replicate}
use Rattle.gw_num.proofs.Tables.{count_by-put, sum_by-replicate}

module _ {X : Type 0} where
  pub no_slot : (a : ℕ × X) → None ≡ Some a → ⊥
  no_slot a e = cc

  pub same_slot : (a b : ℕ × X) → Some a ≡ Some b → a ≡ b
  same_slot a b e = cc

  pub own_number : (n : ℕ) (x : X) (b : ℕ × X) → Some (n, x) ≡ Some b → b.0 ≡ n
  own_number n x b e = sym (ap (λ (a : ℕ × X). a.0) (same_slot (n, x) b e))

  -- no slot has the number
  abbrev pub IsFree : List (Option (ℕ × X)) → ℕ → Type 0
  IsFree slots n = (p : ℕ) (a : ℕ × X) → get_or slots p None ≡ Some a → a.0 ≢ n

  -- THE NUMBERS

  pub numbered_tail : (o : Option (ℕ × X)) (slots : List (Option (ℕ × X))) (next : ℕ) → AreNumbered (o ∷ slots) next → AreNumbered slots next
  numbered_tail o slots next num =
      record {
        few = num.few;
        given = λ p. num.given (suc p);
        distinct = λ p q a b there here same. omega (arith, num.distinct (suc p) (suc q) a b there here same);
      }

  pub free_tail : (a : ℕ × X) (slots : List (Option (ℕ × X))) (next : ℕ) → AreNumbered (Some a ∷ slots) next → IsFree slots a.0
  free_tail a slots next num p b there same = absurd (omega (arith, num.distinct 0 (suc p) a b refl there (sym same)))

  -- one slot changes, and its number is of those given out and no other slot's
  numbered_update : (old new : List (Option (ℕ × X))) (n m p : ℕ) → AreNumbered old n → n ≤ m → m ≤ 2 ^ 62
      → ((q : ℕ) → q ≢ p → get_or new q None ≡ get_or old q None)
      → ((b : ℕ × X) → get_or new p None ≡ Some b → (0 < b.0) × (b.0 < m)
      × ((q : ℕ) (a : ℕ × X) → q ≢ p → get_or old q None ≡ Some a → a.0 ≢ b.0)) → AreNumbered new m
  numbered_update old new n m p num more few others own =
      let here : (q : ℕ) (b : ℕ × X) → q ≡ p → get_or new q None ≡ Some b → get_or new p None ≡ Some b =
      λ q b same there. ap (λ i. get_or new i None) (sym same) ∙ there in
      record {
        few = few;
        given = λ q b there.
            elim (cases_eq q p) [
              | inl same ↦ let o = own b (here q b same there) in (o.0, o.1)
              | inr other ↦ let g = num.given q b (sym (others q other) ∙ there) in (g.0, omega (arith, g.1))
            ];
        distinct = λ q r a b at_q at_r same.
            elim (cases_eq q p) [
              | inl q_is ↦
                  elim (cases_eq r p) [
                    | inl r_is ↦ q_is ∙ sym r_is
                    | inr r_other ↦ absurd ((own a (here q a q_is at_q)).2 r b r_other (sym (others r r_other) ∙ at_r) (sym same))
                  ]
              | inr q_other ↦
                  elim (cases_eq r p) [
                    | inl r_is ↦ absurd ((own b (here r b r_is at_r)).2 q a q_other (sym (others q q_other) ∙ at_q) same)
                    | inr r_other ↦ num.distinct q r a b (sym (others q q_other) ∙ at_q) (sym (others r r_other) ∙ at_r) same
                  ]
            ];
      }

  -- none was given out
  pub numbered-none : (slots : List (Option (ℕ × X))) → slots ≡ [] → AreNumbered slots 1
  numbered-none slots empty =
      rw empty record {
        few = omega arith;
        given = λ p a there. absurd (no_slot a there);
        distinct = λ p q a b there here same. absurd (no_slot a there);
      }

  -- a slot is written under its own number, or emptied
  pub numbered-set : (slots : List (Option (ℕ × X))) (next p : ℕ) (a : ℕ × X) (v : Option (ℕ × X)) → p < length slots → get_or slots p None
      ≡ Some a → ((b : ℕ × X) → v ≡ Some b → b.0 ≡ a.0) → AreNumbered slots next → AreNumbered (set slots p v) next
  numbered-set slots next p a v within there own num =
      numbered_update slots (set slots p v) next next p num (omega arith) num.few (λ q other. get_or-set_other slots p q v None other)
      (λ b is.
      let same = own b (sym (get_or-set_same slots p v None within) ∙ is) in
      let g = num.given p a there in
      (omega (arith, same, g.0), omega (arith, same, g.1), λ q c other found clash. other (num.distinct q p c a found there (clash ∙ same))))

  -- an empty slot takes the next number
  pub numbered-next : (old new : List (Option (ℕ × X))) (next p : ℕ) (x : X) → 0 < next → next < 2 ^ 62 → get_or new p None
      ≡ Some (next, x) → ((q : ℕ) → q ≢ p → get_or new q None ≡ get_or old q None) → AreNumbered old next → AreNumbered new (next + 1)
  numbered-next old new next p x begun few is others num =
      numbered_update old new next (next + 1) p num (omega arith) (omega (arith, few)) others
      (λ b there.
      let same : next ≡ b.0 = ap (λ (a : ℕ × X). a.0) (same_slot (next, x) b (sym is ∙ there)) in
      (omega (arith, same, begun), omega (arith, same), λ q a other found clash. absurd (omega (arith, same, clash, (num.given q a found).1))))

module _ {X Y : Type 0} (entry : ℕ → X → Y) where
  -- READING THE TABLE

  pub at-by_number_free : (next k n : ℕ) (slots : List (Option (ℕ × X))) → IsFree slots n → at None (by_number entry next k slots) n ≡ None
  at-by_number_free next k n [] free = at-replicate None next n
  at-by_number_free next k n (None ∷ slots) free = at-by_number_free next (suc k) n slots (λ p. free (suc p))
  at-by_number_free next k n (Some b ∷ slots) free =
      at-put_other None (by_number entry next (suc k) slots) b.0 n (Some (entry k b.1)) (λ same. free 0 b refl (sym same))
      ∙ at-by_number_free next (suc k) n slots (λ p. free (suc p))

  pub at-by_number : (next k p : ℕ) (slots : List (Option (ℕ × X))) (a : ℕ × X) → AreNumbered slots next → get_or slots p None ≡ Some a
      → at None (by_number entry next k slots) a.0 ≡ Some (entry (k + p) a.1)
  at-by_number next k p [] a num there = absurd (no_slot a there)
  at-by_number next k zero (None ∷ slots) a num there = absurd (no_slot a there)
  at-by_number next k zero (Some b ∷ slots) a num there =
      let same = same_slot b a there in
      let here : k + 0 ≡ k = omega arith in
      rw (← same, here) (at-put None (by_number entry next (suc k) slots) b.0 (Some (entry k b.1)))
  at-by_number next k (suc p) (None ∷ slots) a num there =
      let shift : suc k + p ≡ k + suc p = omega arith in
      rw shift at (at-by_number next (suc k) p slots a (numbered_tail None slots next num) there)
  at-by_number next k (suc p) (Some b ∷ slots) a num there =
      let shift : suc k + p ≡ k + suc p = omega arith in
      at-put_other None (by_number entry next (suc k) slots) b.0 a.0 (Some (entry k b.1)) (free_tail b slots next num p a there)
      ∙ rw shift at (at-by_number next (suc k) p slots a (numbered_tail (Some b) slots next num) there)

  -- the slot of an entry
  pub slot_of : (next k n : ℕ) (slots : List (Option (ℕ × X))) (y : Y) → at None (by_number entry next k slots) n ≡ Some y → (p : ℕ)
      × (x : X) × (get_or slots p None ≡ Some (n, x)) × (y ≡ entry (k + p) x)
  slot_of next k n [] y there = absurd (none (sym (at-replicate None next n) ∙ there))
    where
      none : None ≡ Some y → ⊥
      none e = cc
  slot_of next k n (None ∷ slots) y there =
      let shift : (p : ℕ) → suc k + p ≡ k + suc p = λ p. omega arith in
      let rest = slot_of next (suc k) n slots y there in
      (suc rest.0, rest.1, rest.2, rest.3 ∙ ap (λ i. entry i rest.1) (shift rest.0))
  slot_of next k n (Some b ∷ slots) y there =
      elim (cases_eq n b.0) [
        | inl same ↦
            let here : k ≡ k + 0 = omega arith in
            let value : entry k b.1 ≡ y =
            some (sym (at-put None (by_number entry next (suc k) slots) b.0 (Some (entry k b.1)))
            ∙ ap (at None (put None (by_number entry next (suc k) slots) b.0 (Some (entry k b.1)))) (sym same) ∙ there) in
            (0, b.1, ap (λ i. Some (i, b.1)) (sym same), sym value ∙ ap (λ i. entry i b.1) here)
        | inr other ↦
            let shift : (p : ℕ) → suc k + p ≡ k + suc p = λ p. omega arith in
            let rest = slot_of next (suc k) n slots y (sym (at-put_other None (by_number entry next (suc k) slots) b.0 n (Some (entry k b.1)) other) ∙ there) in
            (suc rest.0, rest.1, rest.2, rest.3 ∙ ap (λ i. entry i rest.1) (shift rest.0))
      ]
    where
      some : Some (entry k b.1) ≡ Some y → entry k b.1 ≡ y
      some e = cc

  pub length-by_number : (next k : ℕ) (slots : List (Option (ℕ × X))) → AreNumbered slots next → length (by_number entry next k slots) ≡ next
  length-by_number next k [] num = length-replicate next None
  length-by_number next k (None ∷ slots) num = length-by_number next (suc k) slots (numbered_tail None slots next num)
  length-by_number next k (Some b ∷ slots) num =
      let rest = length-by_number next (suc k) slots (numbered_tail (Some b) slots next num) in
      let g = num.given 0 b refl in
      length-put None (by_number entry next (suc k) slots) b.0 (Some (entry k b.1)) (omega (arith, g.1, rest)) ∙ rest

  -- EDITS

  -- the entry of a slot
  abbrev pub entry_of : ℕ → Option (ℕ × X) → Option Y
  entry_of p None = None
  entry_of p (Some b) = Some (entry p b.1)

  set_first : (next k : ℕ) (slots : List (Option (ℕ × X))) (a : ℕ × X) (v : Option (ℕ × X)) → AreNumbered (Some a ∷ slots) next
      → ((b : ℕ × X) → v ≡ Some b → b.0 ≡ a.0) → by_number entry next k (v ∷ slots) ≡ put None (by_number entry next k (Some a ∷ slots)) a.0 (entry_of k v)
  set_first next k slots a None num own =
      let rest = by_number entry next (suc k) slots in
      let long = length-by_number next (suc k) slots (numbered_tail (Some a) slots next num) in
      let g = num.given 0 a refl in
      sym (
      put-put None rest a.0 (Some (entry k a.1)) None
      ∙ ap (put None rest a.0) (sym (at-by_number_free next (suc k) a.0 slots (free_tail a slots next num)))
      ∙ put-at None rest a.0 (omega (arith, long, g.1))
      )
  set_first next k slots a (Some b) num own =
      let rest = by_number entry next (suc k) slots in
      ap (λ n. put None rest n (Some (entry k b.1))) (own b refl) ∙ sym (put-put None rest a.0 (Some (entry k a.1)) (Some (entry k b.1)))

  -- a slot is written under its own number, or emptied
  pub by_number-set : (next k p : ℕ) (slots : List (Option (ℕ × X))) (a : ℕ × X) (v : Option (ℕ × X)) → AreNumbered slots next
      → get_or slots p None ≡ Some a → ((b : ℕ × X) → v ≡ Some b → b.0 ≡ a.0) → by_number entry next k (set slots p v)
      ≡ put None (by_number entry next k slots) a.0 (entry_of (k + p) v)
  by_number-set next k p [] a v num there own = absurd (no_slot a there)
  by_number-set next k zero (None ∷ slots) a v num there own = absurd (no_slot a there)
  by_number-set next k zero (Some b ∷ slots) a v num there own =
      let same = same_slot b a there in
      let here : k + 0 ≡ k = omega arith in
      rw (← same, here) (set_first next k slots b v num (λ c is. own c is ∙ ap (λ (x : ℕ × X). x.0) (sym same)))
  by_number-set next k (suc p) (None ∷ slots) a v num there own =
      let shift : suc k + p ≡ k + suc p = omega arith in
      rw shift at (by_number-set next (suc k) p slots a v (numbered_tail None slots next num) there own)
  by_number-set next k (suc p) (Some b ∷ slots) a v num there own =
      let shift : suc k + p ≡ k + suc p = omega arith in
      ap (λ xs. put None xs b.0 (Some (entry k b.1))) (rw shift at (by_number-set next (suc k) p slots a v (numbered_tail (Some b) slots next num) there own))
      ∙ put-put_other None (by_number entry next (suc k) slots) a.0 b.0 (entry_of (k + suc p) v) (Some (entry k b.1)) (free_tail b slots next num p a there)

  -- slots that are read alike have one table
  by_number_same : (next k : ℕ) (s t : List (Option (ℕ × X))) → ((p : ℕ) → get_or s p None ≡ get_or t p None) → by_number entry next k s
      ≡ by_number entry next k t
  by_number_same next k [] [] same = refl
  by_number_same next k [] (None ∷ t) same = by_number_same next (suc k) [] t (λ p. same (suc p))
  by_number_same next k [] (Some b ∷ t) same = absurd (no_slot b (same 0))
  by_number_same next k (None ∷ s) [] same = by_number_same next (suc k) s [] (λ p. same (suc p))
  by_number_same next k (Some a ∷ s) [] same = absurd (no_slot a (sym (same 0)))
  by_number_same next k (None ∷ s) (None ∷ t) same = by_number_same next (suc k) s t (λ p. same (suc p))
  by_number_same next k (None ∷ s) (Some b ∷ t) same = absurd (no_slot b (same 0))
  by_number_same next k (Some a ∷ s) (None ∷ t) same = absurd (no_slot a (sym (same 0)))
  by_number_same next k (Some a ∷ s) (Some b ∷ t) same =
      ap (λ xs. put None xs a.0 (Some (entry k a.1))) (by_number_same next (suc k) s t (λ p. same (suc p)))
      ∙ ap (λ (x : ℕ × X). put None (by_number entry next (suc k) t) x.0 (Some (entry k x.1))) (same_slot a b (same 0))

  -- one number more is given out, and no slot has it
  by_number_more : (next k : ℕ) (slots : List (Option (ℕ × X))) → AreNumbered slots next → by_number entry (suc next) k slots
      ≡ put None (by_number entry next k slots) next None
  by_number_more next k [] num = sym (put-replicate None next)
  by_number_more next k (None ∷ slots) num = by_number_more next (suc k) slots (numbered_tail None slots next num)
  by_number_more next k (Some b ∷ slots) num =
      let g = num.given 0 b refl in
      ap (λ xs. put None xs b.0 (Some (entry k b.1))) (by_number_more next (suc k) slots (numbered_tail (Some b) slots next num))
      ∙ put-put_other None (by_number entry next (suc k) slots) next b.0 None (Some (entry k b.1)) (λ same. absurd (omega (arith, same, g.1)))

  -- an empty slot takes the next number
  pub by_number-next : (next p : ℕ) (old new : List (Option (ℕ × X))) (x : X) → 0 < next → next < 2 ^ 62 → AreNumbered old next
      → get_or old p None ≡ None → get_or new p None ≡ Some (next, x) → ((q : ℕ) → q ≢ p → get_or new q None ≡ get_or old q None)
      → by_number entry (next + 1) 0 new ≡ put None (by_number entry next 0 old) next (Some (entry p x))
  by_number-next next p old new x begun few num vacant is others =
      let numbered = numbered-next old new next p x begun few is others num in
      let table = by_number entry (next + 1) 0 new in
      let before = by_number entry next 0 old in
      let value = Some (entry p x) in
      let within : p < length new = at_some new p (next, x) (at-get_or None new p ∙ is) in
      let reads : (q : ℕ) → get_or (set new p None) q None ≡ get_or old q None =
      λ q. elim (cases_eq q p) [
        | inl same ↦ ap (λ i. get_or (set new p None) i None) same ∙ get_or-set_same new p None None within ∙ sym vacant
            ∙ ap (λ i. get_or old i None) (sym same)
        | inr other ↦ get_or-set_other new p q None None other ∙ others q other
      ] in
      let zero_more : 0 + p ≡ p = omega arith in
      let one_more : suc next ≡ next + 1 = omega arith in
      let emptied : by_number entry (next + 1) 0 (set new p None) ≡ put None table next None =
      by_number-set (next + 1) 0 p new (next, x) None numbered is (λ b e. absurd (no_slot b e)) in
      let was : by_number entry (next + 1) 0 old ≡ put None before next None = rw one_more at (by_number_more next 0 old num) in
      let here : at None table next ≡ value = rw zero_more at (at-by_number (next + 1) 0 p new (next, x) numbered is) in
      sym (
      put-put None table next None value
      ∙ ap (put None table next) (sym here)
      ∙ put-at None table next (omega (arith, length-by_number (next + 1) 0 new numbered))
      )
      ∙ ap (λ xs. put None xs next value) (sym emptied ∙ by_number_same (next + 1) 0 (set new p None) old reads ∙ was)
      ∙ put-put None before next None value

  -- COUNTS

  -- a test of the slots and one of the table that agree at each slot count alike
  pub count_by-by_number : (next k : ℕ) (slots : List (Option (ℕ × X))) (in_slots : Option (ℕ × X) → Bool) (in_table : Option Y → Bool)
      → AreNumbered slots next → in_slots None ≡ false → in_table None ≡ false
      → ((p : ℕ) (a : ℕ × X) → in_slots (Some a) ≡ in_table (Some (entry p a.1))) → count_by in_table (by_number entry next k slots) ≡ count_by in_slots slots
  count_by-by_number next k [] in_slots in_table num none nobody agree = sum_by-replicate None (λ y. cond (in_table y) 1 0) next (ap (λ b. cond b 1 0) nobody)
  count_by-by_number next k (None ∷ slots) in_slots in_table num none nobody agree =
      let weight : Option (ℕ × X) → ℕ = λ o. cond (in_slots o) 1 0 in
      let nothing : weight None ≡ 0 = ap (λ b. cond b 1 0) none in
      omega (
        arith,
        nothing,
        sum_by-cons weight None slots,
        count_by-by_number next (suc k) slots in_slots in_table (numbered_tail None slots next num) none nobody agree,
      )
  count_by-by_number next k (Some b ∷ slots) in_slots in_table num none nobody agree =
      let rest = by_number entry next (suc k) slots in
      let weight : Option (ℕ × X) → ℕ = λ o. cond (in_slots o) 1 0 in
      let weight_of : Option Y → ℕ = λ y. cond (in_table y) 1 0 in
      let free : weight_of (at None rest b.0) ≡ 0 = ap weight_of (at-by_number_free next (suc k) b.0 slots (free_tail b slots next num))
      ∙ ap (λ t. cond t 1 0) nobody in
      let same : weight (Some b) ≡ weight_of (Some (entry k b.1)) = ap (λ t. cond t 1 0) (agree k b) in
      omega (
        arith,
        free,
        same,
        sum_by-cons weight (Some b) slots,
        count_by-put None in_table rest b.0 (Some (entry k b.1)) nobody,
        count_by-by_number next (suc k) slots in_slots in_table (numbered_tail (Some b) slots next num) none nobody agree,
      )

module _ {X Y : Type 0} (was now : X → Y) where
  -- entries that agree on what the slots have make one table
  pub by_number-alike : (next k : ℕ) (slots : List (Option (ℕ × X)))
      → ((q : ℕ) (b : ℕ × X) → get_or slots q None ≡ Some b → now b.1 ≡ was b.1) → by_number (λ place x. now x) next k slots
      ≡ by_number (λ place x. was x) next k slots
  by_number-alike next k [] agree = refl
  by_number-alike next k (None ∷ slots) agree = by_number-alike next (suc k) slots (λ q. agree (suc q))
  by_number-alike next k (Some b ∷ slots) agree =
      ap (λ v. put None (by_number (λ place x. now x) next (suc k) slots) b.0 (Some v)) (agree 0 b refl)
      ∙ ap (λ xs. put None xs b.0 (Some (was b.1))) (by_number-alike next (suc k) slots (λ q. agree (suc q)))

  -- entries that agree on all but one slot make tables that differ at its number alone
  pub by_number-changed : (next p : ℕ) (slots : List (Option (ℕ × X))) (a : ℕ × X) → AreNumbered slots next → get_or slots p None ≡ Some a
      → ((q : ℕ) (b : ℕ × X) → q ≢ p → get_or slots q None ≡ Some b → now b.1 ≡ was b.1) → by_number (λ place x. now x) next 0 slots
      ≡ put None (by_number (λ place x. was x) next 0 slots) a.0 (Some (now a.1))
  by_number-changed next p slots a num there agree =
      let to : ℕ → X → Y = λ place x. now x in
      let from : ℕ → X → Y = λ place x. was x in
      let within : p < length slots = at_some slots p a (at-get_or None slots p ∙ there) in
      let others : by_number to next 0 (set slots p None) ≡ by_number from next 0 (set slots p None) =
      by_number-alike next 0 (set slots p None)
      (λ q b is.
      elim (cases_eq q p) [
        | inl same ↦ absurd (no_slot b (sym (get_or-set_same slots p None None within) ∙ ap (λ i. get_or (set slots p None) i None) (sym same) ∙ is))
        | inr other ↦ agree q b other (sym (get_or-set_other slots p q None None other) ∙ is)
      ]) in
      let emptied_to : by_number to next 0 (set slots p None) ≡ put None (by_number to next 0 slots) a.0 None =
      by_number-set to next 0 p slots a None num there (λ b e. absurd (no_slot b e)) in
      let emptied_from : by_number from next 0 (set slots p None) ≡ put None (by_number from next 0 slots) a.0 None =
      by_number-set from next 0 p slots a None num there (λ b e. absurd (no_slot b e)) in
      let g = num.given p a there in
      sym (put-at None (by_number to next 0 slots) a.0 (omega (arith, length-by_number to next 0 slots num, g.1)))
      ∙ ap (put None (by_number to next 0 slots) a.0) (at-by_number to next 0 p slots a num there)
      ∙ sym (put-put None (by_number to next 0 slots) a.0 None (Some (now a.1)))
      ∙ ap (λ xs. put None xs a.0 (Some (now a.1))) (sym emptied_to ∙ others ∙ emptied_from)
      ∙ put-put None (by_number from next 0 slots) a.0 None (Some (now a.1))
