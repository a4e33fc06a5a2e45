-- The transactions that a slab's slots list are those of the table.
use Rattle.std.proofs.Common.{◌≡◌, ℕ, zero, suc, List, [], ◌∷◌, map, replicate, Option, Some, None, option_map, refl, sym, subst}
use Rattle.std.specs.Prelude.{IsPermutation, filter_map}
use Rattle.std.proofs.lemmas.List.Sorted.{IsPermutation-refl, IsPermutation-trans, IsPermutation-cons, IsPermutation-insert}
use Rattle.slab.specs.Slab.{Slab, entries_from}
use Rattle.gw_num.specs.Table.{at, put}
use Rattle.gw_transactions.specs.declared.Kept.{Kept}
use Rattle.gw_transactions.specs.Parameters.{Numbered}
use Rattle.gw_transactions.specs.Transactions.{listed_as, listed_transactions}
use Rattle.gw_transactions.specs.Slots.{live_as, listed_in, by_number, AreNumbered}
use Rattle.gw_transactions.proofs.Slots.{numbered_tail, free_tail, at-by_number_free}

module _ {Y Z : Type 0} (h : Y → Z) where
  none_listed : (n : ℕ) → filter_map (option_map h) (replicate n None) ≡ []
  none_listed zero = refl
  none_listed (suc n) = none_listed n

  -- one more in a table is one more of those that are there
  listed-put : (xs : List (Option Y)) (n : ℕ) (y : Y) → at None xs n ≡ None
      → IsPermutation (filter_map (option_map h) (put None xs n (Some y))) (h y ∷ filter_map (option_map h) xs)
  listed-put [] zero y free = IsPermutation-refl _
  listed-put [] (suc n) y free = listed-put [] n y refl
  listed-put (None ∷ xs) zero y free = IsPermutation-refl _
  listed-put (Some x ∷ xs) zero y free = absurd (cc)
  listed-put (None ∷ xs) (suc n) y free = listed-put xs n y free
  listed-put (Some x ∷ xs) (suc n) y free =
      let others = filter_map (option_map h) xs in
      IsPermutation-trans _ _ _ (IsPermutation-cons (h x) _ _ (listed-put xs n y free)) (IsPermutation-insert (h y ∷ others) 1 (h x))

-- the keys of a slab's entries don't matter
pub listed_slots : (beside : Slab Numbered) (next place key : ℕ) (slots : List (Option (ℕ × Kept))) → AreNumbered slots next
    → IsPermutation (listed_transactions (by_number (λ place kept. live_as beside kept) next place slots)) (map (listed_in beside) (entries_from key slots))
listed_slots beside next place key [] num = subst (λ all. IsPermutation all []) (sym (none_listed listed_as next)) (IsPermutation-refl [])
listed_slots beside next place key (None ∷ slots) num = listed_slots beside next (suc place) _ slots (numbered_tail None slots next num)
listed_slots beside next place key (Some slot ∷ slots) num =
    let entry = λ (place : ℕ) (kept : Kept). live_as beside kept in
    IsPermutation-trans _ _ _
    (listed-put listed_as (by_number entry next (suc place) slots) slot.0 (live_as beside slot.1)
    (at-by_number_free entry next (suc place) slot.0 slots (free_tail slot slots next num)))
    (IsPermutation-cons (listed_as (live_as beside slot.1)) _ _ (listed_slots beside next (suc place) _ slots (numbered_tail (Some slot) slots next num)))
