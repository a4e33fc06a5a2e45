-- How often each BACK was taken.
use Rattle.std.proofs.Common.{◌≡◌, ℕ, zero, suc, ◌+◌, ◌<◌, ◌≤◌, List, [], ◌∷◌, ◌++◌, length, get_or, set, drop, Some, None, Bool, true, false, ◌==◌}
use Rattle.std.proofs.Common.{refl, sym, ap, ◌∙◌, arith}
use Rattle.std.specs.Prelude.{slice_get}
use Rattle.std.specs.List.{position, position_or_len, refill}
use Rattle.std.proofs.Math.ListN.{length-set}
use Rattle.std.proofs.lemmas.List.{map-set, take-append-le, take_all}
use Rattle.std.proofs.lemmas.Bool.{eqb-true}
use Rattle.std.proofs.lemmas.Grind.{common_steps}
use Rattle.std.proofs.lemmas.List.Quantifiers.{position-Some}
use Rattle.std.proofs.lemmas.List.Sums.{fails_before_first}
use Rattle.gw_rules.specs.Meaning.{taken_at, take_once}
use Rattle.gw_plus.specs.declared.activation.Turns.{Turns}
use Rattle.gw_plus.specs.Activation.{taken_of, is_taken}

-- what is read past the last entry
abbrev pub none : Turns
none = record { place = 0; count = 0 }

-- all of a list is written through a slice
refilled : (ts us : List Turns) → length us ≡ length ts → refill (length ts) ts us ≡ us
refilled ts us same = take-append-le (length ts) us (drop (length us) ts) (omega arith) ∙ take_all (length ts) us (omega arith)

module _ (k : ℕ) where
  -- an entry is that of the BACK at k
  abbrev pub is_here : Turns → Bool
  is_here t = t.place == k

  -- no entry before number i is that of the BACK at k
  abbrev NoneBefore : List Turns → ℕ → Type 0
  NoneBefore ts i = (j : ℕ) → j < i → is_here (get_or ts j none) ≡ false

  -- THE ENTRY IS THERE

  first_found : (ts : List Turns) (i : ℕ) → i < length ts → is_here (get_or ts i none) ≡ true → NoneBefore ts i → slice_get (taken_of ts) i
      ≡ Some (k, taken_at (taken_of ts) k)
  first_found [] i within here before = absurd (omega arith)
  first_found (t ∷ ts) zero within here before = rw here (ap (λ place. Some (place, t.count)) (eqb-true t.place k here))
  first_found (t ∷ ts) (suc i) within here before = rw (before 0 (omega arith)) (first_found ts i (omega arith) here (λ j below. before (suc j) (omega arith)))

  first_taken : (ts : List Turns) (i n : ℕ) → i < length ts → is_here (get_or ts i none) ≡ true → NoneBefore ts i → n
      ≡ taken_at (taken_of ts) k + 1 → set (taken_of ts) i (k, n) ≡ take_once (taken_of ts) k
  first_taken [] i n within here before more = absurd (omega arith)
  first_taken (t ∷ ts) zero n within here before more =
      rw here (ap (λ place. (place, n) ∷ taken_of ts) (sym (eqb-true t.place k here)) ∙ ap (λ m. (t.place, m) ∷ taken_of ts) (rw here at more))
  first_taken (t ∷ ts) (suc i) n within here before more =
      rw (before 0 (omega arith))
      (ap (λ xs. (t.place, t.count) ∷ xs)
      (first_taken ts i n (omega arith) here (λ j below. before (suc j) (omega arith)) (rw (before 0 (omega arith)) at more)))

  pub found : (ts : List Turns) (i : ℕ) → position is_here ts ≡ Some i → slice_get (taken_of ts) i ≡ Some (k, taken_at (taken_of ts) k)
  found ts i is = let first = position-Some is_here ts i none is in first_found ts i first.0 first.1 first.2

  pub found_taken : (ts : List Turns) (i n : ℕ) → position is_here ts ≡ Some i → n ≡ taken_at (taken_of ts) k + 1
      → set (taken_of ts) i (k, n) ≡ take_once (taken_of ts) k
  found_taken ts i n is more = let first = position-Some is_here ts i none is in first_taken ts i n first.0 first.1 first.2 more

  -- THERE IS NO ENTRY

  none_before : (ts : List Turns) → position is_here ts ≡ None → NoneBefore ts (length ts)
  none_before ts is j below =
      let past : length ts ≤ position_or_len is_here ts = grind (arith, common_steps) in
      fails_before_first is_here ts j none (omega arith)

  none_taken : (ts : List Turns) → NoneBefore ts (length ts) → is_taken (taken_of ts) k ≡ false
  none_taken [] before = refl
  none_taken (t ∷ ts) before = rw (before 0 (omega arith)) (none_taken ts (λ j below. before (suc j) (omega arith)))

  pub absent : (ts : List Turns) → position is_here ts ≡ None → is_taken (taken_of ts) k ≡ false
  absent ts is = none_taken ts (none_before ts is)

  -- a new entry for the BACK at k
  abbrev pub fresh : Turns
  fresh = record { place = k; count = 0 }

  added_last : (ts : List Turns) → NoneBefore ts (length ts) → slice_get (taken_of (ts ++ fresh ∷ [])) (length ts) ≡ Some (k, taken_at (taken_of ts) k)
  added_last [] before = refl
  added_last (t ∷ ts) before = rw (before 0 (omega arith)) (added_last ts (λ j below. before (suc j) (omega arith)))

  last_taken : (ts : List Turns) (n : ℕ) → NoneBefore ts (length ts) → n ≡ taken_at (taken_of ts) k + 1
      → set (taken_of (ts ++ fresh ∷ [])) (length ts) (k, n) ≡ take_once (taken_of ts) k
  last_taken [] n before more = let one : n ≡ 1 = omega arith in ap (λ m. (k, m) ∷ []) one
  last_taken (t ∷ ts) n before more =
      rw (before 0 (omega arith))
      (ap (λ xs. (t.place, t.count) ∷ xs) (last_taken ts n (λ j below. before (suc j) (omega arith)) (rw (before 0 (omega arith)) at more)))

  pub added : (ts us : List Turns) (i : ℕ) → position is_here ts ≡ None → us ≡ ts ++ fresh ∷ [] → i ≡ length ts → slice_get (taken_of us) i
      ≡ Some (k, taken_at (taken_of ts) k)
  added ts us i is more last = rw (more, last) (added_last ts (none_before ts is))

  pub added_taken : (ts us : List Turns) (i n : ℕ) → position is_here ts ≡ None → us ≡ ts ++ fresh ∷ [] → i ≡ length ts → n
      ≡ taken_at (taken_of ts) k + 1 → set (taken_of us) i (k, n) ≡ take_once (taken_of ts) k
  added_taken ts us i n is more last once = rw (more, last) (last_taken ts n (none_before ts is) once)

  -- READING AND WRITING AN ENTRY

  pub count_read : (ts : List Turns) (i n : ℕ) → slice_get (taken_of ts) i ≡ Some (k, n) → (get_or ts i none).count ≡ n
  count_read [] i n is = absurd (cc)
  count_read (t ∷ ts) zero n is = let same : (t.place, t.count) ≡ (k, n) = cc in ap (λ (x : ℕ × ℕ). x.1) same
  count_read (t ∷ ts) (suc i) n is = count_read ts i n is

  pub count_written : (ts us : List Turns) (i n : ℕ) → us ≡ ts
      → taken_of (refill (length ts) ts (set us i (record { place = k; count = n }))) ≡ set (taken_of ts) i (k, n)
  count_written ts us i n is =
      rw is (ap taken_of (refilled ts (set ts i (record { place = k; count = n })) (length-set ts i (record { place = k; count = n })))
      ∙ map-set (λ (t : Turns). (t.place, t.count)) ts i (record { place = k; count = n }))
