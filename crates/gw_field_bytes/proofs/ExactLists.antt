-- Exact lists: what is read for elements is spelled so, what they spell is read, a fault lies in the bytes, and a front is truncated.
use Rattle.std.proofs.Common.{◌≡◌, ℕ, zero, suc, ◌^◌, ◌<◌, ◌≤◌, Bool, true, cond, eqb, List, [], ◌∷◌, ◌++◌, length, Ok, Err, refl, sym, ap}
use Rattle.std.proofs.Common.{subst, ◌∙◌, append_assoc, arith, inl, inr}
use Rattle.std.specs.List.{All, flat_map}
use Rattle.std.proofs.lemmas.List.{append-nil}
use Rattle.std.proofs.lemmas.List.Concat.{flat_map-cons}
use Rattle.gw_fields.specs.declared.error.Bad.{Bad}
use Rattle.gw_fields.specs.Fields.{Field, count_spelling, count_read, Element, plain, last_tested, elements_read, ElementsFit, elements, list_of, list_read}
use Rattle.gw_field_bytes.proofs.Exact.{IsBytes, Takes, Takes-then, Takes-shorter, bind_ok, bind_err, ok_is, not_both, CutsFronts, no_front, cuts_both}
use Rattle.gw_field_bytes.proofs.Exact.{IsExact, tested_exact, count_takes, count_again, count_within, count_cut}

pub record IsExactElement {A : Type 0} (e : Element A) : Type 0 where
  pub takes : (front : List A) (left : ℕ) (bytes : List ℕ) (x : A × List ℕ) → IsBytes bytes → e.read front left bytes ≡ Ok x
      → Takes bytes (e.spell x.0) x.1 × e.Fits front left x.0
  pub again : (front : List A) (left : ℕ) (x : A) (rest : List ℕ) → e.Fits front left x → e.read front left (e.spell x ++ rest) ≡ Ok (x, rest)
  pub within : (front : List A) (left : ℕ) (bytes : List ℕ) (d : Bad) → IsBytes bytes → e.read front left bytes ≡ Err d → d.left ≤ length bytes
  pub cut : (front : List A) (left : ℕ) (x : A) → e.Fits front left x → CutsFronts (e.read front left) (e.spell x)

pub plain_exact : {A : Type 0} (f : Field A) → IsExact f → IsExactElement (plain f)
plain_exact f exact = record {
  takes = λ front left. exact.takes;
  again = λ front left. exact.again;
  within = λ front left. exact.within;
  cut = λ front left. exact.cut;
}

pub last_tested_exact : {A : Type 0} (test : A → Bool) (code : ℕ) (f : Field A) → IsExact f → IsExactElement (last_tested test code f)
last_tested_exact {A} test code f exact =
    let at = λ (left : ℕ). tested_exact (λ (x : A). cond (eqb left 0) (test x) true) code f exact in
    record {
      takes = λ front left. (at left).takes;
      again = λ front left. (at left).again;
      within = λ front left. (at left).within;
      cut =
          λ front left. (at left).cut;
    }

-- what stands behind the elements at the front
pub record Adds {A : Type 0} (e : Element A) (front : List A) (n : ℕ) (bytes : List ℕ) (x : List A × List ℕ) : Type 0 where
  pub added : List A
  pub all : x.0 ≡ front ++ added
  pub len : length added ≡ n
  pub taken : Takes bytes (flat_map e.spell added) x.1
  pub fit : ElementsFit e.Fits front added

elements_take : {A : Type 0} (e : Element A) → IsExactElement e → (n : ℕ) (front : List A) (bytes : List ℕ) (x : List A × List ℕ)
    → IsBytes bytes → elements_read e.read n front bytes ≡ Ok x → Adds e front n bytes x
unfolding elements_read
elements_take {A} e exact zero front bytes x fits h =
    subst (λ (z : List A × List ℕ). Adds e front 0 bytes z) (ok_is (front, bytes) x h)
    (record { added = []; all = sym (append-nil front); len = refl; taken = record { parts = refl; rest_fits = fits }; fit = tt })
elements_take {A} e exact (suc left) front bytes x fits h =
    let a = bind_ok (e.read front left bytes) (λ y. elements_read e.read left (front ++ y.0 ∷ []) y.1) x h in
    let first = exact.takes front left bytes a.0 fits a.1 in
    let others = elements_take e exact left (front ++ a.0.0 ∷ []) a.0.1 x first.0.rest_fits a.2 in
    record {
      added = a.0.0 ∷ others.added;
      all = others.all ∙ append_assoc front (a.0.0 ∷ []) others.added;
      len = ap suc others.len;
      taken = rw (flat_map-cons e.spell a.0.0 others.added) (Takes-then bytes (e.spell a.0.0) a.0.1 (flat_map e.spell others.added) x.1 first.0 others.taken);
      fit = (rw others.len first.1, others.fit);
    }

elements_again : {A : Type 0} (e : Element A) → IsExactElement e → (xs front : List A) (rest : List ℕ) → ElementsFit e.Fits front xs
    → elements_read e.read (length xs) front (flat_map e.spell xs ++ rest) ≡ Ok (front ++ xs, rest)
unfolding elements_read
elements_again e exact [] front rest fits = ap (λ xs. Ok (xs, rest)) (sym (append-nil front))
elements_again e exact (x ∷ xs) front rest fits =
    let regrouped : flat_map e.spell (x ∷ xs) ++ rest ≡ e.spell x ++ (flat_map e.spell xs ++ rest) =
    ap (λ (t : List ℕ). t ++ rest) (flat_map-cons e.spell x xs) ∙ append_assoc (e.spell x) (flat_map e.spell xs) rest in
    ap (elements_read e.read (suc (length xs)) front) regrouped
    ∙ rw (exact.again front (length xs) x (flat_map e.spell xs ++ rest) fits.0, elements_again e exact xs (front ++ x ∷ []) rest fits.1)
    (ap (λ ys. Ok (ys, rest)) (append_assoc front (x ∷ []) xs))

elements_within : {A : Type 0} (e : Element A) → IsExactElement e → (n : ℕ) (front : List A) (bytes : List ℕ) (d : Bad) → IsBytes bytes
    → elements_read e.read n front bytes ≡ Err d → d.left ≤ length bytes
unfolding elements_read
elements_within e exact zero front bytes d fits h = not_both (front, bytes) d h
elements_within e exact (suc left) front bytes d fits h =
    elim (bind_err (e.read front left bytes) (λ y. elements_read e.read left (front ++ y.0 ∷ []) y.1) d h) [
      | inl first ↦ exact.within front left bytes d fits first
      | inr a ↦
          let first = exact.takes front left bytes a.0 fits a.1 in
          omega (arith, Takes-shorter bytes (e.spell a.0.0) a.0.1 first.0, elements_within e exact left (front ++ a.0.0 ∷ []) a.0.1 d first.0.rest_fits a.2)
    ]

elements_cut : {A : Type 0} (e : Element A) → IsExactElement e → (xs before : List A) → ElementsFit e.Fits before xs
    → CutsFronts (elements_read e.read (length xs) before) (flat_map e.spell xs)
unfolding elements_read
elements_cut e exact [] before fits front begins = no_front front begins
elements_cut e exact (x ∷ xs) before fits front begins =
    let left = length xs in
    cuts_both (e.read before left) (λ y. elements_read e.read left (before ++ y.0 ∷ []) y.1) x (e.spell x) (flat_map e.spell xs)
    (λ rest. exact.again before left x rest fits.0) (exact.cut before left x fits.0)
    (elements_cut e exact xs (before ++ x ∷ []) fits.1) front (rw (flat_map-cons e.spell x xs) at begins)

pub elements_exact : {A : Type 0} (e : Element A) (n : ℕ) → IsExactElement e → IsExact (elements e n)
elements_exact {A} e n exact = record {
  takes = λ bytes x fits h.
      let a = elements_take e exact n [] bytes x fits h in
      rw a.all (a.taken, (a.len, a.fit));
  again = λ xs rest fits. rw (← fits.0) (elements_again e exact xs [] rest fits.1);
  within = elements_within e exact n [];
  cut = λ xs fits. rw (← fits.0) (elements_cut e exact xs [] fits.1);
}

pub listed_exact : {A : Type 0} (least most : ℕ) (e : Element A) → most < 256 ^ 4 → IsExactElement e → IsExact (list_of least most e)
listed_exact {A} least most e wide exact = record {
  takes = λ bytes x fits h.
      let n = bind_ok (count_read least most bytes) (λ n. elements_read e.read n.0 [] n.1) x h in
      let p = count_takes least most bytes n.0 fits n.1 in
      let a = elements_take e exact n.0.0 [] n.0.1 x p.0.rest_fits n.2 in
      let spelled : Takes bytes (count_spelling (length a.added) ++ flat_map e.spell a.added) x.1 =
      rw a.len (Takes-then bytes (count_spelling n.0.0) n.0.1 (flat_map e.spell a.added) x.1 p.0 a.taken) in
      rw a.all (spelled, (omega (arith, a.len, p.1.0), omega (arith, a.len, p.1.1), a.fit));
  again = λ xs rest fits.
      ap (list_read e.read least most) (append_assoc (count_spelling (length xs)) (flat_map e.spell xs) rest)
      ∙ rw (count_again least most wide (length xs) (flat_map e.spell xs ++ rest) (fits.0, fits.1)) (elements_again e exact xs [] rest fits.2);
  within = λ bytes d fits h.
      elim (bind_err (count_read least most bytes) (λ n. elements_read e.read n.0 [] n.1) d h) [
        | inl first ↦ count_within least most bytes d fits first
        | inr n ↦
            let p = count_takes least most bytes n.0 fits n.1 in
            omega (arith, Takes-shorter bytes (count_spelling n.0.0) n.0.1 p.0, elements_within e exact n.0.0 [] n.0.1 d p.0.rest_fits n.2)
      ];
  cut = λ xs fits.
      let n = length xs in
      cuts_both (count_read least most) (λ n. elements_read e.read n.0 [] n.1) n (count_spelling n) (flat_map e.spell xs)
      (λ rest. count_again least most wide n rest (fits.0, fits.1)) (count_cut least most n) (elements_cut e exact xs [] fits.2);
}

-- what fits a list, told of each of its elements
pub All-from_fit : {A : Type 0} (Fits : List A → ℕ → A → Type 0) (P : A → Type 0)
    → ((front : List A) (left : ℕ) (x : A) → Fits front left x → P x) → (xs front : List A) → ElementsFit Fits front xs → All P xs
All-from_fit Fits P tells [] front h k d lt = absurd (omega arith)
All-from_fit Fits P tells (x ∷ xs) front h zero d lt = tells front (length xs) x h.0
All-from_fit Fits P tells (x ∷ xs) front h (suc k) d lt = All-from_fit Fits P tells xs (front ++ x ∷ []) h.1 k d (omega arith)

-- elements that look at no others fit their list
pub fit-from_All : {A : Type 0} (P : A → Type 0) (xs front : List A) → All P xs → ElementsFit (λ _ _. P) front xs
fit-from_All P [] front h = tt
fit-from_All P (x ∷ xs) front h = (h 0 x (omega arith), fit-from_All P xs (front ++ x ∷ []) (λ k d lt. h (suc k) d (omega arith)))
