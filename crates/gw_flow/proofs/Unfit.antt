-- The least unfit parameter decides what a test of all that are read finds.
use Rattle.std.proofs.Common.{◌≡◌, ⊎_elim, ℕ, ◌+◌, ◌<◌, List, [], ◌∷◌, ◌++◌, length, map, take, get_or, Option, Some, None, Bool, true, false, cond}
use Rattle.std.proofs.Common.{if◌then◌else◌, nat_lt, not, refl, sym, ap, subst, ◌∙◌, arith}
use Rattle.std.specs.Prelude.{All, AllPairs, is_some, filter}
use Rattle.std.specs.List.{find, fold, flat_map}
use Rattle.std.proofs.lemmas.Bool.{cases_order, lt-ltb, le-ltb, le-leb, lt-leb}
use Rattle.std.proofs.lemmas.List.{flat_map_more, take_more}
use Rattle.std.proofs.lemmas.List.Sums.{fold-append}
use Rattle.std.proofs.lemmas.List.Elements.{All-nil, All-cons, All-head, All-tail}
use Rattle.gw_object.specs.declared.fault.Fault.{Fault}
use Rattle.gw_object.specs.declared.blocks.Operand.{Operand}
use Rattle.gw_object.specs.declared.parts.Parts.{Parts}
use Rattle.gw_rules.specs.Checks.{first_broken}
use Rattle.gw_rules.specs.Code.{parameters_asked}
use Rattle.gw_rules.specs.Entries.{with_number, in_order}
use Rattle.gw_rules.specs.Rows.{Row, ParamKind, Num, Ret, kind_of, is_number}
use Rattle.gw_rules.specs.Blocks.{number_rules, parameters_read}
use Rattle.gw_rules.specs.Flow.{rule_check}
use Rattle.gw_flow.specs.Unfit.{is_unfit, lower, lowest}
use Rattle.gw_flow.proofs.Ascending.{AllPairs-head, AllPairs-tail}
use Rattle.gw_flow.proofs.Ordered.{with_number_ascends}

-- IN ORDER

ascends_on : (all ns : List ℕ) → AllPairs (λ a b. a < b) all → AllPairs (λ a b. a < b) (fold (λ ms n. with_number n ms) all ns)
ascends_on all [] up = up
ascends_on all (n ∷ ns) up = ascends_on (with_number n all) ns (with_number_ascends n all up)

-- numbers in order ascend
pub in_order_ascends : (ns : List ℕ) → AllPairs (λ a b. a < b) (in_order ns)
in_order_ascends ns = ascends_on [] ns (λ i j d lt within. absurd (omega arith))

none_below : (n : ℕ) (xs : List ℕ) → All (λ x. n < x) xs → filter (λ m. nat_lt m n) xs ≡ []
none_below n [] h = refl
none_below n (x ∷ xs) h =
    let first : n < x = All-head (λ x. n < x) x xs h in
    rw (le-ltb x n (omega (arith, first))) (none_below n xs (All-tail (λ x. n < x) x xs h))

all_above : (n : ℕ) (xs : List ℕ) → All (λ x. n < x) xs → filter (λ m. nat_lt n m) xs ≡ xs
all_above n [] h = refl
all_above n (x ∷ xs) h = rw (lt-ltb n x (All-head (λ x. n < x) x xs h)) (ap (λ ys. x ∷ ys) (all_above n xs (All-tail (λ x. n < x) x xs h)))

-- a number below all others stands first
stands_first : (n : ℕ) (xs : List ℕ) → All (λ x. n < x) xs → with_number n xs ≡ n ∷ xs
stands_first n xs h = ap (λ ys. ys ++ n ∷ filter (λ m. nat_lt n m) xs) (none_below n xs h) ∙ ap (λ ys. n ∷ ys) (all_above n xs h)

-- THE FIRST OF THEM

module _ (bad : ℕ → Bool) where
  -- the least so far, lowered to this number where it is a bad one
  abbrev pub noted : Bool → ℕ → Option ℕ → Option ℕ
  noted b n least = if b then lower least n else least

  lower_here : (b : Bool) (n x : ℕ) (o : Option ℕ) → n < x → lower o n ≡ Some n → lower (cond b (Some x) o) n ≡ Some n
  lower_here true n x o lt h = rw (lt-leb x n lt) refl
  lower_here false n x o lt h = h

  -- what is found above a number is lowered to it
  lower_above : (n : ℕ) (xs : List ℕ) → All (λ x. n < x) xs → lower (find bad xs) n ≡ Some n
  lower_above n [] h = refl
  lower_above n (x ∷ xs) h = lower_here (bad x) n x (find bad xs) (All-head (λ x. n < x) x xs h) (lower_above n xs (All-tail (λ x. n < x) x xs h))

  first_of : (b : Bool) (n : ℕ) (o : Option ℕ) → lower o n ≡ Some n → cond b (Some n) o ≡ noted b n o
  first_of true n o h = sym h
  first_of false n o h = refl

  same_of : (b : Bool) (n : ℕ) (o : Option ℕ) → cond b (Some n) o ≡ noted b n (cond b (Some n) o)
  same_of true n o = rw (le-leb n n (omega arith)) refl
  same_of false n o = refl

  later_of : (b c : Bool) (n x : ℕ) (o : Option ℕ) → x < n → cond b (Some x) (noted c n o) ≡ noted c n (cond b (Some x) o)
  later_of true true n x o lt = rw (le-leb x n (omega (arith, lt))) refl
  later_of true false n x o lt = refl
  later_of false c n x o lt = refl

  above_all : (n : ℕ) (xs : List ℕ) → All (λ x. n < x) xs → find bad (with_number n xs) ≡ noted (bad n) n (find bad xs)
  above_all n xs h = ap (find bad) (stands_first n xs h) ∙ first_of (bad n) n (find bad xs) (lower_above n xs h)

  -- the first bad one once a number stands in its place is the lesser of it and the first before
  pub find-placed : (n : ℕ) (xs : List ℕ) → AllPairs (λ a b. a < b) xs → find bad (with_number n xs) ≡ noted (bad n) n (find bad xs)
  find-placed n [] up = above_all n [] (All-nil (λ x. n < x))
  find-placed n (x ∷ xs) up =
      let first = AllPairs-head (λ a b. a < b) x xs up in
      ⊎_elim
      (λ (same : x ≡ n).
      subst (λ (m : ℕ). find bad (with_number m (x ∷ xs)) ≡ noted (bad m) m (find bad (x ∷ xs))) same
      (rw (le-ltb x x (omega arith)) (ap (find bad) (stands_first x xs first) ∙ same_of (bad x) x (find bad xs))))
      (⊎_elim
      (λ (below : x < n).
      rw (lt-ltb x n below, le-ltb n x (omega (arith, below)))
      (ap (λ o. cond (bad x) (Some x) o) (find-placed n xs (AllPairs-tail (λ a b. a < b) x xs up)) ∙ later_of (bad x) (bad n) n x (find bad xs) below))
      (λ (above : n < x). above_all n (x ∷ xs) (All-cons (λ x. n < x) x xs above (λ i d within. omega (arith, above, first i d within)))))
      (cases_order x n)

-- WHAT IS READ

module _ (state : Row) where
  -- the least unfit parameter once others are in their places too
  find_with : (ps all : List ℕ) → AllPairs (λ a b. a < b) all → find (is_unfit state) (fold (λ ms n. with_number n ms) all ps)
      ≡ lowest state (find (is_unfit state) all) ps
  find_with [] all up = refl
  find_with (p ∷ ps) all up = find_with ps (with_number p all) (with_number_ascends p all up)
      ∙ ap (λ least. lowest state least ps) (find-placed (is_unfit state) p all up)

  -- the least unfit parameter once one more operand is read
  lowered_by : (p : Parts) (os : List Operand) (o : Operand) → find (is_unfit state) (parameters_read p (os ++ o ∷ []))
      ≡ lowest state (find (is_unfit state) (parameters_read p os)) (parameters_asked p o)
  lowered_by p os o =
      let asked = flat_map (parameters_asked p) os in
      ap (λ ps. find (is_unfit state) (in_order ps)) (sym (flat_map_more (parameters_asked p) [] os o))
      ∙ ap (find (is_unfit state)) (fold-append (λ ms n. with_number n ms) [] asked (parameters_asked p o))
      ∙ find_with (parameters_asked p o) (in_order asked) (in_order_ascends asked)

  -- the least so far is that of the operands so far once it is lowered to what the next one asks for
  pub lowered_so_far : (p : Parts) (os : List Operand) (i : ℕ) (d : Operand) → i < length os → (so_far least : Option ℕ) →
      so_far ≡ find (is_unfit state) (parameters_read p (take i os)) → least ≡ lowest state so_far (parameters_asked p (get_or os i d))
      → least ≡ find (is_unfit state) (parameters_read p (take (i + 1) os))
  lowered_so_far p os i d within so_far least before is =
      is
      ∙ ap (λ so_far. lowest state so_far (parameters_asked p (get_or os i d))) before
      ∙ sym (lowered_by p (take i os) (get_or os i d))
      ∙ ap (λ xs. find (is_unfit state) (parameters_read p xs)) (sym (take_more os i d within))

  module _ (number : ℕ) where
    -- what the rules of a parameter find, if there is one
    abbrev pub told : Option ℕ → Option Fault
    told None = None
    told (Some p) = first_broken (map (rule_check number) (number_rules state p))

    told-cond : (b : Bool) (p : ℕ) (o : Option ℕ) → told (cond b (Some p) o) ≡ cond b (told (Some p)) (told o)
    told-cond true p o = refl
    told-cond false p o = refl

    by_kind : (k : Option ParamKind) (unset other : Fault) (later : Option Fault) →
        (if is_some k then (if is_number k then later else Some other) else Some unset)
        ≡ cond (not (is_number k)) (if is_some k then (if is_number k then None else Some other) else Some unset) later
    by_kind None unset other later = refl
    by_kind (Some Num) unset other later = refl
    by_kind (Some (Ret bs)) unset other later = refl

    -- the first broken rule of parameters is that of the first unfit one
    pub first_unfit_tells : (ps : List ℕ) → first_broken (map (rule_check number) (flat_map (number_rules state) ps)) ≡ told (find (is_unfit state) ps)
    first_unfit_tells [] = refl
    first_unfit_tells (p ∷ ps) =
        by_kind (kind_of state p) _ _ _
        ∙ ap (λ o. cond (is_unfit state p) (told (Some p)) o) (first_unfit_tells ps)
        ∙ sym (told-cond (is_unfit state p) p (find (is_unfit state) ps))
