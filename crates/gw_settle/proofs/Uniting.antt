-- Two lists that ascend, united in one pass.
use Rattle.std.proofs.Common.{◌≡◌, ◌≢◌, ℕ, ◌<◌, ◌≤◌, ◌+◌, nat_lt, List, [], ◌∷◌, ◌++◌, drop, take, zero, suc, get_or, length, Bool, true, false, cond}
use Rattle.std.proofs.Common.{not, refl, sym, ap, subst, append_assoc, ◌∙◌, arith, add-one, drop-cons}
use Rattle.std.specs.Prelude.{All, AllPairs, filter}
use Rattle.std.proofs.lemmas.Bool.{lt-ltb, le-ltb, ltb-true, ltb-false}
use Rattle.std.proofs.lemmas.List.Elements.{All-nil, All-cons, All-head, All-tail, All-weaker}
use Rattle.std.proofs.lemmas.List.Kept.{AllPairs-filter}
use Rattle.gw_flow.proofs.Ascending.{AllPairs-head, AllPairs-tail, AllPairs-drop}
use Rattle.gw_settle.specs.Joins.{union_of}

-- FILTERS

-- what no element passes keeps none
pub filter-none : {X : Type 0} (p : X → Bool) (xs : List X) → All (λ x. p x ≡ false) xs → filter p xs ≡ []
filter-none p [] h = refl
filter-none p (x ∷ xs) h = rw (All-head (λ x. p x ≡ false) x xs h) (filter-none p xs (All-tail (λ x. p x ≡ false) x xs h))

-- what each element passes keeps all
pub filter-all : {X : Type 0} (p : X → Bool) (xs : List X) → All (λ x. p x ≡ true) xs → filter p xs ≡ xs
filter-all p [] h = refl
filter-all p (x ∷ xs) h = rw (All-head (λ x. p x ≡ true) x xs h) (ap (λ ys. x ∷ ys) (filter-all p xs (All-tail (λ x. p x ≡ true) x xs h)))

abbrev pub Ascend : List ℕ → Type 0
Ascend ns = AllPairs (λ a b. a < b) ns

-- where the first is at least the bound, each is
pub all_above : (bound first : ℕ) (later : List ℕ) → Ascend (first ∷ later) → bound ≤ first → All (λ n. bound ≤ n) (first ∷ later)
all_above bound first later up le =
    All-cons (λ n. bound ≤ n) first later le
    (All-weaker (λ n. first < n) (λ n. bound ≤ n) (λ n lt. omega (arith, lt, le)) later (AllPairs-head (λ a b. a < b) first later up))

-- ELEMENTS

-- what is left of a list begins with the element at a place
pub drop_at : {X : Type 0} (xs : List X) (i : ℕ) (d : X) → i < length xs → drop i xs ≡ get_or xs i d ∷ drop (i + 1) xs
drop_at xs i d lt = rw add-one (drop-cons xs i d lt)

-- BELOW A BOUND

-- one more that is below it
pub under_more : (bound i : ℕ) (ns : List ℕ) (d : ℕ) → i < length ns → get_or ns i d < bound → All (λ n. n < bound) (take i ns)
    → All (λ n. n < bound) (take (suc i) ns)
under_more bound i [] d within lt h = absurd (omega (arith, within))
under_more bound zero (n ∷ ns) d within lt h = All-cons (λ n. n < bound) n [] lt (All-nil (λ n. n < bound))
under_more bound (suc i) (n ∷ ns) d within lt h =
    All-cons (λ n. n < bound) n (take (suc i) ns) (All-head (λ n. n < bound) n (take i ns) h)
    (under_more bound i ns d (omega (arith, within)) lt (All-tail (λ n. n < bound) n (take i ns) h))

-- where the one at a place is not below it, none from there on is
pub over_from : (bound i : ℕ) (ns : List ℕ) (d : ℕ) → Ascend ns → i < length ns → bound ≤ get_or ns i d → All (λ n. bound ≤ n) (drop i ns)
over_from bound i ns d up within le =
    let at : drop i ns ≡ get_or ns i d ∷ drop (i + 1) ns = drop_at ns i d within in
    subst (All (λ n. bound ≤ n)) (sym at) (all_above bound (get_or ns i d) (drop (i + 1) ns) (subst Ascend at (AllPairs-drop (λ a b. a < b) i ns up)) le)

-- behind the last there is none
pub over_end : (bound : ℕ) (ns : List ℕ) → All (λ n. bound ≤ n) (drop (length ns) ns)
over_end bound [] = All-nil (λ n. bound ≤ n)
over_end bound (n ∷ ns) = over_end bound ns

none_below : (bound : ℕ) (rest : List ℕ) → All (λ n. bound ≤ n) rest → filter (λ n. nat_lt n bound) rest ≡ []
none_below bound rest h = filter-none (λ n. nat_lt n bound) rest (All-weaker (λ n. bound ≤ n) (λ n. nat_lt n bound ≡ false) (λ n le. le-ltb n bound le) rest h)

all_left : (bound : ℕ) (rest : List ℕ) → All (λ n. bound ≤ n) rest → filter (λ n. not (nat_lt n bound)) rest ≡ rest
all_left bound rest h = filter-all (λ n. not (nat_lt n bound)) rest
    (All-weaker (λ n. bound ≤ n) (λ n. not (nat_lt n bound) ≡ true) (λ n le. ap not (le-ltb n bound le)) rest h)

-- where the numbers before a place are below a bound, and the others aren't, these are those below it, and the others
pub record IsSplit (bound i : ℕ) (ns : List ℕ) : Type 0 where
  pub below : take i ns ≡ filter (λ n. nat_lt n bound) ns
  pub others : drop i ns ≡ filter (λ n. not (nat_lt n bound)) ns

pub split_at : (bound i : ℕ) (ns : List ℕ) → All (λ n. n < bound) (take i ns) → All (λ n. bound ≤ n) (drop i ns) → IsSplit bound i ns
split_at bound zero ns under over = record { below = sym (none_below bound ns over); others = sym (all_left bound ns over) }
split_at bound (suc i) [] under over = record { below = refl; others = refl }
split_at bound (suc i) (n ∷ ns) under over =
    let lt : nat_lt n bound ≡ true = lt-ltb n bound (All-head (λ n. n < bound) n (take i ns) under) in
    let later = split_at bound i ns (All-tail (λ n. n < bound) n (take i ns) under) over in
    record { below = rw lt (ap (λ xs. n ∷ xs) later.below); others = rw lt later.others }

-- THE BOUND ITSELF

same_above : (bound : ℕ) (ns : List ℕ) → All (λ n. bound < n) ns → filter (λ n. nat_lt bound n) ns ≡ ns
same_above bound ns h = filter-all (λ n. nat_lt bound n) ns (All-weaker (λ n. bound < n) (λ n. nat_lt bound n ≡ true) (λ n lt. lt-ltb bound n lt) ns h)

pub above_first : (bound first : ℕ) (later : List ℕ) → first ≡ bound → Ascend (first ∷ later) → later ≡ filter (λ n. nat_lt bound n) (first ∷ later)
above_first bound first later e up =
    let over : All (λ n. bound < n) later = subst (λ b. All (λ n. b < n) later) e (AllPairs-head (λ a b. a < b) first later up) in
    rw (le-ltb bound first (omega (arith, e))) (sym (same_above bound later over))

pub above_all : (bound first : ℕ) (later : List ℕ) → first ≢ bound → bound ≤ first → Ascend (first ∷ later) → first ∷ later
    ≡ filter (λ n. nat_lt bound n) (first ∷ later)
above_all bound first later ne le up =
    let lt : bound < first = omega (arith, le, ne) in
    sym (same_above bound (first ∷ later)
    (All-cons (λ n. bound < n) first later lt
    (All-weaker (λ n. first < n) (λ n. bound < n) (λ n more. omega (arith, more, lt)) later (AllPairs-head (λ a b. a < b) first later up))))

-- WHAT IS LEFT

pub left_ascends : (bound : ℕ) (ns : List ℕ) → Ascend ns → Ascend (filter (λ n. not (nat_lt n bound)) ns)
left_ascends bound ns up = AllPairs-filter (λ a b. a < b) (λ n. not (nat_lt n bound)) ns up

above_if : (b : Bool) (m n : ℕ) (ns : List ℕ) → nat_lt n m ≡ b → filter (λ x. nat_lt m x) ns
    ≡ filter (λ x. nat_lt m x) (filter (λ x. not (nat_lt x m)) ns) → filter (λ x. nat_lt m x) (n ∷ ns)
    ≡ filter (λ x. nat_lt m x) (cond (not b) (n ∷ filter (λ x. not (nat_lt x m)) ns) (filter (λ x. not (nat_lt x m)) ns))
above_if true m n ns is h = rw (le-ltb m n (let lt = ltb n m is in omega (arith, lt))) h
  where
    ltb : (x y : ℕ) → nat_lt x y ≡ true → x < y
    ltb x y e = ltb-true x y e
above_if false m n ns is h = ap (λ ys. cond (nat_lt m n) (n ∷ ys) ys) h

-- those above are among those that are left
pub above_of_left : (m : ℕ) (ns : List ℕ) → filter (λ n. nat_lt m n) (filter (λ n. not (nat_lt n m)) ns) ≡ filter (λ n. nat_lt m n) ns
above_of_left m [] = refl
above_of_left m (n ∷ ns) = sym (above_if (nat_lt n m) m n ns refl (sym (above_of_left m ns)))

-- each that is left is at least the bound
pub left_above : (bound : ℕ) (ns : List ℕ) → All (λ n. bound ≤ n) (filter (λ n. not (nat_lt n bound)) ns)
left_above bound [] = All-nil (λ n. bound ≤ n)
left_above bound (n ∷ ns) = by_test (nat_lt n bound) n bound (filter (λ n. not (nat_lt n bound)) ns) refl (left_above bound ns)
  where
    by_test : (b : Bool) (n bound : ℕ) (rest : List ℕ) → nat_lt n bound ≡ b → All (λ n. bound ≤ n) rest → All (λ n. bound ≤ n) (cond (not b) (n ∷ rest) rest)
    by_test true n bound rest is h = h
    by_test false n bound rest is h = All-cons (λ n. bound ≤ n) n rest (ltb-false n bound is) h

-- WHAT IS COMMON

-- what two lists have in common at the front is in front of both
pub common_first : (k : ℕ) (ns ms : List ℕ) → Ascend ns → Ascend ms → take k ns ≡ take k ms → k ≤ length ns → k ≤ length ms → take k ns
    ++ union_of (drop k ns) (drop k ms) ≡ union_of ns ms
common_first zero ns ms up vp e le me = refl
common_first (suc k) [] ms up vp e le me = absurd (omega (arith, le))
common_first (suc k) (n ∷ ns) [] up vp e le me = absurd (omega (arith, me))
common_first (suc k) (n ∷ ns) (m ∷ ms) up vp e le me =
    let same : n ≡ m = ap (λ xs. get_or xs 0 0) e in
    let over : All (λ x. m ≤ x) (n ∷ ns) = all_above m n ns up (omega (arith, same)) in
    let later = common_first k ns ms (AllPairs-tail (λ a b. a < b) n ns up) (AllPairs-tail (λ a b. a < b) m ms vp) (ap (λ xs. drop 1 xs) e)
    (omega (arith, le)) (omega (arith, me)) in
    rw (none_below m (n ∷ ns) over, sym (above_first m n ns same up), same) (ap (λ xs. m ∷ xs) later)

-- THE UNION SO FAR

pub record United (old numbers others all rest : List ℕ) (left : List ℕ) : Type 0 where
  pub same : all ++ union_of rest left ≡ old ++ union_of numbers others
  pub ascends : Ascend rest

pub united_more : (old numbers others all rest : List ℕ) (m : ℕ) (left : List ℕ) → United old numbers others all rest (m ∷ left)
    → United old numbers others ((all ++ filter (λ n. nat_lt n m) rest) ++ m ∷ []) (filter (λ n. nat_lt m n) rest) left
united_more old numbers others all rest m left h = record {
  same = append_assoc (all ++ filter (λ n. nat_lt n m) rest) (m ∷ []) (union_of (filter (λ n. nat_lt m n) rest) left)
      ∙ append_assoc all (filter (λ n. nat_lt n m) rest) (m ∷ union_of (filter (λ n. nat_lt m n) rest) left) ∙ h.same;
  ascends = AllPairs-filter (λ a b. a < b) (λ n. nat_lt m n) rest h.ascends;
}
