-- The lists of a join ascend.
use Rattle.std.proofs.Common.{◌≡◌, ◌≢◌, ⊎_elim, ℕ, ◌<◌, List, [], ◌∷◌, Option, Some, None, refl, subst, All, AllPairs, min, Bool, true, false, cond}
use Rattle.std.proofs.Common.{nat_lt, arith, ◌++◌}
use Rattle.std.specs.Prelude.{filter}
use Rattle.std.proofs.lemmas.List.Elements.{All-nil, All-cons, All-head, All-tail, All-append, All-filter, All-weaker}
use Rattle.std.proofs.lemmas.List.Kept.{AllPairs-cons, AllPairs-filter}
use Rattle.std.proofs.lemmas.Bool.{cases_eq, eq-eqb, ne_eqb, ltb-true}
use Rattle.gw_rules.specs.Entries.{entry}
use Rattle.gw_rules.specs.Rows.{ParamKind, Num, Ret, kind_of, units_of, nonzero, KindAscends}
use Rattle.gw_flow.proofs.Ascending.{AllPairs-head, AllPairs-tail, AllPairs-append}
use Rattle.gw_settle.specs.Joins.{one, keep, union_of, joined_kind, JoinIsOrdered}

-- what holds of each number holds of those that are kept
kept_all : {X : Type 0} (P : ℕ → Type 0) (n : ℕ) (value : Option X) (es : List (ℕ × X)) → P n → All (λ e. P e.0) es → All (λ e. P e.0) (one n value ++ es)
kept_all P n None es p rest = rest
kept_all P n (Some v) es p rest = All-cons (λ e. P e.0) (n, v) es p rest

pub keep_all : {X : Type 0} (P : ℕ → Type 0) (f : ℕ → Option X) (es : List (ℕ × X)) → All (λ e. P e.0) es → All (λ e. P e.0) (keep f es)
keep_all P f [] each = each
keep_all P f (e ∷ es) each = kept_all P e.0 (f e.0) (keep f es) (All-head (λ x. P x.0) e es each) (keep_all P f es (All-tail (λ x. P x.0) e es each))

-- what holds of each value that is given holds of those that are kept
given_one : {X : Type 0} (P : X → Type 0) (n : ℕ) (value : Option X) (es : List (ℕ × X)) → ((v : X) → value ≡ Some v → P v)
    → All (λ e. P e.1) es → All (λ e. P e.1) (one n value ++ es)
given_one P n None es p rest = rest
given_one P n (Some v) es p rest = All-cons (λ e. P e.1) (n, v) es (p v refl) rest

pub given_all : {X : Type 0} (P : X → Type 0) (f : ℕ → Option X) (es : List (ℕ × X)) → ((n : ℕ) (v : X) → f n ≡ Some v → P v) → All (λ e. P e.1) (keep f es)
given_all P f [] each = All-nil (λ e. P e.1)
given_all P f (e ∷ es) each = given_one P e.0 (f e.0) (keep f es) (each e.0) (given_all P f es each)

-- entries that are kept ascend
kept_ascends : {X : Type 0} (n : ℕ) (value : Option X) (es : List (ℕ × X)) → All (λ e. n < e.0) es → AllPairs (λ a b. a.0 < b.0) es
    → AllPairs (λ a b. a.0 < b.0) (one n value ++ es)
kept_ascends n None es over up = up
kept_ascends n (Some v) es over up = AllPairs-cons (λ a b. a.0 < b.0) (n, v) es over up

pub keep_ascends : {X : Type 0} (f : ℕ → Option X) (es : List (ℕ × X)) → AllPairs (λ a b. a.0 < b.0) es → AllPairs (λ a b. a.0 < b.0) (keep f es)
keep_ascends f [] up = up
keep_ascends f (e ∷ es) up =
    kept_ascends e.0 (f e.0) (keep f es)
    (keep_all (λ m. e.0 < m) f es (AllPairs-head (λ a b. a.0 < b.0) e es up))
    (keep_ascends f es (AllPairs-tail (λ a b. a.0 < b.0) e es up))

-- what holds of each value holds of the one that is found
pub found : {X : Type 0} (P : X → Type 0) (es : List (ℕ × X)) (n : ℕ) (v : X) → All (λ e. P e.1) es → entry es n ≡ Some v → P v
found P [] n v each is = absurd (cc)
found P (e ∷ es) n v each is =
    ⊎_elim
    (λ (q : e.0 ≡ n). let same : Some e.1 ≡ Some v = rw (eq-eqb e.0 n q) at is in let s : e.1 ≡ v = cc in subst P s (All-head (λ x. P x.1) e es each))
    (λ (ne : e.0 ≢ n). found P es n v (All-tail (λ x. P x.1) e es each) (rw (ne_eqb e.0 n ne) at is))
    (cases_eq e.0 n)

-- what holds of each number of both lists holds of each of the union
pub united_all : (P : ℕ → Type 0) (ns ms : List ℕ) → All P ns → All P ms → All P (union_of ns ms)
united_all P ns [] h g = h
united_all P ns (m ∷ ms) h g =
    All-append P (filter (λ n. nat_lt n m) ns) (m ∷ union_of (filter (λ n. nat_lt m n) ns) ms)
    (All-filter (λ n. nat_lt n m) P ns h)
    (All-cons P m (union_of (filter (λ n. nat_lt m n) ns) ms) (All-head P m ms g)
    (united_all P (filter (λ n. nat_lt m n) ns) ms (All-filter (λ n. nat_lt m n) P ns h) (All-tail P m ms g)))

-- those that a test keeps pass it
passing_if : (b : Bool) (f : ℕ → Bool) (P : ℕ → Type 0) (n : ℕ) (ns : List ℕ) → (b ≡ true → P n) → All P (filter f ns)
    → All P (cond b (n ∷ filter f ns) (filter f ns))
passing_if true f P n ns h rest = All-cons P n (filter f ns) (h refl) rest
passing_if false f P n ns h rest = rest

passing : (f : ℕ → Bool) (P : ℕ → Type 0) → ((n : ℕ) → f n ≡ true → P n) → (ns : List ℕ) → All P (filter f ns)
passing f P h [] = All-nil P
passing f P h (n ∷ ns) = passing_if (f n) f P n ns (h n) (passing f P h ns)

-- a union ascends
pub united_ascends : (ns ms : List ℕ) → AllPairs (λ a b. a < b) ns → AllPairs (λ a b. a < b) ms → AllPairs (λ a b. a < b) (union_of ns ms)
united_ascends ns [] up also = up
united_ascends ns (m ∷ ms) up also =
    let below = filter (λ n. nat_lt n m) ns in
    let above = filter (λ n. nat_lt m n) ns in
    let over : All (λ n. m < n) (union_of above ms) =
    united_all (λ n. m < n) above ms (passing (λ n. nat_lt m n) (λ n. m < n) (λ n is. ltb-true m n is) ns) (AllPairs-head (λ a b. a < b) m ms also) in
    AllPairs-append (λ a b. a < b) below (m ∷ union_of above ms)
    (AllPairs-filter (λ a b. a < b) (λ n. nat_lt n m) ns up)
    (AllPairs-cons (λ a b. a < b) m (union_of above ms) over
    (united_ascends above ms (AllPairs-filter (λ a b. a < b) (λ n. nat_lt m n) ns up) (AllPairs-tail (λ a b. a < b) m ms also)))
    (All-weaker (λ n. n < m) (λ n. All (λ x. n < x) (m ∷ union_of above ms))
    (λ n lt. All-cons (λ x. n < x) m (union_of above ms) lt (All-weaker (λ x. m < x) (λ x. n < x) (λ x gt. omega (arith, lt, gt)) (union_of above ms) over))
    below (passing (λ n. nat_lt n m) (λ n. n < m) (λ n is. ltb-true n m is) ns))

kind_ascends : (k l : Option ParamKind) (v : ParamKind) → ((x : ParamKind) → k ≡ Some x → KindAscends x)
    → ((x : ParamKind) → l ≡ Some x → KindAscends x) → joined_kind k l ≡ Some v → KindAscends v
kind_ascends None l v up also is = absurd (cc)
kind_ascends (Some Num) None v up also is = absurd (cc)
kind_ascends (Some Num) (Some Num) v up also is = let same : Num ≡ v = cc in subst KindAscends same tt
kind_ascends (Some Num) (Some (Ret cs)) v up also is = absurd (cc)
kind_ascends (Some (Ret bs)) None v up also is = absurd (cc)
kind_ascends (Some (Ret bs)) (Some Num) v up also is = absurd (cc)
kind_ascends (Some (Ret bs)) (Some (Ret cs)) v up also is = let same : Ret (union_of bs cs) ≡ v = cc in
    subst KindAscends same (united_ascends bs cs (up (Ret bs) refl) (also (Ret cs) refl))

pub not_zero : (n v : ℕ) → nonzero n ≡ Some v → v ≢ 0
not_zero n v is =
    ⊎_elim
    (λ (q : n ≡ 0). let none : None ≡ Some v = rw (eq-eqb n 0 q) at is in absurd (cc))
    (λ (ne : n ≢ 0). let same : Some n ≡ Some v = rw (ne_eqb n 0 ne) at is in let s : n ≡ v = cc in subst (λ x. x ≢ 0) s ne)
    (cases_eq n 0)

pub join_is_ordered : JoinIsOrdered
join_is_ordered row state a b = record {
  params = keep_ascends (λ p. joined_kind (kind_of row p) (kind_of state p)) row.params a.params;
  returns = given_all KindAscends (λ p. joined_kind (kind_of row p) (kind_of state p)) row.params
      (λ n v is. kind_ascends (kind_of row n) (kind_of state n) v (λ x there. found KindAscends row.params n x a.returns there)
      (λ x there. found KindAscends state.params n x b.returns there) is);
  facilities = a.facilities;
  units = keep_ascends (λ e. nonzero (min (units_of row e) (units_of state e))) row.units a.units;
  amounts = given_all (λ n. n ≢ 0) (λ e. nonzero (min (units_of row e) (units_of state e))) row.units
      (λ n v is. not_zero (min (units_of row n) (units_of state n)) v is);
}
