-- A join that changes a row makes it smaller.
use Rattle.std.proofs.Common.{◌≡◌, ◌≢◌, ⊎_elim, ℕ, zero, suc, ◌+◌, ◌<◌, ◌≤◌, List, [], ◌∷◌, ◌++◌, Option, Some, None, Bool, true, false, ◌==◌}
use Rattle.std.proofs.Common.{if◌then◌else◌, min, nat_le, refl, ap, subst, ◌∙◌, arith}
use Rattle.std.specs.List.{list_all}
use Rattle.std.proofs.lemmas.Bool.{cases_eq, eq-eqb, ne_eqb, and_cases, or_right, or_left, leb-false, true≢false}
use Rattle.gw_rules.specs.Entries.{lists}
use Rattle.gw_rules.specs.Rows.{Row, ParamKind, Num, Ret, kind_of, units_of, nonzero, kind_fits, params_fit, units_fit}
use Rattle.gw_settle.specs.Joins.{one, keep, union_of, joined_kind, join_rows, is_within}
use Rattle.gw_settle.proofs.Joining.{in_left, in_right, kind_joined, units_joined}

-- how many numbers below n are not in a list
abbrev pub missing : ℕ → List ℕ → ℕ
missing zero bs = 0
missing (suc n) bs = (if lists bs n then 0 else 1) + missing n bs

abbrev pub kind_size : ℕ → Option ParamKind → ℕ
kind_size n None = 0
kind_size n (Some Num) = 1
kind_size n (Some (Ret bs)) = 1 + missing n bs

abbrev pub keys_sum : {X : Type 0} → (ℕ → ℕ) → List (ℕ × X) → ℕ
keys_sum f [] = 0
keys_sum f (e ∷ es) = f e.0 + keys_sum f es

-- what a row may still lose: its parameters, the blocks that its returns don't have yet, and its units
abbrev pub row_size : ℕ → Row → ℕ
row_size n row = keys_sum (λ p. kind_size n (kind_of row p)) row.params + keys_sum (λ e. units_of row e) row.units

one_le : (x y : Bool) → (x ≡ true → y ≡ true) → (if y then 0 else 1) ≤ (if x then 0 else 1)
one_le true y h = rw (h refl) (omega arith)
one_le false true h = omega arith
one_le false false h = omega arith

missing_le : (n : ℕ) (bs ds : List ℕ) → ((b : ℕ) → lists bs b ≡ true → lists ds b ≡ true) → missing n ds ≤ missing n bs
missing_le zero bs ds h = omega arith
missing_le (suc n) bs ds h = omega (arith, missing_le n bs ds h, one_le (lists bs n) (lists ds n) (h n))

missing_lt : (n c : ℕ) (bs ds : List ℕ) → ((b : ℕ) → lists bs b ≡ true → lists ds b ≡ true) → c < n → lists bs c ≡ false → lists ds c
    ≡ true → missing n ds < missing n bs
missing_lt zero c bs ds h lt e g = absurd (omega arith)
missing_lt (suc n) c bs ds h lt e g =
    ⊎_elim
    (λ (q : c ≡ n).
    let x : ◌≡◌ {A = ℕ} (if lists bs n then 0 else 1) 1 = rw (subst (λ k. lists bs k ≡ false) q e) refl in
    let y : ◌≡◌ {A = ℕ} (if lists ds n then 0 else 1) 0 = rw (subst (λ k. lists ds k ≡ true) q g) refl in
    omega (arith, missing_le n bs ds h, x, y))
    (λ (ne : c ≢ n). omega (arith, missing_lt n c bs ds h (omega arith) e g, one_le (lists bs n) (lists ds n) (h n)))
    (cases_eq c n)

-- one of a list that isn't in another
not_among : (bs cs : List ℕ) → list_all (λ b. lists cs b) bs ≡ false → (c : ℕ) × (lists bs c ≡ true) × (lists cs c ≡ false)
not_among [] cs h = absurd (true≢false h)
not_among (b ∷ bs) cs h =
    ⊎_elim
    (λ (q : lists cs b ≡ false). (b, or_left (b == b) (lists bs b) (eq-eqb b b refl), q))
    (λ (q : list_all (λ b. lists cs b) bs ≡ false). let p = not_among bs cs q in (p.0, or_right (b == p.0) (lists bs p.0) p.1, p.2))
    (and_cases (lists cs b) (list_all (λ b. lists cs b) bs) h)

-- each block of a return is below n
abbrev pub BlocksBelow : ℕ → Option ParamKind → Type 0
BlocksBelow n None = Unit {0}
BlocksBelow n (Some Num) = Unit {0}
BlocksBelow n (Some (Ret bs)) = (b : ℕ) → lists bs b ≡ true → b < n

kind_le : (n : ℕ) (j k : Option ParamKind) → kind_size n (joined_kind j k) ≤ kind_size n j
kind_le n None k = omega arith
kind_le n (Some Num) None = omega arith
kind_le n (Some Num) (Some Num) = omega arith
kind_le n (Some Num) (Some (Ret cs)) = omega arith
kind_le n (Some (Ret bs)) None = omega arith
kind_le n (Some (Ret bs)) (Some Num) = omega arith
kind_le n (Some (Ret bs)) (Some (Ret cs)) = omega (arith, missing_le n bs (union_of bs cs) (in_left bs cs))

kind_lt : (n : ℕ) (j k : Option ParamKind) → BlocksBelow n k → kind_fits k j ≡ false → kind_size n (joined_kind j k) < kind_size n j
kind_lt n None k h e = absurd (true≢false e)
kind_lt n (Some Num) None h e = omega arith
kind_lt n (Some Num) (Some Num) h e = absurd (true≢false e)
kind_lt n (Some Num) (Some (Ret cs)) h e = omega arith
kind_lt n (Some (Ret bs)) None h e = omega arith
kind_lt n (Some (Ret bs)) (Some Num) h e = omega arith
kind_lt n (Some (Ret bs)) (Some (Ret cs)) h e =
    let p = not_among cs bs e in
    omega (arith, missing_lt n p.0 bs (union_of bs cs) (in_left bs cs) (h p.0 p.1) p.2 (in_right bs cs p.0 p.1))

kept_sum : {X : Type 0} (h : ℕ → ℕ) (p : ℕ) (value : Option X) (es : List (ℕ × X)) → (value ≡ None → h p ≡ 0)
    → keys_sum h (one p value ++ es) ≡ h p + keys_sum h es
kept_sum h p None es z = omega (arith, z refl)
kept_sum h p (Some v) es z = refl

keep_sum : {X : Type 0} (h : ℕ → ℕ) (f : ℕ → Option X) (es : List (ℕ × X)) → ((p : ℕ) → f p ≡ None → h p ≡ 0) → keys_sum h (keep f es) ≡ keys_sum h es
keep_sum h f [] z = refl
keep_sum h f (e ∷ es) z = kept_sum h e.0 (f e.0) (keep f es) (z e.0) ∙ ap (λ k. h e.0 + k) (keep_sum h f es z)

sum_le : {X : Type 0} (h g : ℕ → ℕ) (es : List (ℕ × X)) → ((p : ℕ) → h p ≤ g p) → keys_sum h es ≤ keys_sum g es
sum_le h g [] le = omega arith
sum_le h g (e ∷ es) le = omega (arith, le e.0, sum_le h g es le)

sum_lt : {X : Type 0} (h g : ℕ → ℕ) (t : ℕ → Bool) (es : List (ℕ × X)) → ((p : ℕ) → h p ≤ g p) → ((p : ℕ) → t p ≡ false → h p < g p)
    → list_all (λ e. t e.0) es ≡ false → keys_sum h es < keys_sum g es
sum_lt h g t [] le lt is = absurd (true≢false is)
sum_lt h g t (e ∷ es) le lt is =
    ⊎_elim
    (λ (q : t e.0 ≡ false). omega (arith, lt e.0 q, sum_le h g es le))
    (λ (q : list_all (λ e. t e.0) es ≡ false). omega (arith, le e.0, sum_lt h g t es le lt q))
    (and_cases (t e.0) (list_all (λ e. t e.0) es) is)

none_size : (n : ℕ) (k : Option ParamKind) → k ≡ None → kind_size n k ≡ 0
none_size n k e = rw e refl

none_zero : (m : ℕ) → nonzero m ≡ None → m ≡ 0
none_zero m e =
    ⊎_elim
    (λ (q : m ≡ 0). q)
    (λ (ne : m ≢ 0). let some : Some m ≡ None = rw (ne_eqb m 0 ne) at e in absurd (cc))
    (cases_eq m 0)

same_sum : {X : Type 0} (h g : ℕ → ℕ) (es : List (ℕ × X)) → ((p : ℕ) → h p ≡ g p) → keys_sum h es ≡ keys_sum g es
same_sum h g [] same = refl
same_sum h g (e ∷ es) same = omega (arith, same e.0, same_sum h g es same)

params_sum : (n : ℕ) (row state : Row) → keys_sum (λ p. kind_size n (kind_of (join_rows row state) p)) (join_rows row state).params
    ≡ keys_sum (λ p. kind_size n (joined_kind (kind_of row p) (kind_of state p))) row.params
params_sum n row state =
    same_sum (λ p. kind_size n (kind_of (join_rows row state) p)) (λ p. kind_size n (joined_kind (kind_of row p) (kind_of state p)))
    (join_rows row state).params (λ p. ap (kind_size n) (kind_joined row state p))
    ∙ keep_sum (λ p. kind_size n (joined_kind (kind_of row p) (kind_of state p))) (λ p. joined_kind (kind_of row p) (kind_of state p))
    row.params (λ p. none_size n (joined_kind (kind_of row p) (kind_of state p)))

units_sum : (row state : Row) → keys_sum (λ e. units_of (join_rows row state) e) (join_rows row state).units
    ≡ keys_sum (λ e. min (units_of row e) (units_of state e)) row.units
units_sum row state =
    same_sum (λ e. units_of (join_rows row state) e) (λ e. min (units_of row e) (units_of state e)) (join_rows row state).units (units_joined row state)
    ∙ keep_sum (λ e. min (units_of row e) (units_of state e)) (λ e. nonzero (min (units_of row e) (units_of state e))) row.units
    (λ e. none_zero (min (units_of row e) (units_of state e)))

-- a row that knows more than a state becomes smaller
pub join_smaller : (n : ℕ) (row state : Row) → ((p : ℕ) → BlocksBelow n (kind_of state p)) → is_within state row ≡ false
    → row_size n (join_rows row state) < row_size n row
join_smaller n row state below h =
    let ple = sum_le (λ p. kind_size n (joined_kind (kind_of row p) (kind_of state p))) (λ p. kind_size n (kind_of row p)) row.params
    (λ p. kind_le n (kind_of row p) (kind_of state p)) in
    let ule = sum_le (λ e. min (units_of row e) (units_of state e)) (λ e. units_of row e) row.units (λ e. omega arith) in
    ⊎_elim
    (λ (q : params_fit state.params row.params ≡ false).
    omega (
      arith,
      params_sum n row state,
      units_sum row state,
      ule,
      sum_lt (λ p. kind_size n (joined_kind (kind_of row p) (kind_of state p))) (λ p. kind_size n (kind_of row p))
          (λ p. kind_fits (kind_of state p) (kind_of row p)) row.params (λ p. kind_le n (kind_of row p) (kind_of state p))
          (λ p. kind_lt n (kind_of row p) (kind_of state p) (below p)) q,
    ))
    (λ (q : units_fit state.units row.units ≡ false).
    omega (
      arith,
      params_sum n row state,
      units_sum row state,
      ple,
      sum_lt (λ e. min (units_of row e) (units_of state e)) (λ e. units_of row e) (λ e. nat_le (units_of row e) (units_of state e))
          row.units (λ e. omega arith) (λ e z. omega (arith, leb-false (units_of row e) (units_of state e) z)) q,
    ))
    (and_cases (params_fit state.params row.params) (units_fit state.units row.units) h)
