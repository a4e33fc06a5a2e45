-- Joins are the greatest below both.
use Rattle.std.proofs.Common.{◌≡◌, ◌≢◌, ⊎_elim, ◌⊎◌, ℕ, ◌<◌, List, [], ◌∷◌, ◌++◌, Option, Some, None, Bool, true, false, refl, sym, ap, ◌∙◌, subst}
use Rattle.std.proofs.Common.{arith, ◌==◌, ◌&&◌, ◌||◌, nat_lt, min}
use Rattle.std.specs.Prelude.{IsTrue, unwrap_or, filter}
use Rattle.std.specs.List.{list_all}
use Rattle.std.proofs.lemmas.List.Folds.{list_any-append}
use Rattle.std.proofs.lemmas.Map.Views.{any-filter_same}
use Rattle.std.proofs.lemmas.Bool.{cases_eq, cases_order, eqb-true, eq-eqb, ne_eqb, lt-ltb, le-ltb, or_cases, and_from, or_left, or_right, false≢true}
use Rattle.gw_rules.specs.Entries.{entry, lists}
use Rattle.gw_rules.specs.Rows.{ParamKind, Num, Ret, Row, kind_of, units_of, nonzero, kind_fits}
use Rattle.gw_rules.proofs.Fitting.{included}
use Rattle.gw_settle.specs.Joins.{one, keep, union_of, joined_kind, join_rows, JoinIsBelowBoth, JoinIsGreatest}

-- SETS

or_true : (x : Bool) → (x || true) ≡ true
or_true true = refl
or_true false = refl

or_false : (x : Bool) → (x || false) ≡ x
or_false true = refl
or_false false = refl

-- what is below, at or above a number, in one list or in the other
placed : (m b : ℕ) (has also : Bool) → ((nat_lt b m && has) || ((m == b) || ((nat_lt m b && has) || also))) ≡ (has || ((m == b) || also))
placed m b has also =
    ⊎_elim
    (λ (e : b ≡ m). rw (le-ltb b m (omega arith), le-ltb m b (omega arith), eq-eqb m b (sym e)) (sym (or_true has)))
    (⊎_elim
    (λ (lt : b < m). rw (lt-ltb b m lt, le-ltb m b (omega arith), ne_eqb m b (λ (e : m ≡ b). omega arith)) refl)
    (λ (gt : m < b). rw (le-ltb b m (omega arith), lt-ltb m b gt, ne_eqb m b (λ (e : m ≡ b). omega arith)) refl))
    (cases_order b m)

-- a number is in the union where it is in either list
pub lists-united : (ns ms : List ℕ) (b : ℕ) → lists (union_of ns ms) b ≡ (lists ns b || lists ms b)
lists-united ns [] b = sym (or_false (lists ns b))
lists-united ns (m ∷ ms) b =
    let below = any-filter_same (λ x. x == b) (λ x. nat_lt x m) (nat_lt b m) (λ k (is : (k == b) ≡ true). ap (λ x. nat_lt x m) (eqb-true k b is)) ns in
    let over = any-filter_same (λ x. x == b) (λ x. nat_lt m x) (nat_lt m b) (λ k (is : (k == b) ≡ true). ap (λ x. nat_lt m x) (eqb-true k b is)) ns in
    list_any-append (λ x. x == b) (filter (λ y. nat_lt y m) ns) (m ∷ union_of (filter (λ y. nat_lt m y) ns) ms)
    ∙ ap (λ x. x || ((m == b) || lists (union_of (filter (λ y. nat_lt m y) ns) ms) b)) below
    ∙ ap (λ x. (nat_lt b m && lists ns b) || ((m == b) || x)) (lists-united (filter (λ y. nat_lt m y) ns) ms b)
    ∙ ap (λ x. (nat_lt b m && lists ns b) || ((m == b) || (x || lists ms b))) over
    ∙ placed m b (lists ns b) (lists ms b)

pub in_left : (ns ms : List ℕ) (b : ℕ) → lists ns b ≡ true → lists (union_of ns ms) b ≡ true
in_left ns ms b has = lists-united ns ms b ∙ or_left (lists ns b) (lists ms b) has

pub in_right : (ns ms : List ℕ) (b : ℕ) → lists ms b ≡ true → lists (union_of ns ms) b ≡ true
in_right ns ms b has = lists-united ns ms b ∙ or_right (lists ns b) (lists ms b) has

pub in_either : (ns ms : List ℕ) (b : ℕ) → lists (union_of ns ms) b ≡ true → (lists ns b ≡ true) ⊎ (lists ms b ≡ true)
in_either ns ms b has = or_cases (lists ns b) (lists ms b) (sym (lists-united ns ms b) ∙ has)

pub included_from : (bs cs : List ℕ) → ((b : ℕ) → lists bs b ≡ true → lists cs b ≡ true) → list_all (λ b. lists cs b) bs ≡ true
included_from [] cs h = refl
included_from (x ∷ bs) cs h =
    and_from (lists cs x) (list_all (λ b. lists cs b) bs) (h x (or_left (x == x) (lists bs x) (eq-eqb x x refl)))
    (included_from bs cs (λ b q. h b (or_right (x == b) (lists bs b) q)))

-- WHAT IS KEPT

-- the other, where there is one
abbrev pub only_if : {X : Type 0} → Option X → Option X → Option X
only_if None value = None
only_if (Some x) value = value

kept_here : {X : Type 0} (n : ℕ) (value : Option X) (es : List (ℕ × X)) (o : Option X) → entry es n ≡ only_if o value → entry (one n value ++ es) n ≡ value
kept_here n None es None h = h
kept_here n None es (Some x) h = h
kept_here n (Some v) es o h = rw (eq-eqb n n refl) refl

kept_there : {X : Type 0} (m n : ℕ) (value : Option X) (es : List (ℕ × X)) → m ≢ n → entry (one m value ++ es) n ≡ entry es n
kept_there m n None es ne = refl
kept_there m n (Some v) es ne = rw (ne_eqb m n ne) refl

-- the function's value is read for each number that has an entry, and nothing else
pub entry-keep : {X : Type 0} (f : ℕ → Option X) (es : List (ℕ × X)) (n : ℕ) → entry (keep f es) n ≡ only_if (entry es n) (f n)
entry-keep f [] n = refl
entry-keep f (e ∷ es) n =
    ⊎_elim
    (λ (q : e.0 ≡ n).
    rw (eq-eqb e.0 n q)
    (subst (λ (m : ℕ). entry (one e.0 (f e.0) ++ keep f es) m ≡ f m) q
    (kept_here e.0 (f e.0) (keep f es) (entry es e.0) (entry-keep f es e.0))))
    (λ (ne : e.0 ≢ n). rw (ne_eqb e.0 n ne) (kept_there e.0 n (f e.0) (keep f es) ne ∙ entry-keep f es n))
    (cases_eq e.0 n)

-- WHAT A JOIN KNOWS

only_joined : (k l : Option ParamKind) → only_if k (joined_kind k l) ≡ joined_kind k l
only_joined None None = refl
only_joined None (Some l) = refl
only_joined (Some k) l = refl

pub kind_joined : (row state : Row) (p : ℕ) → kind_of (join_rows row state) p ≡ joined_kind (kind_of row p) (kind_of state p)
kind_joined row state p = entry-keep (λ q. joined_kind (kind_of row q) (kind_of state q)) row.params p ∙ only_joined (kind_of row p) (kind_of state p)

pub nonzero_is : (n : ℕ) → unwrap_or (nonzero n) 0 ≡ n
nonzero_is n =
    ⊎_elim
    (λ (q : n ≡ 0). rw (eq-eqb n 0 q) (sym q))
    (λ (ne : n ≢ 0). rw (ne_eqb n 0 ne) refl)
    (cases_eq n 0)

amount_kept : (o : Option ℕ) (n : ℕ) → unwrap_or (only_if o (nonzero (min (unwrap_or o 0) n))) 0 ≡ min (unwrap_or o 0) n
amount_kept None n = omega arith
amount_kept (Some m) n = nonzero_is (min m n)

pub units_joined : (row state : Row) (e : ℕ) → units_of (join_rows row state) e ≡ min (units_of row e) (units_of state e)
units_joined row state e = ap (λ o. unwrap_or o 0) (entry-keep (λ x. nonzero (min (units_of row x) (units_of state x))) row.units e)
    ∙ amount_kept (entry row.units e) (units_of state e)

-- KINDS

-- what a parameter holds on either way fits what it holds on each
each_fits : (k l : Option ParamKind) → IsTrue (kind_fits k (joined_kind k l)) × IsTrue (kind_fits l (joined_kind k l))
each_fits None l = (refl, refl)
each_fits (Some Num) None = (refl, refl)
each_fits (Some Num) (Some Num) = (refl, refl)
each_fits (Some Num) (Some (Ret cs)) = (refl, refl)
each_fits (Some (Ret bs)) None = (refl, refl)
each_fits (Some (Ret bs)) (Some Num) = (refl, refl)
each_fits (Some (Ret bs)) (Some (Ret cs)) = (
  included_from bs (union_of bs cs) (λ b has. in_left bs cs b has),
  included_from cs (union_of bs cs) (λ b has. in_right bs cs b has),
)

both_fit : (k l o : Option ParamKind) → IsTrue (kind_fits k o) → IsTrue (kind_fits l o) → IsTrue (kind_fits (joined_kind k l) o)
both_fit k l None h g = refl
both_fit (Some Num) (Some Num) (Some Num) h g = refl
both_fit (Some (Ret bs)) (Some (Ret cs)) (Some (Ret ds)) h g =
    included_from (union_of bs cs) ds
    (λ b has. ⊎_elim (λ (x : lists bs b ≡ true). included bs ds h b x) (λ (x : lists cs b ≡ true). included cs ds g b x) (in_either bs cs b has))
both_fit None l (Some o) h g = absurd (false≢true h)
both_fit (Some Num) None (Some o) h g = absurd (false≢true g)
both_fit (Some (Ret bs)) None (Some o) h g = absurd (false≢true g)
both_fit (Some Num) (Some Num) (Some (Ret ds)) h g = absurd (false≢true h)
both_fit (Some Num) (Some (Ret cs)) (Some Num) h g = absurd (false≢true g)
both_fit (Some Num) (Some (Ret cs)) (Some (Ret ds)) h g = absurd (false≢true h)
both_fit (Some (Ret bs)) (Some l) (Some Num) h g = absurd (false≢true h)
both_fit (Some (Ret bs)) (Some Num) (Some (Ret ds)) h g = absurd (false≢true g)

-- THE LAWS

pub join_is_below_both : JoinIsBelowBoth
join_is_below_both row state = (
  record {
    params = λ p. subst (λ k. IsTrue (kind_fits (kind_of row p) k)) (sym (kind_joined row state p)) (each_fits (kind_of row p) (kind_of state p)).0;
    units = λ e. omega (arith, units_joined row state e);
  },
  record {
    params = λ p. subst (λ k. IsTrue (kind_fits (kind_of state p) k)) (sym (kind_joined row state p)) (each_fits (kind_of row p) (kind_of state p)).1;
    units = λ e. omega (arith, units_joined row state e);
  },
)

pub join_is_greatest : JoinIsGreatest
join_is_greatest row state other a b = record {
  params = λ p. subst (λ k. IsTrue (kind_fits k (kind_of other p))) (sym (kind_joined row state p))
      (both_fit (kind_of row p) (kind_of state p) (kind_of other p) (a.params p) (b.params p));
  units = λ e. omega (arith, units_joined row state e, a.units e, b.units e);
}
