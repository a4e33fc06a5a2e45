-- Rows that say the same are the same, since their lists ascend.
use Rattle.std.proofs.Common.{◌≡◌, ◌≢◌, ⊎_elim, ℕ, ◌<◌, List, [], ◌∷◌, map, get_or, Option, Some, None, Bool, true, false, ◌||◌, if◌then◌else◌, refl}
use Rattle.std.proofs.Common.{sym, ap, ap₂, subst, ◌∙◌, arith}
use Rattle.std.specs.Prelude.{All, AllPairs, IsTrue}
use Rattle.std.specs.List.{list_all}
use Rattle.std.proofs.lemmas.Bool.{cases_eq, cases_order, eq-eqb, ne_eqb, false≢true}
use Rattle.std.proofs.lemmas.List.Elements.{All-nil, All-cons, All-head, All-tail, All-weaker, All-map}
use Rattle.gw_rules.specs.Entries.{lists, entry, amount_of}
use Rattle.gw_rules.specs.Rows.{Row, ParamKind, Num, Ret, kind_of, units_of, kind_fits, KindAscends, IsOrdered}
use Rattle.gw_rules.proofs.Fitting.{included}
use Rattle.gw_flow.proofs.Ascending.{AllPairs-head, AllPairs-tail, AllPairs-map}
use Rattle.gw_settle.specs.Joins.{keep, union_of, joined_kind, join_rows, is_within, with_state}
use Rattle.gw_settle.proofs.Joining.{lists-united, units_joined}
use Rattle.gw_settle.proofs.Ordering.{united_ascends, found, join_is_ordered}
use Rattle.gw_settle.proofs.Falling.{within_true}

-- AMOUNTS

abbrev Ascend : List (ℕ × ℕ) → Type 0
Ascend es = AllPairs (λ a b. a.0 < b.0) es

abbrev NoneIs0 : List (ℕ × ℕ) → Type 0
NoneIs0 es = All (λ e. e.1 ≢ 0) es

-- of a number below each there is nothing
none_below : (es : List (ℕ × ℕ)) (n : ℕ) → All (λ e. n < e.0) es → amount_of es n ≡ 0
none_below [] n h = refl
none_below (e ∷ es) n h =
    let lt : n < e.0 = All-head (λ x. n < x.0) e es h in
    rw (ne_eqb e.0 n (λ q. omega (arith, lt, q))) (none_below es n (All-tail (λ x. n < x.0) e es h))

first_amount : (e : ℕ × ℕ) (es : List (ℕ × ℕ)) → amount_of (e ∷ es) e.0 ≡ e.1
first_amount e es = rw (eq-eqb e.0 e.0 refl) refl

later_amount : (e : ℕ × ℕ) (es : List (ℕ × ℕ)) (n : ℕ) → e.0 ≢ n → amount_of (e ∷ es) n ≡ amount_of es n
later_amount e es n ne = rw (ne_eqb e.0 n ne) refl

-- entries whose first comes before all of others don't read the same
not_before : (x : ℕ × ℕ) (xs ys : List (ℕ × ℕ)) → x.1 ≢ 0 → All (λ e. x.0 < e.0) ys → amount_of (x ∷ xs) x.0 ≡ amount_of ys x.0 → ⊥
not_before x xs ys some over same = some (sym (first_amount x xs) ∙ same ∙ none_below ys x.0 over)

all_over : (n : ℕ) (y : ℕ × ℕ) (ys : List (ℕ × ℕ)) → n < y.0 → Ascend (y ∷ ys) → All (λ e. n < e.0) (y ∷ ys)
all_over n y ys lt up = All-cons (λ e. n < e.0) y ys lt
    (All-weaker (λ e. y.0 < e.0) (λ e. n < e.0) (λ e more. omega (arith, lt, more)) ys (AllPairs-head (λ a b. a.0 < b.0) y ys up))

-- amounts that are read the same are the same
pub amounts_same : (xs ys : List (ℕ × ℕ)) → Ascend xs → Ascend ys → NoneIs0 xs → NoneIs0 ys → ((n : ℕ) → amount_of xs n ≡ amount_of ys n) → xs ≡ ys
amounts_same [] [] ux uy nx ny h = refl
amounts_same [] (y ∷ ys) ux uy nx ny h = absurd (All-head (λ e. e.1 ≢ 0) y ys ny (sym (first_amount y ys) ∙ sym (h y.0)))
amounts_same (x ∷ xs) [] ux uy nx ny h = absurd (All-head (λ e. e.1 ≢ 0) x xs nx (sym (first_amount x xs) ∙ h x.0))
amounts_same (x ∷ xs) (y ∷ ys) ux uy nx ny h =
    ⊎_elim
    (λ (q : x.0 ≡ y.0).
    let value : x.1 ≡ y.1 = sym (first_amount x xs) ∙ h x.0 ∙ subst (λ n. amount_of (y ∷ ys) n ≡ y.1) (sym q) (first_amount y ys) in
    let first : x ≡ y = ap₂ (λ (a b : ℕ). (a, b)) q value in
    let rest : (n : ℕ) → amount_of xs n ≡ amount_of ys n = λ n. ⊎_elim
    (λ (e : x.0 ≡ n).
    none_below xs n (subst (λ m. All (λ z. m < z.0) xs) e (AllPairs-head (λ a b. a.0 < b.0) x xs ux))
    ∙ sym (none_below ys n (subst (λ m. All (λ z. m < z.0) ys) (sym q ∙ e) (AllPairs-head (λ a b. a.0 < b.0) y ys uy))))
    (λ (ne : x.0 ≢ n). sym (later_amount x xs n ne) ∙ h n ∙ later_amount y ys n (λ z. ne (q ∙ z)))
    (cases_eq x.0 n) in
    ap₂ (λ a bs. a ∷ bs) first
    (amounts_same xs ys (AllPairs-tail (λ a b. a.0 < b.0) x xs ux) (AllPairs-tail (λ a b. a.0 < b.0) y ys uy)
    (All-tail (λ e. e.1 ≢ 0) x xs nx) (All-tail (λ e. e.1 ≢ 0) y ys ny) rest))
    (⊎_elim
    (λ (lt : x.0 < y.0). absurd (not_before x xs (y ∷ ys) (All-head (λ e. e.1 ≢ 0) x xs nx) (all_over x.0 y ys lt uy) (h x.0)))
    (λ (gt : y.0 < x.0). absurd (not_before y ys (x ∷ xs) (All-head (λ e. e.1 ≢ 0) y ys ny) (all_over y.0 x xs gt ux) (sym (h y.0)))))
    (cases_order x.0 y.0)

fields_same : (ps qs : List (ℕ × ParamKind)) (fs gs : List ℕ) (us vs : List (ℕ × ℕ)) → ps ≡ qs → fs ≡ gs → us ≡ vs →
    ◌≡◌ {A = Row} (record { params = ps; facilities = fs; units = us }) (record { params = qs; facilities = gs; units = vs })
fields_same ps qs fs gs us vs e f g = rw (e, f, g) refl

-- rows with one number of units of each entity, and the rest the same, are the same
pub row_same : (x y : Row) → IsOrdered x → IsOrdered y → x.params ≡ y.params → x.facilities ≡ y.facilities → ((e : ℕ) → units_of x e ≡ units_of y e) → x ≡ y
row_same x y h g ps fs us =
    fields_same x.params y.params x.facilities y.facilities x.units y.units ps fs (amounts_same x.units y.units h.units g.units h.amounts g.amounts us)

-- SETS

abbrev counted : List ℕ → List (ℕ × ℕ)
counted ns = map (λ n. (n, 1)) ns

count_is : (ns : List ℕ) (b : ℕ) → amount_of (counted ns) b ≡ (if lists ns b then 1 else 0)
count_is [] b = refl
count_is (n ∷ ns) b =
    ⊎_elim
    (λ (q : n ≡ b). rw (eq-eqb n b q) refl)
    (λ (ne : n ≢ b). rw (ne_eqb n b ne) (count_is ns b))
    (cases_eq n b)

numbers_back : (ns : List ℕ) → map (λ (e : ℕ × ℕ). e.0) (counted ns) ≡ ns
numbers_back [] = refl
numbers_back (n ∷ ns) = ap (λ ms. n ∷ ms) (numbers_back ns)

-- lists that ascend and have the same numbers are the same
lists_same : (ns ms : List ℕ) → AllPairs (λ a b. a < b) ns → AllPairs (λ a b. a < b) ms → ((b : ℕ) → lists ns b ≡ lists ms b) → ns ≡ ms
lists_same ns ms un um h =
    sym (numbers_back ns)
    ∙ ap (λ es. map (λ (e : ℕ × ℕ). e.0) es)
    (amounts_same (counted ns) (counted ms)
    (AllPairs-map (λ (a b : ℕ × ℕ). a.0 < b.0) (λ n. (n, 1)) ns un)
    (AllPairs-map (λ (a b : ℕ × ℕ). a.0 < b.0) (λ n. (n, 1)) ms um)
    (All-map (λ (e : ℕ × ℕ). e.1 ≢ 0) (λ n. (n, 1)) ns (λ k d within q. omega (arith, q)))
    (All-map (λ (e : ℕ × ℕ). e.1 ≢ 0) (λ n. (n, 1)) ms (λ k d within q. omega (arith, q)))
    (λ b. count_is ns b ∙ ap (λ is. if is then 1 else 0) (h b) ∙ sym (count_is ms b)))
    ∙ numbers_back ms

or_among : (has also : Bool) → (also ≡ true → has ≡ true) → (has || also) ≡ has
or_among true also h = refl
or_among false true h = absurd (false≢true (h refl))
or_among false false h = refl

-- a set with some of its own stays
united_stays : (ns ms : List ℕ) → AllPairs (λ a b. a < b) ns → AllPairs (λ a b. a < b) ms → list_all (λ b. lists ns b) ms ≡ true → union_of ns ms ≡ ns
united_stays ns ms un um within =
    lists_same (union_of ns ms) ns (united_ascends ns ms un um) un
    (λ b. lists-united ns ms b ∙ or_among (lists ns b) (lists ms b) (λ has. included ms ns within b has))

-- JOINS

kind_stays : (k : ParamKind) (l : Option ParamKind) → KindAscends k → ((x : ParamKind) → l ≡ Some x → KindAscends x)
    → IsTrue (kind_fits l (Some k)) → joined_kind (Some k) l ≡ Some k
kind_stays Num None up also h = absurd (false≢true h)
kind_stays Num (Some Num) up also h = refl
kind_stays Num (Some (Ret bs)) up also h = absurd (false≢true h)
kind_stays (Ret cs) None up also h = absurd (false≢true h)
kind_stays (Ret cs) (Some Num) up also h = absurd (false≢true h)
kind_stays (Ret cs) (Some (Ret bs)) up also h = ap (λ ns. Some (Ret ns)) (united_stays cs bs up (also (Ret bs) refl) h)

-- each entry of a list that ascends is the one that is read
own_entries : {X : Type 0} (es : List (ℕ × X)) → AllPairs (λ a b. a.0 < b.0) es → All (λ e. entry es e.0 ≡ Some e.1) es
own_entries [] up = All-nil (λ e. entry [] e.0 ≡ Some e.1)
own_entries (e ∷ es) up =
    All-cons (λ x. entry (e ∷ es) x.0 ≡ Some x.1) e es
    (rw (eq-eqb e.0 e.0 refl) refl)
    (λ k d within. let lt = AllPairs-head (λ a b. a.0 < b.0) e es up k d within in
    rw (ne_eqb e.0 (get_or es k d).0 (λ q. omega (arith, lt, q))) (own_entries es (AllPairs-tail (λ a b. a.0 < b.0) e es up) k d within))

keep_stays : {X : Type 0} (f : ℕ → Option X) (es : List (ℕ × X)) → All (λ e. f e.0 ≡ Some e.1) es → keep f es ≡ es
keep_stays f [] h = refl
keep_stays f (e ∷ es) h = rw (All-head (λ x. f x.0 ≡ Some x.1) e es h) (ap (λ xs. e ∷ xs) (keep_stays f es (All-tail (λ x. f x.0 ≡ Some x.1) e es h)))

-- a row with a state that has what it knows stays
joined_stays : (row state : Row) → IsOrdered row → IsOrdered state → is_within state row ≡ true → join_rows row state ≡ row
joined_stays row state h g is =
    let within = within_true state row is in
    let params = keep_stays (λ p. joined_kind (kind_of row p) (kind_of state p)) row.params
    (λ k d lt.
    let e : ℕ × ParamKind = get_or row.params k d in
    let own : kind_of row e.0 ≡ Some e.1 = own_entries row.params h.params k d lt in
    ap (λ o. joined_kind o (kind_of state e.0)) own
    ∙ kind_stays e.1 (kind_of state e.0) (h.returns k d lt) (λ x there. found KindAscends state.params e.0 x g.returns there)
    (subst (λ o. IsTrue (kind_fits (kind_of state e.0) o)) own (within.params e.0))) in
    row_same (join_rows row state) row (join_is_ordered row state h g) h params refl (λ e. omega (arith, units_joined row state e, within.units e))

with_if : (row state : Row) (stays : Bool) → IsOrdered row → IsOrdered state → is_within state row ≡ stays
    → (if stays then row else join_rows row state) ≡ join_rows row state
with_if row state true h g is = sym (joined_stays row state h g is)
with_if row state false h g is = refl

-- where a state comes to a row they are joined, also where the row stays
pub with_joined : (row state : Row) → IsOrdered row → IsOrdered state → with_state state (Some row) ≡ join_rows row state
with_joined row state h g = with_if row state (is_within state row) h g refl
