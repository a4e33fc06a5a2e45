-- The fields of a row.
use Rattle.std.proofs.Common.{◌≡◌, ◌∙◌, ◌<◌, ◌≤◌, ◌+◌, ◌^◌, ◌==◌, ℕ, zero, suc, List, [], ◌∷◌, ◌++◌, length, get_or, map, drop, take, true, false}
use Rattle.std.proofs.Common.{cond, refl, sym, ap, subst, arith, inl, inr}
use Rattle.std.specs.Prelude.{Option, None, ℤ}
use Rattle.std.specs.List.{AllZip}
use Rattle.std.specs.Fmt.{decimal}
use Rattle.std.proofs.lemmas.Bool.{cases_Bool, eqb-true}
use Rattle.std.proofs.lemmas.Fmt.{decimal_is_IsNumeral_wide}
use Rattle.std.proofs.lemmas.List.{nil_from_length, get_or_append_left, get_or-map, get_or-drop, length-map, drop-drop, drop_at, drop_more, take_more}
use Rattle.gw_figures.specs.Labels.{Label, label_of, labels as labels_of}
use Rattle.gw_figures.specs.Trends.{value_at}
use Rattle.gw_figures.specs.declared.figure.Figure.{Figure}
use Rattle.gw_figures.specs.declared.run.Run.{Run}
use Rattle.gw_rows.specs.Amounts.{amount_field}
use Rattle.gw_rows.specs.Names.{has_trend}
use Rattle.gw_rows.specs.Reading.{HasFigures, IsAmount, MayChange}
use Rattle.gw_rows.specs.Rows.{Source, rows_field, fields, trend_fields}

-- an empty field of how many rows there are tells none
pub no_rows : (field : List ℕ) (n : ℕ) → n < 2 ^ 64 → length field ≡ 0 → field ≡ rows_field n → 0 ≡ n
no_rows field n h empty is = elim (cases_Bool (n == 0)) [
  | inl none ↦ sym (eqb-true n 0 none)
  | inr some ↦
      let text : [] ≡ decimal n = sym (nil_from_length field empty) ∙ is ∙ ap (λ b. cond b [] (decimal n)) some in
      let long = (decimal_is_IsNumeral_wide n (omega arith)).0.0 in
      absurd (omega (arith, long, ap length text))
]

nine : (i : ℕ) → 9 + i ≡ suc (suc (suc (suc (suc (suc (suc (suc (suc i))))))))
nine i = omega arith

-- the field of a value
pub value_field : (labels : List Label) (s : Source) (number : ℕ) (run : Run) (i : ℕ) → i < length run.values.items
    → get_or (fields labels s number run) (9 + i) [] ≡ amount_field (get_or run.values.items i None)
value_field labels s number run i h =
    let values = run.values.items in
    let many : i < length (map amount_field values) = omega (arith, length-map values amount_field) in
    ap (λ k. get_or (fields labels s number run) k []) (nine i)
    ∙ get_or_append_left (map amount_field values) (trend_fields labels 0 run.trend.items) [] i many ∙ get_or-map amount_field values i None [] h

-- the fields behind those of the values
pub behind_values : (labels : List Label) (s : Source) (number : ℕ) (run : Run) → HasFigures labels run
    → drop (9 + length labels) (fields labels s number run) ≡ trend_fields labels 0 run.trend.items
behind_values labels s number run has =
    let values = run.values.items in
    ap (λ k. drop k (fields labels s number run)) (nine (length labels))
    ∙ drop_at (map amount_field values) (trend_fields labels 0 run.trend.items) (length labels) (length-map values amount_field ∙ has.values)

-- what stands at a place
pub value_at_is : (i : ℕ) (trends : List (Option ℤ)) → value_at i trends ≡ get_or trends i None
value_at_is i [] = refl
value_at_is zero (x ∷ xs) = refl
value_at_is (suc i) (x ∷ xs) = value_at_is i xs

first_of : (parts rest : List (List ℕ)) (x : List ℕ) (place : ℕ) → drop place parts ≡ x ∷ rest
    → (get_or parts place [] ≡ x) × (drop (place + 1) parts ≡ rest)
first_of parts rest x place is =
    let here : place + 0 ≡ place = omega arith in (
      ap (λ k. get_or parts k []) (sym here) ∙ sym (get_or-drop place parts 0 []) ∙ ap (λ ls. get_or ls 0 []) is,
      sym (drop-drop 1 place parts) ∙ ap (drop 1) is,
    )

-- one field of a change more, and none
pub change_field : (label : Label) (labels : List Label) (i place : ℕ) (parts : List (List ℕ)) (trends : List (Option ℤ))
    → drop place parts ≡ trend_fields (label ∷ labels) i trends → has_trend label ≡ true
    → (get_or parts place [] ≡ amount_field (value_at i trends)) × (drop (place + 1) parts ≡ trend_fields labels (i + 1) trends)
unfolding trend_fields
change_field label labels i place parts trends is has =
    let field = amount_field (value_at i trends) in
    let text : trend_fields (label ∷ labels) i trends ≡ field ∷ trend_fields labels (i + 1) trends =
    ap (λ b. cond b (field ∷ []) [] ++ trend_fields labels (i + 1) trends) has in
    first_of parts (trend_fields labels (i + 1) trends) field place (is ∙ text)

pub no_change_field : (label : Label) (labels : List Label) (i place : ℕ) (parts : List (List ℕ)) (trends : List (Option ℤ))
    → drop place parts ≡ trend_fields (label ∷ labels) i trends → has_trend label ≡ false → drop place parts ≡ trend_fields labels (i + 1) trends
unfolding trend_fields
no_change_field label labels i place parts trends is none =
    is ∙ ap (λ b. cond b (amount_field (value_at i trends) ∷ []) [] ++ trend_fields labels (i + 1) trends) none

-- figures and their labels
pub label_at : (figures : List Figure) (i : ℕ) (x : Figure) → i < length figures → x ≡ get_or figures i x
    → drop i (labels_of figures) ≡ label_of x ∷ drop (i + 1) (labels_of figures)
label_at figures i x h is =
    let many : i < length (labels_of figures) = omega (arith, length-map figures label_of) in
    drop_more (labels_of figures) i (label_of x) many
    ∙ ap (λ l. l ∷ drop (i + 1) (labels_of figures)) (get_or-map label_of figures i x (label_of x) h ∙ ap label_of (sym is))

pub labels_many : (figures : List Figure) → length (labels_of figures) ≡ length figures
labels_many figures = length-map figures label_of

pub none_yet : (trends : List (Option ℤ)) → trends ≡ [] → AllZip MayChange [] trends
none_yet [] is = tt
none_yet (x ∷ xs) is = absurd cc

pub place_within : (label : Label) (place next front i : ℕ) → place ≤ front + i → next ≡ cond (has_trend label) (place + 1) place → next ≤ front + (i + 1)
place_within label place next front i within is = elim (cases_Bool (has_trend label)) [
  | inl has ↦ omega (arith, is ∙ ap (λ b. cond b (place + 1) place) has)
  | inr none ↦ omega (arith, is ∙ ap (λ b. cond b (place + 1) place) none)
]

-- the fields of changes that are left behind one figure more
pub fields_left : (label : Label) (labels : List Label) (i place next : ℕ) (parts : List (List ℕ)) (trends : List (Option ℤ))
    → drop place parts ≡ trend_fields (label ∷ labels) i trends → next ≡ cond (has_trend label) (place + 1) place
    → drop next parts ≡ trend_fields labels (i + 1) trends
fields_left label labels i place next parts trends is next_is = elim (cases_Bool (has_trend label)) [
  | inl has ↦
      ap (λ k. drop k parts) (next_is ∙ ap (λ b. cond b (place + 1) place) has) ∙ (change_field label labels i place parts trends is has).1
  | inr none ↦
      ap (λ k. drop k parts) (next_is ∙ ap (λ b. cond b (place + 1) place) none) ∙ no_change_field label labels i place parts trends is none
]

-- a change is read of its field, and none of none
pub change_read : (label : Label) (labels : List Label) (i place : ℕ) (parts : List (List ℕ)) (trends : List (Option ℤ)) (told : Option ℤ)
    → drop place parts ≡ trend_fields (label ∷ labels) i trends → IsAmount (get_or trends i None) → MayChange label (get_or trends i None)
    → MayChange label told
    → (has_trend label ≡ true → (value : Option ℤ) → IsAmount value → get_or parts place [] ≡ amount_field value → told ≡ value)
    → told ≡ get_or trends i None
change_read label labels i place parts trends told is amount may told_may reads = elim (cases_Bool (has_trend label)) [
  | inl has ↦ reads has (get_or trends i None) amount ((change_field label labels i place parts trends is has).0 ∙ ap amount_field (value_at_is i trends))
  | inr none ↦ told_may none ∙ sym (may none)
]

-- each change with its figure
pub changes_many : (ls : List Label) (ts : List (Option ℤ)) → AllZip MayChange ls ts → length ls ≡ length ts
changes_many [] [] zip = refl
changes_many [] (t ∷ ts) zip = absurd zip
changes_many (l ∷ ls) [] zip = absurd zip
changes_many (l ∷ ls) (t ∷ ts) (one, rest) = ap suc (changes_many ls ts rest)

change_pushed : (ls : List Label) (ts : List (Option ℤ)) (l : Label) (t : Option ℤ) → AllZip MayChange ls ts → MayChange l t
    → AllZip MayChange (ls ++ l ∷ []) (ts ++ t ∷ [])
change_pushed [] [] l t zip may = (may, tt)
change_pushed [] (x ∷ ts) l t zip may = absurd zip
change_pushed (x ∷ ls) [] l t zip may = absurd zip
change_pushed (x ∷ ls) (y ∷ ts) l t (one, rest) may = (one, change_pushed ls ts l t rest may)

pub change_more : (ls : List Label) (i : ℕ) (l : Label) (ts new : List (Option ℤ)) (t : Option ℤ) → i < length ls → drop i ls ≡ l ∷ drop (i + 1) ls
    → AllZip MayChange (take i ls) ts → MayChange l t → new ≡ ts ++ t ∷ [] → AllZip MayChange (take (i + 1) ls) new
change_more ls i l ts new t h here zip may is =
    let at = (first_here ls i l here) in
    let front : take (i + 1) ls ≡ take i ls ++ l ∷ [] = take_more ls i l h ∙ ap (λ x. take i ls ++ x ∷ []) at in
    subst (λ xs. AllZip MayChange xs new) (sym front)
    (subst (λ ys. AllZip MayChange (take i ls ++ l ∷ []) ys) (sym is) (change_pushed (take i ls) ts l t zip may))
  where
    first_here : (xs : List Label) (i : ℕ) (l : Label) → drop i xs ≡ l ∷ drop (i + 1) xs → get_or xs i l ≡ l
    first_here xs i l is =
        let same : i + 0 ≡ i = omega arith in
        ap (λ k. get_or xs k l) (sym same) ∙ sym (get_or-drop i xs 0 l) ∙ ap (λ ls. get_or ls 0 l) is

pub change_at : (ls : List Label) (i : ℕ) (l : Label) (ts : List (Option ℤ)) → drop i ls ≡ l ∷ drop (i + 1) ls → AllZip MayChange ls ts
    → MayChange l (get_or ts i None)
change_at [] zero l ts here zip = absurd cc
change_at [] (suc i) l ts here zip = absurd cc
change_at (x ∷ ls) zero l [] here zip = absurd zip
change_at (x ∷ ls) zero l (t ∷ ts) here (one, rest) = let same : x ≡ l = cc in subst (λ k. MayChange k t) same one
change_at (x ∷ ls) (suc i) l [] here zip = absurd zip
change_at (x ∷ ls) (suc i) l (t ∷ ts) here (one, rest) =
    let next : suc i + 1 ≡ suc (i + 1) = omega arith in
    change_at ls i l ts (here ∙ ap (λ k. l ∷ drop k (x ∷ ls)) next) rest
