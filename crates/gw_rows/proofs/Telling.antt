-- What the text of a row tells.
use Rattle.std.proofs.Common.{◌≡◌, ◌∙◌, ◌+◌, ℕ, zero, suc, List, [], ◌∷◌, ◌++◌, Option, None, Some, Bool, true, false, cond, length, map, drop, take}
use Rattle.std.proofs.Common.{refl, sym, ap, arith}
use Rattle.std.proofs.lemmas.Fmt.{decimal_injective}
use Rattle.csv.specs.Machine.{Read, next_record}
use Rattle.csv.specs.Reading.{default_config}
use Rattle.csv.specs.Writing.{row_text, default_writer}
use Rattle.csv.specs.declared.parser.State.TheVariants as st
use Rattle.csv.proofs.RoundTrip.{read-write-many}
use Rattle.std.specs.List.{All, AllZip}
use Rattle.std.specs.Prelude.{ℤ, codes}
use Rattle.std.proofs.lemmas.Bool.{and_from, le-leb, true≢false}
use Rattle.std.proofs.lemmas.List.{append_assoc, drop_at, get_or_at, length-map, length_push, take_at}
use Rattle.std.proofs.lemmas.List.Elements.{All-head, All-tail}
use Rattle.gw_figures.specs.Labels.{Label}
use Rattle.gw_figures.specs.Trends.{value_at}
use Rattle.gw_rows.specs.Amounts.{amount_field}
use Rattle.gw_rows.specs.Laws.{HeadersTellTheirFigures, RowsAreOfOneRun, RowsTellTheirRuns}
use Rattle.gw_rows.specs.Names.{begins, has_trend, header, label_of_name, trend_front, trend_name, trend_names}
use Rattle.gw_rows.specs.Reading.{IsAmount, IsByName, MayChange, Outcome, outcome_of}
use Rattle.gw_rows.specs.Rows.{row, trend_field, trend_fields}
use Rattle.gw_rows.proofs.AmountFields.{amount_field_injective}
use Rattle.gw_rows.proofs.EndWords.{same_end}
use Rattle.gw_rows.proofs.RowFields.{value_at_is}
use Rattle.gw_rows.proofs.StreamFields.{overdraws_in, overdraws_of_text}

record_of : Option Read → List (List ℕ)
record_of None = []
record_of (Some found) = found.0

field_at : ℕ → List (List ℕ) → List ℕ
field_at n [] = []
field_at zero (x ∷ xs) = x
field_at (suc n) (x ∷ xs) = field_at n xs

-- two records with one text have the same fields
pub fields_are_one : (x y : List ℕ) (xs : List (List ℕ)) (a b : List ℕ) (cs : List (List ℕ))
    → row_text default_writer (x ∷ y ∷ xs) ≡ row_text default_writer (a ∷ b ∷ cs) → x ∷ y ∷ xs ≡ a ∷ b ∷ cs
unfolding record_of
fields_are_one x y xs a b cs is =
    ap record_of (sym (read-write-many x y xs []) ∙ ap (λ text. next_record default_config st.StartRecord [] [] (text ++ [])) is ∙ read-write-many a b cs [])

pub rows_are_of_one_run : RowsAreOfOneRun
unfolding row field_at
rows_are_of_one_run labels others s t number other run it few less is =
    let one = fields_are_one s.model _ _ t.model _ _ is in (
      ap (field_at 0) one,
      ap (field_at 2) one,
      decimal_injective s.count t.count few.0 less.0 (ap (field_at 3) one),
      decimal_injective s.from t.from few.1 less.1 (ap (field_at 4) one),
      decimal_injective number other (omega (arith, few.2)) (omega (arith, less.2)) (ap (field_at 5) one),
    )

-- THE RUN

-- amounts with the same fields
same_amounts : (vs ws : List (Option ℤ)) → All IsAmount vs → All IsAmount ws → map amount_field vs ≡ map amount_field ws → vs ≡ ws
unfolding field_at
same_amounts [] [] h k is = refl
same_amounts [] (w ∷ ws) h k is = absurd cc
same_amounts (v ∷ vs) [] h k is = absurd cc
same_amounts (v ∷ vs) (w ∷ ws) h k is =
    let first : amount_field v ≡ amount_field w = ap (field_at 0) is in
    let rest : map amount_field vs ≡ map amount_field ws = ap (drop 1) is in
    ap (λ x. x ∷ vs) (amount_field_injective v w (All-head IsAmount v vs h) (All-head IsAmount w ws k) first)
    ∙ ap (λ xs. w ∷ xs) (same_amounts vs ws (All-tail IsAmount v vs h) (All-tail IsAmount w ws k) rest)

-- the field of a change, if there is one, and the others
first_change : (has : Bool) (t w : Option ℤ) (us vs : List (List ℕ)) → (has ≡ false → t ≡ None) → (has ≡ false → w ≡ None) → IsAmount t → IsAmount w
    → cond has (amount_field t ∷ []) [] ++ us ≡ cond has (amount_field w ∷ []) [] ++ vs → (t ≡ w) × (us ≡ vs)
unfolding field_at
first_change true t w us vs may may' h k is = (amount_field_injective t w h k (ap (field_at 0) is), ap (drop 1) is)
first_change false t w us vs may may' h k is = (may refl ∙ sym (may' refl), is)

value_behind : (us ts : List (Option ℤ)) (t : Option ℤ) (place : ℕ) → length us ≡ place → value_at place (us ++ t ∷ ts) ≡ t
value_behind us ts t place many = value_at_is place (us ++ t ∷ ts) ∙ get_or_at us t ts None place many

changes_at : (label : Label) (labels : List Label) (place : ℕ) (us ts : List (Option ℤ)) (t : Option ℤ) → length us ≡ place
    → trend_fields (label ∷ labels) place (us ++ t ∷ ts)
    ≡ cond (has_trend label) (amount_field t ∷ []) [] ++ trend_fields labels (place + 1) ((us ++ t ∷ []) ++ ts)
unfolding trend_fields
changes_at label labels place us ts t many =
    ap (λ x. trend_field label x ++ trend_fields labels (place + 1) (us ++ t ∷ ts)) (value_behind us ts t place many)
    ∙ ap (λ xs. trend_field label t ++ trend_fields labels (place + 1) xs) (sym (append_assoc us (t ∷ []) ts))

same_changes : (labels : List Label) (place : ℕ) (us vs ts ws : List (Option ℤ)) → length us ≡ place → length vs ≡ place
    → AllZip MayChange labels ts → AllZip MayChange labels ws → All IsAmount ts → All IsAmount ws
    → trend_fields labels place (us ++ ts) ≡ trend_fields labels place (vs ++ ws) → ts ≡ ws
same_changes [] place us vs [] [] many more zip zip' h k is = refl
same_changes [] place us vs [] (w ∷ ws) many more zip zip' h k is = absurd zip'
same_changes [] place us vs (t ∷ ts) ws many more zip zip' h k is = absurd zip
same_changes (label ∷ labels) place us vs [] ws many more zip zip' h k is = absurd zip
same_changes (label ∷ labels) place us vs (t ∷ ts) [] many more zip zip' h k is = absurd zip'
same_changes (label ∷ labels) place us vs (t ∷ ts) (w ∷ ws) many more (may, zip) (may', zip') h k is =
    let one = first_change (has_trend label) t w _ _ may may' (All-head IsAmount t ts h) (All-head IsAmount w ws k)
    (sym (changes_at label labels place us ts t many) ∙ is ∙ changes_at label labels place vs ws w more) in
    ap (λ x. x ∷ ts) one.0
    ∙ ap (λ xs. w ∷ xs) (same_changes labels (place + 1) (us ++ t ∷ []) (vs ++ w ∷ []) ts ws (omega (arith, length_push us t)) (omega (arith, length_push vs w))
    zip zip' (All-tail IsAmount t ts h) (All-tail IsAmount w ws k) one.1)

same_outcome : (a b : Outcome) → a.end ≡ b.end → a.steps ≡ b.steps → a.values ≡ b.values → a.trend ≡ b.trend → a.overdraws ≡ b.overdraws → a ≡ b
same_outcome a b ends steps values trend overdraws =
    ap (λ x. record a { end = x }) ends ∙ ap (λ x. record a { end = b.end; steps = x }) steps
    ∙ ap (λ x. record a { end = b.end; steps = b.steps; values = x }) values
    ∙ ap (λ x. record b { trend = x; overdraws = a.overdraws }) trend ∙ ap (λ x. record b { overdraws = x }) overdraws

pub rows_tell_their_runs : RowsTellTheirRuns
unfolding row field_at
rows_tell_their_runs labels s t number other run it has has' range range' is =
    let one = fields_are_one s.model _ _ t.model _ _ is in
    let behind = ap (drop 9) one in
    let values = run.values.items in
    let others = it.values.items in
    let many = length-map values amount_field ∙ has.values in
    let more = length-map others amount_field ∙ has'.values in
    let first : map amount_field values ≡ map amount_field others =
    sym (take_at (map amount_field values) _ (length labels) many) ∙ ap (take (length labels)) behind
    ∙ take_at (map amount_field others) _ (length labels) more in
    let last : trend_fields labels 0 run.trend.items ≡ trend_fields labels 0 it.trend.items =
    sym (drop_at (map amount_field values) _ (length labels) many) ∙ ap (drop (length labels)) behind
    ∙ drop_at (map amount_field others) _ (length labels) more in
    same_outcome (outcome_of run) (outcome_of it)
    (same_end run.end it.end (ap (field_at 6) one))
    (decimal_injective run.steps it.steps range.steps range'.steps (ap (field_at 7) one))
    (same_amounts values others range.values range'.values first)
    (same_changes labels 0 [] [] run.trend.items it.trend.items refl refl has.trend has'.trend range.trend range'.trend last)
    (sym (overdraws_of_text run.overdraws.items range.overdraws) ∙ ap overdraws_in (ap (field_at 8) one)
    ∙ overdraws_of_text it.overdraws.items range'.overdraws)

-- THE FIGURES

begins_trend : (name : List ℕ) → begins trend_front (trend_name name) ≡ true
begins_trend name = and_from _ _ (le-leb 6 (length (trend_name name)) (omega arith)) refl

-- names that begin as those of changes, or don't
abbrev pub Begin : Bool → List (List ℕ) → Type 0
Begin b [] = Unit {0}
Begin b (name ∷ names) = (begins trend_front name ≡ b) × Begin b names

pub changes_begin : (labels : List Label) → Begin true (trend_names labels)
unfolding trend_names
changes_begin [] = tt
changes_begin (label ∷ labels) = by_test (has_trend label) (changes_begin labels)
  where
    by_test : (b : Bool) → Begin true (trend_names labels) → Begin true (cond b (trend_name label.name ∷ []) [] ++ trend_names labels)
    by_test true rest = (begins_trend label.name, rest)
    by_test false rest = rest

names_begin : (labels : List Label) → All IsByName labels → Begin false (map (λ l. l.name) labels)
names_begin [] h = tt
names_begin (label ∷ labels) h = ((All-head IsByName label labels h).no_change, names_begin labels (All-tail IsByName label labels h))

same_names : (xs ys us vs : List (List ℕ)) → Begin false xs → Begin false ys → Begin true us → Begin true vs → xs ++ us ≡ ys ++ vs → xs ≡ ys
unfolding field_at
same_names [] [] us vs a b h k is = refl
same_names [] (y ∷ ys) [] vs a b h k is = absurd cc
same_names [] (y ∷ ys) (u ∷ us) vs a b h k is =
    let first : u ≡ y = ap (field_at 0) is in absurd (true≢false (sym h.0 ∙ ap (begins trend_front) first ∙ b.0))
same_names (x ∷ xs) [] us [] a b h k is = absurd cc
same_names (x ∷ xs) [] us (v ∷ vs) a b h k is =
    let first : x ≡ v = ap (field_at 0) is in absurd (true≢false (sym k.0 ∙ ap (begins trend_front) (sym first) ∙ a.0))
same_names (x ∷ xs) (y ∷ ys) us vs a b h k is =
    let first : x ≡ y = ap (field_at 0) is in
    ap (λ z. z ∷ xs) first ∙ ap (λ zs. y ∷ zs) (same_names xs ys us vs a.1 b.1 h k (ap (drop 1) is))

by_their_names : (labels : List Label) → All IsByName labels → labels ≡ map label_of_name (map (λ l. l.name) labels)
by_their_names [] h = refl
by_their_names (label ∷ labels) h =
    ap (λ l. l ∷ labels) (All-head IsByName label labels h).label_is
    ∙ ap (λ ls. label_of_name label.name ∷ ls) (by_their_names labels (All-tail IsByName label labels h))

pub headers_tell_their_figures : HeadersTellTheirFigures
unfolding header
headers_tell_their_figures labels others h k is =
    let one = ap (drop 9) (fields_are_one (codes "model") _ _ (codes "model") _ _ is) in
    let names = same_names (map (λ l. l.name) labels) (map (λ l. l.name) others) (trend_names labels) (trend_names others)
    (names_begin labels h) (names_begin others k) (changes_begin labels) (changes_begin others) one in
    by_their_names labels h ∙ ap (map label_of_name) names ∙ sym (by_their_names others k)
