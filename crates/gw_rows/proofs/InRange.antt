-- Numbers of which rows tell are in the ranges of their types.
use Rattle.std.proofs.Common.{◌≡◌, ◌∙◌, ◌<◌, ◌≤◌, ◌+◌, ◌^◌, ℕ, List, [], ◌∷◌, length, drop, take, get_or, sym, ap, subst, arith, true, inl, inr}
use Rattle.std.specs.Prelude.{ℤ, Option, None}
use Rattle.std.specs.List.{All}
use Rattle.std.proofs.lemmas.Bool.{cases_Bool}
use Rattle.std.proofs.lemmas.List.{drop-drop, get_or-drop, take_all}
use Rattle.std.proofs.lemmas.List.Elements.{All-cons}
use Rattle.gw_figures.specs.Labels.{Label, label_of, labels as labels_of}
use Rattle.gw_figures.specs.Trends.{value_at}
use Rattle.gw_figures.specs.declared.figure.Figure.{Figure}
use Rattle.gw_figures.specs.declared.run.Run.{Run}
use Rattle.gw_rows.specs.Names.{has_trend}
use Rattle.gw_rows.specs.Reading.{IsAmount, IsStreamInRange, MayBeAmounts, MayBeInRange, MayChange}
use Rattle.gw_rows.proofs.RowFields.{label_at, value_at_is}

-- all of them
pub all_of : {X : Type 0} (P : X → Type 0) (xs : List X) (i : ℕ) → length xs ≤ i → All P (take i xs) → All P xs
all_of P xs i end so_far = subst (All P) (take_all i xs end) so_far

-- a change is an amount where rows tell it, and where they don't
change_amount : (label : Label) (change : Option ℤ) → (has_trend label ≡ true → IsAmount change) → MayChange label change → IsAmount change
change_amount label change told may = elim (cases_Bool (has_trend label)) [
  | inl has ↦ told has
  | inr none ↦ subst IsAmount (sym (may none)) tt
]

change_here : (label : Label) (labels : List Label) (left right : List (Option ℤ)) (value : Option ℤ) → value ≡ get_or left 0 None → right ≡ drop 1 left
    → (has_trend label ≡ true → IsAmount value) → MayBeAmounts labels right → MayBeAmounts (label ∷ labels) left
change_here label labels [] right value is rest told more = λ zip. absurd zip
change_here label labels (x ∷ xs) right value is rest told more = λ zip.
    All-cons IsAmount x xs (change_amount label x (subst (λ v. has_trend label ≡ true → IsAmount v) is told) zip.0)
    (subst (MayBeAmounts labels) rest more zip.1)

-- the changes from a place on are amounts, where this one is and the others are
pub changes_from_here : (figures : List Figure) (trend : List (Option ℤ)) (i : ℕ) (x : Figure) → i < length figures → x ≡ get_or figures i x
    → (has_trend (label_of x) ≡ true → IsAmount (value_at i trend)) → MayBeAmounts (drop (i + 1) (labels_of figures)) (drop (i + 1) trend)
    → MayBeAmounts (drop i (labels_of figures)) (drop i trend)
changes_from_here figures trend i x below is told more =
    let here : i + 0 ≡ i = omega arith in
    subst (λ ls. MayBeAmounts ls (drop i trend)) (sym (label_at figures i x below is))
    (change_here (label_of x) (drop (i + 1) (labels_of figures)) (drop i trend) (drop (i + 1) trend) (value_at i trend)
    (value_at_is i trend ∙ ap (λ k. get_or trend k None) (sym here) ∙ sym (get_or-drop i trend 0 None)) (sym (drop-drop 1 i trend)) told more)

-- all numbers of a run
pub run_in_range : (labels : List Label) (run : Run) → run.steps < 2 ^ 64 → All IsAmount run.values.items → MayBeAmounts labels run.trend.items
    → All IsStreamInRange run.overdraws.items → MayBeInRange labels run
run_in_range labels run steps values trend overdraws = λ has. record { steps = steps; values = values; trend = trend has.trend; overdraws = overdraws }
