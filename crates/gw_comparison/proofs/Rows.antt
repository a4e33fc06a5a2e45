-- One more row.
use Rattle.std.proofs.Common.{◌≡◌, ◌<◌, ◌+◌, ℕ, List, [], ◌∷◌, length, drop, get_or, drop-cons, suc, arith, sym, ap, subst, Bool, ◌∙◌}
use Rattle.gw_comparison.specs.Differences.{AddsRow, AddsRowIfTold, AddsRows}
use Rattle.gw_comparison.specs.declared.point.Column.{Column}

cons : (all : Bool) (first : Column) (rest others : List Column) (old middle new : List ℕ) → AddsRowIfTold all first others old middle
    → AddsRows all rest others middle new → AddsRows all (first ∷ rest) others old new
unfolding AddsRows
cons all first rest others old middle new row rows = (middle, row, rows)

pub one_more : (all : Bool) (first others : List Column) (i : ℕ) (x : Column) (start old middle : List ℕ) → i < length first → x ≡ get_or first i x
    → AddsRowIfTold all x others old middle
    → ((new : List ℕ) → AddsRows all (drop i first) others old new → AddsRows all first others start new)
    → (new : List ℕ) → AddsRows all (drop (i + 1) first) others middle new → AddsRows all first others start new
one_more all first others i x start old middle h is row before new rows =
    let next : i + 1 ≡ suc i = omega arith in
    let here : AddsRows all (drop (suc i) first) others middle new = subst (λ k. AddsRows all (drop k first) others middle new) next rows in
    let left : drop i first ≡ x ∷ drop (suc i) first = drop-cons first i x h ∙ ap (λ y. y ∷ drop (suc i) first) (sym is) in
    before new (subst (λ xs. AddsRows all xs others old new) (sym left) (cons all x (drop (suc i) first) others old middle new row here))
