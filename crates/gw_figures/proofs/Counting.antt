-- The next of those that are left.
use Rattle.std.proofs.Common.{◌≡◌, ◌∙◌, ◌<◌, ℕ, suc, ◌+◌, ◌-◌, arith, refl, sym, ap, List, ◌++◌, ◌∷◌, []}
use Rattle.std.specs.Prelude.{ℤ, Option}
use Rattle.std.proofs.lemmas.List.{append_assoc}
use Rattle.gw_object.specs.declared.parts.Table.{Table}
use Rattle.gw_figures.specs.Windows.{Span}
use Rattle.gw_figures.specs.Values.{block_values, blocks_values}
use Rattle.gw_figures.specs.Labels.{Label, plain, class_text, class_labels}

one_left : (n i : ℕ) → i < n → n - i ≡ suc (n - (i + 1))
one_left n i below = omega arith

-- what is there and what is left are all, also behind the next
moved : {X : Type 0} (old new next rest left all : List X) → old ++ left ≡ all → left ≡ next ++ rest → new ≡ old ++ next → new ++ rest ≡ all
moved old new next rest left all so_far is added =
    ap (λ xs. xs ++ rest) added ∙ append_assoc old next rest ∙ ap (λ xs. old ++ xs) (sym is) ∙ so_far

block_left : (w : Span) (i n : ℕ) → i < n → blocks_values w i (n - i) ≡ block_values w i ++ blocks_values w (i + 1) (n - (i + 1))
unfolding blocks_values
block_left w i n below = rw (one_left n i below) refl

-- the values of a block
pub next_block : (w : Span) (i n : ℕ) (old new all : List (Option ℤ)) → i < n → old ++ blocks_values w i (n - i) ≡ all → new ≡ old ++ block_values w i
    → new ++ blocks_values w (i + 1) (n - (i + 1)) ≡ all
next_block w i n old new all below so_far added =
    moved old new (block_values w i) (blocks_values w (i + 1) (n - (i + 1))) (blocks_values w i (n - i)) all so_far (block_left w i n below) added

class_left : (t : Table) (front : List ℕ) (i n : ℕ) → i < n
    → class_labels t front i (n - i) ≡ plain front (class_text t i (n - (i + 1))) ∷ class_labels t front (i + 1) (n - (i + 1))
unfolding class_labels
class_left t front i n below = rw (one_left n i below) refl

-- the figure of a class
pub next_class : (t : Table) (front : List ℕ) (i n : ℕ) (old new all : List Label) → i < n → old ++ class_labels t front i (n - i) ≡ all
    → new ≡ old ++ plain front (class_text t i (n - (i + 1))) ∷ [] → new ++ class_labels t front (i + 1) (n - (i + 1)) ≡ all
next_class t front i n old new all below so_far added =
    moved old new (plain front (class_text t i (n - (i + 1))) ∷ []) (class_labels t front (i + 1) (n - (i + 1))) (class_labels t front i (n - i)) all
    so_far (class_left t front i n below) added
