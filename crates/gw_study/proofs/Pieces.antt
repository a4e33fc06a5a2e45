-- Pieces of a text, one for each figure.
use Rattle.std.proofs.Common.{◌≡◌, ◌∙◌, ◌<◌, ℕ, zero, suc, ◌+◌, take, List, [], ◌∷◌, ◌++◌, length, arith, refl, sym, ap, subst}
use Rattle.std.proofs.lemmas.List.{append_assoc, append-nil}
use Rattle.gw_figures.specs.declared.figure.Figure.{Figure}
use Rattle.gw_figures.specs.Labels.{Label, labels}
use Rattle.gw_study.specs.Table.{ArePieces, Adds}

-- no figure has none
pub no_pieces : (P : ℕ → Label → List ℕ → Type 0) (old : List ℕ) → Adds (ArePieces P 0 []) old old
no_pieces P old = ([], refl, sym (append-nil old))

-- one figure more
more : (P : ℕ → Label → List ℕ → Type 0) (place n : ℕ) (figures : List Label) (figure : Label) (text piece : List ℕ)
    → ArePieces P place figures text → place + length figures ≡ n → P n figure piece → ArePieces P place (figures ++ figure ∷ []) (text ++ piece)
more P place n [] figure text piece none is h =
    let there : n ≡ place = omega (arith, is) in
    (piece, [], subst (λ (k : ℕ). P k figure piece) there h, refl, ap (λ t. t ++ piece) none ∙ sym (append-nil piece))
more P place n (x ∷ figures) figure text piece (first, rest, own, others, joined) is h = (
  first,
  rest ++ piece,
  own,
  more P (place + 1) n figures figure rest piece others (omega (arith, is)) h,
  ap (λ t. t ++ piece) joined
      ∙ append_assoc first rest piece,
)

pub piece_more : (P : ℕ → Label → List ℕ → Type 0) (n : ℕ) (figures : List Label) (figure : Label) (old now new : List ℕ)
    → Adds (ArePieces P 0 figures) old now → length figures ≡ n → Adds (P n figure) now new → Adds (ArePieces P 0 (figures ++ figure ∷ [])) old new
piece_more P n figures figure old now new (text, so_far, is_now) is (piece, own, is_new) =
    (text ++ piece, more P 0 n figures figure text piece so_far (omega (arith, is)) own, is_new ∙ ap (λ t. t ++ piece) is_now ∙ append_assoc old text piece)

-- the first of figures are so many
pub so_many : (i : ℕ) (figures : List Figure) → i < length figures → length (labels (take i figures)) ≡ i
so_many zero [] below = refl
so_many zero (x ∷ figures) below = refl
so_many (suc i) [] below = absurd (omega (arith, below))
so_many (suc i) (x ∷ figures) below = ap suc (so_many i figures (omega (arith, below)))
