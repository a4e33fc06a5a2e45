-- The words of holders, and of columns.
use Rattle.std.proofs.Common.{◌≡◌, ◌≢◌, ℕ, zero, suc, ◌<◌, ◌≤◌, ◌+◌, ◌*◌, List, [], ◌∷◌, ◌++◌, length, map, Bool, true, false, ◌==◌, ◌&&◌, ◌||◌, refl}
use Rattle.std.proofs.Common.{sym, ap, ◌∙◌, arith, ⊎_elim}
use Rattle.std.proofs.lemmas.Bool.{cases_eq, ne_eqb}
use Rattle.std.specs.Prelude.{All, nat_lt, replicate}
use Rattle.std.specs.Int.{bit_at}
use Rattle.std.proofs.lemmas.List.{get_or_append_left, get_or_push, length_push}
use Rattle.std.proofs.lemmas.List.Elements.{All-head, All-tail, All-nil}
use Rattle.gw_object.specs.declared.parts.ReturnRow.{ReturnRow}
use Rattle.gw_object.specs.Returns.{lists, are_among, row_blocks}
use Rattle.gw_returns.specs.Words.{bit_of, word_at, with_bits, common}
use Rattle.gw_returns.specs.Columns.{AreBelow, TellHolders, IsColumn, AreFirst}
use Rattle.gw_returns.proofs.Bits.{other_places, same_places, no_bit, in_common}

-- the blocks of the row of any number are below the bound
pub blocks_below : (bound : ℕ) (rows : List ReturnRow) → AreBelow bound rows → (r : ℕ) → All (λ b. b < bound) (row_blocks rows r)
blocks_below bound [] h r = All-nil (λ b. b < bound)
blocks_below bound (x ∷ xs) h zero = All-head (λ (row : ReturnRow). All (λ b. b < bound) row.blocks) x xs h
blocks_below bound (x ∷ xs) h (suc r) = blocks_below bound xs (All-tail (λ (row : ReturnRow). All (λ b. b < bound) row.blocks) x xs h) r

-- a number that isn't below another
not_below : (m n : ℕ) → n ≤ m → nat_lt m n ≡ false
not_below m n le = search arith

below : (m n : ℕ) → m < n → nat_lt m n ≡ true
below m n lt = search arith

-- HOLDERS

pub no_holders : (rows : List ReturnRow) (first n : ℕ) → TellHolders rows first 0 (replicate n 0)
no_holders rows first n b place = rw (not_below place 0 (omega arith)) (no_bit n b place)

-- one more row is told of
pub more_holders : (rows : List ReturnRow) (first place : ℕ) (words : List ℕ) → place < 64 → All (λ b. b < length words) (row_blocks rows (first + place)) →
    TellHolders rows first place words → TellHolders rows first (place + 1) (with_bits place words (row_blocks rows (first + place)))
more_holders rows first place words small within before b i =
    let bs = row_blocks rows (first + place) in
    ⊎_elim
    (λ (same : i ≡ place). rw same (here b))
    (λ (apart : i ≢ place). other_places place bs words b i small within apart ∙ before b i
    ∙ ap (λ t. bit_of (t && lists (row_blocks rows (first + i)) b)) (same_side i apart))
    (cases_eq i place)
  where
    or_none : (x : Bool) → (x || false) ≡ x
    or_none true = refl
    or_none false = refl

    here : (b : ℕ) → bit_at (word_at (with_bits place words (row_blocks rows (first + place))) b) place
        ≡ bit_of (nat_lt place (place + 1) && lists (row_blocks rows (first + place)) b)
    here b =
        same_places place (row_blocks rows (first + place)) words b false small within
        (before b place ∙ ap (λ t. bit_of (t && lists (row_blocks rows (first + place)) b)) (not_below place place (omega arith)))
        ∙ ap bit_of (or_none (lists (row_blocks rows (first + place)) b))
        ∙ ap (λ t. bit_of (t && lists (row_blocks rows (first + place)) b)) (sym (below place (place + 1) (omega arith)))

    same_side : (i : ℕ) → i ≢ place → nat_lt i place ≡ nat_lt i (place + 1)
    same_side i apart = search arith

-- COLUMNS

-- the word of a row tells which rows it is within
pub word_tells : (rows : List ReturnRow) (first : ℕ) (words bs : List ℕ) → TellHolders rows first 64 words → (place : ℕ) → place < 64
    → bit_at (common words bs) place ≡ bit_of (are_among bs (row_blocks rows (first + place)))
word_tells rows first words bs tell place small =
    in_common words place (λ b. lists (row_blocks rows (first + place)) b)
    (λ b. tell b place ∙ ap (λ t. bit_of (t && lists (row_blocks rows (first + place)) b)) (below place 64 small)) bs small

-- the word of the row of a number, where there is one
pub row_word : (words : List ℕ) (rows : List ReturnRow) (r : ℕ) → r < length rows
    → word_at (map (λ (row : ReturnRow). common words row.blocks) rows) r ≡ common words (row_blocks rows r)
row_word words [] r within = absurd (omega arith)
row_word words (x ∷ xs) zero within = refl
row_word words (x ∷ xs) (suc r) within = row_word words xs r (omega (arith, within))

-- one column more
pub more_columns : (rows : List ReturnRow) (columns : List (List ℕ)) (words : List ℕ) → AreFirst rows columns
    → IsColumn rows (length columns * 64) words → AreFirst rows (columns ++ words ∷ [])
more_columns rows columns words before next k within =
    ⊎_elim
    (λ (same : k ≡ length columns). rw (same, get_or_push columns words [] (length columns) refl) next)
    (λ (ne : k ≢ length columns).
    let lt : k < length columns = omega (arith, within, length_push columns words, ne) in
    rw (get_or_append_left columns (words ∷ []) [] k lt) (before k lt))
    (cases_eq k (length columns))

-- LOOKUPS

-- there is no row of a number past them
pub no_row : (rows : List ReturnRow) (r : ℕ) → length rows ≤ r → row_blocks rows r ≡ []
no_row [] r past = refl
no_row (x ∷ xs) zero past = absurd (omega (arith, past))
no_row (x ∷ xs) (suc r) past = no_row xs r (omega (arith, past))

-- what is among nothing is nothing
pub among_none : (bs : List ℕ) → are_among bs [] ≡ (length bs == 0)
among_none [] = refl
among_none (b ∷ bs) = sym (ne_eqb (length (b ∷ bs)) 0 (λ e. omega (arith, e)))

-- a bit is set where it tells the truth
pub told : (x : Bool) → (bit_of x == 1) ≡ x
told true = refl
told false = refl
