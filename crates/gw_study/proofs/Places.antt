-- Where the entries of a block stand among the values of a window.
use Rattle.std.proofs.Common.{◌≡◌, ◌∙◌, ◌<◌, ◌+◌, ◌*◌, ℕ, zero, suc, List, [], ◌∷◌, ◌++◌, length, arith, refl, ap, subst, sym}
use Rattle.std.specs.Prelude.{ℤ, Option, Some, slice_get}
use Rattle.gw_object.specs.declared.parts.Parts.{Parts}
use Rattle.gw_report.specs.Figures.{block_at}
use Rattle.gw_figures.specs.Windows.{Span, rise}
use Rattle.gw_figures.specs.Values.{blocks_values, values_of, entities_values}
use Rattle.gw_figures.specs.Trends.{value_at, value_at_place}
use Rattle.gw_study.specs.Streams.{EntriesStandBehind}

-- the entries of the block at a place
abbrev entries : Span → ℕ → Option ℤ
entries w i = rise (block_at i w.start).entries (block_at i w.end).entries

-- two values of each block before it stand before them
in_blocks : (w : Span) (i n k : ℕ) (rest : List (Option ℤ)) → k < n → slice_get (blocks_values w i n ++ rest) (2 * k) ≡ Some (entries w (i + k))
unfolding blocks_values
in_blocks w i zero k rest below = absurd (omega (arith, below))
in_blocks w i (suc n) zero rest below = let here : i ≡ i + 0 = omega arith in ap (λ j. Some (entries w j)) here
in_blocks w i (suc n) (suc k) rest below =
    let twice : 2 * suc k ≡ suc (suc (2 * k)) = omega arith in
    let there : i + 1 + k ≡ i + suc k = omega arith in
    rw twice (in_blocks w (i + 1) n k rest (omega (arith, below)) ∙ ap (λ j. Some (entries w j)) there)

-- and the four values of the end
behind_end : (a b c d : Option ℤ) (xs : List (Option ℤ)) (k : ℕ) → slice_get (a ∷ b ∷ c ∷ d ∷ xs) (4 + k) ≡ slice_get xs k
behind_end a b c d xs k = let four : 4 + k ≡ suc (suc (suc (suc k))) = omega arith in rw four refl

pub entries_stand_behind : EntriesStandBehind
entries_stand_behind parts w i below =
    ap value_at_place (behind_end _ _ _ _ (blocks_values w 0 (length parts.blocks) ++ entities_values w 0 parts.entities) (2 * i)
    ∙ in_blocks w 0 (length parts.blocks) i (entities_values w 0 parts.entities) below
    ∙ ap (λ j. Some (entries w j)) (omega arith))
