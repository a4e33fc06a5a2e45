-- What commas part.
use Rattle.std.proofs.Common.{◌≡◌, ℕ, ◌+◌, ◌<◌, ◌≤◌, List, [], ◌∷◌, length, take, drop, arith, ◌==◌, false}
use Rattle.std.specs.List.{slice_split, position_or_len, All}
use Rattle.std.proofs.lemmas.List.Splits.{slice_split_first, slice_split_none}
use Rattle.std.proofs.lemmas.List.Sums.{fails_before_first}
use Rattle.gw_parameters.specs.Parameters.{is_comma}

-- what stands before the first comma is the first part
pub cut_first : (words : List ℕ) → position_or_len is_comma words < length words
    → slice_split is_comma words ≡ take (position_or_len is_comma words) words ∷ slice_split is_comma (drop (position_or_len is_comma words + 1) words)
cut_first words h = slice_split_first is_comma words 0 h

-- without a comma there is one part
pub cut_none : (words : List ℕ) → length words ≤ position_or_len is_comma words → slice_split is_comma words ≡ words ∷ []
cut_none words h =
    let none : All (λ b. is_comma b ≡ false) words = λ k d below. fails_before_first is_comma words k d (omega (arith, below, h)) in
    slice_split_none is_comma words none
