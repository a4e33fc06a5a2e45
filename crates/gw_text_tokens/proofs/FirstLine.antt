-- The first line of a text, as it is cut off.
use Rattle.std.proofs.Common.{◌≡◌, ℕ, ◌+◌, ◌<◌, ◌≤◌, List, [], ◌∷◌, length, take, drop, ap, ◌∙◌, arith, ◌==◌, Bool, false, inl, inr, refl, suc}
use Rattle.std.specs.List.{slice_split, position_or_len, count_by, All}
use Rattle.std.specs.Str.Lines.{lines, lines_of_parts, strip_carriage_return}
use Rattle.std.proofs.lemmas.List.Splits.{slice_split_first, slice_split_none, length-slice_split}
use Rattle.std.proofs.lemmas.List.Sums.{fails_before_first, count_by-le-length}
use Rattle.std.proofs.lemmas.Bool.{cases_lt}

-- a line feed
abbrev pub is_line_feed : ℕ → Bool
is_line_feed byte = byte == 10

-- what stands before another part is a line without its carriage return
lines_of_first : (x : List ℕ) (parts : List (List ℕ)) → 0 < length parts
    → lines_of_parts (x ∷ parts) ≡ strip_carriage_return x ∷ lines_of_parts parts
lines_of_first x [] h = absurd (omega (arith, h))
lines_of_first x (y ∷ more) h = refl

-- what stands before the first line feed is the first line
pub lines_cut : (text : List ℕ) → position_or_len is_line_feed text < length text
    → lines text ≡ strip_carriage_return (take (position_or_len is_line_feed text) text)
    ∷ lines (drop (position_or_len is_line_feed text + 1) text)
lines_cut text h =
    let rest : List ℕ = drop (position_or_len is_line_feed text + 1) text in
    let count : length (slice_split is_line_feed rest) ≡ count_by is_line_feed rest + 1 = length-slice_split is_line_feed rest in
    let some : 0 < length (slice_split is_line_feed rest) = omega (arith, count) in
    ap lines_of_parts (slice_split_first is_line_feed text 0 h)
    ∙ lines_of_first (take (position_or_len is_line_feed text) text) (slice_split is_line_feed rest) some

-- a part that is the last one is a line, unless it is empty
lines_of_one : (x : List ℕ) → 0 < length x → lines_of_parts (x ∷ []) ≡ x ∷ []
lines_of_one x h = grind (arith, h)

-- a text without a line feed is one line
pub lines_last : (text : List ℕ) → length text ≤ position_or_len is_line_feed text → 0 < length text → lines text ≡ text ∷ []
lines_last text h some =
    let none : All (λ b. is_line_feed b ≡ false) text = λ k d below. fails_before_first is_line_feed text k d (omega (arith, below, h)) in
    ap lines_of_parts (slice_split_none is_line_feed text none) ∙ lines_of_one text some

-- a text that isn't empty has a line
pub has_line : (text : List ℕ) → 0 < length text → 1 ≤ length (lines text)
has_line text some = elim (cases_lt (position_or_len is_line_feed text) (length text)) [
  | inl h ↦
      let e : length (lines text) ≡ suc (length (lines (drop (position_or_len is_line_feed text + 1) text))) = ap length (lines_cut text h) in
      omega (arith, e)
  | inr h ↦ let e : length (lines text) ≡ 1 = ap length (lines_last text h some) in omega (arith, e)
]

-- parts have at most as many lines as they are
lines_of_few : (parts : List (List ℕ)) → length (lines_of_parts parts) ≤ length parts
lines_of_few [] = omega arith
lines_of_few (x ∷ []) = grind arith
lines_of_few (x ∷ y ∷ more) = let h : length (lines_of_parts (y ∷ more)) ≤ length (y ∷ more) = lines_of_few (y ∷ more) in omega (arith, h)

-- a text has at most one line more than bytes
pub few_lines : (text : List ℕ) → length (lines text) ≤ length text + 1
few_lines text =
    omega (arith, lines_of_few (slice_split is_line_feed text), length-slice_split is_line_feed text, count_by-le-length is_line_feed text)
