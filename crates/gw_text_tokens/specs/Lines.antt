-- Which lines of a text hold a statement.
use Rattle.std.specs.Prelude.{ℕ, ◌≤◌, List, [], ◌∷◌, length, slice_index_or, Bool, true, ◌==◌, ◌||◌, if◌then◌else◌}

-- a space or a tab
abbrev pub is_blank : ℕ → Bool
is_blank byte = byte == 32 || byte == 9

-- what follows the blanks at the front
abbrev pub after_blanks : List ℕ → List ℕ
after_blanks [] = []
after_blanks (byte ∷ line) = if is_blank byte then after_blanks line else byte ∷ line

-- nothing, or a comment, which `;` begins
abbrev pub is_comment : List ℕ → Bool
is_comment [] = true
is_comment (byte ∷ line) = byte == 59

-- nothing but blanks and a comment is left of a line
abbrev pub holds_nothing : List ℕ → Bool
holds_nothing line = is_comment (after_blanks line)

-- a line without a statement: blanks, a comment behind blanks, or a comment that `*` at the front of the line begins
abbrev pub is_skipped : List ℕ → Bool
is_skipped [] = true
is_skipped (byte ∷ line) = byte == 42 || holds_nothing (byte ∷ line)

-- a line is at most as long as it may be: 1,000 bytes, without what ends it
abbrev pub IsShort : List ℕ → Type 0
IsShort line = length line ≤ 1000

-- the lines from one number to another, both from 0 and included, are short
abbrev pub AreShort : List (List ℕ) → ℕ → ℕ → Type 0
AreShort lines first last = (i : ℕ) → first ≤ i → i ≤ last → IsShort (slice_index_or lines i [])
