-- Columns of a table.
use Rattle.std.specs.Prelude.{ℕ, ◌-◌, List, ◌∷◌, ◌++◌, length, replicate}

-- a text with blanks behind it, so wide or as wide as it is
unfoldable pub left : ℕ → List ℕ → List ℕ
left width text = text ++ replicate (width - length text) 32

-- a text with blanks before it, so wide or as wide as it is
unfoldable pub padded : ℕ → List ℕ → List ℕ
padded width text = replicate (width - length text) 32 ++ text

-- a blank, and the same
unfoldable pub right : ℕ → List ℕ → List ℕ
right width text = 32 ∷ padded width text
