-- What the lines of a text become.
use Rattle.std.specs.Prelude.{◌≡◌, ℕ, List, [], ◌∷◌, ◌++◌, true}
use Rattle.std.specs.Str.Lines.{lines}
use Rattle.gw_text_tokens.specs.Lines.{is_skipped}

-- a line with what ends it
abbrev pub with_line_end : List ℕ → List ℕ
with_line_end line = line ++ (10 ∷ [])

-- a line becomes a piece, behind what there is: one line or more; a line that holds no statement is written byte for byte
pub record AddsPiece (line old new : List ℕ) : Type 0 where
  pub piece : List ℕ
  pub added : new ≡ old ++ with_line_end piece
  pub kept : is_skipped line ≡ true → piece ≡ line

-- each of these lines becomes a piece, in order
unfoldable pub AddsPieces : List (List ℕ) → List ℕ → List ℕ → Type 0
AddsPieces [] old new = new ≡ old
AddsPieces (line ∷ others) old new = (middle : List ℕ) × AddsPiece line old middle × AddsPieces others middle new

-- a text was converted: behind a head there is a piece for each of its lines, in order
pub record IsConverted (text new : List ℕ) : Type 0 where
  pub head : List ℕ
  pub body : List ℕ
  pub whole : new ≡ head ++ body
  pub pieces : AddsPieces (lines text) [] body
