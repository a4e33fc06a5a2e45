-- Words that tell which return rows are within which others.
use Rattle.std.specs.Prelude.{◌≡◌, ℕ, ◌<◌, ◌≤◌, ◌+◌, ◌*◌, List, [], length, map, get_or, Vec, All, ◌&&◌, nat_lt}
use Rattle.std.specs.Int.{bit_at}
use Rattle.std.specs.Global.{Global}
use Rattle.gw_object.specs.declared.parts.ReturnRow.{ReturnRow}
use Rattle.gw_object.specs.Returns.{lists, are_among, row_blocks}
use Rattle.gw_returns.specs.Words.{bit_of, word_at}

-- the blocks of return rows are below a bound
abbrev pub AreBelow : ℕ → List ReturnRow → Type 0
AreBelow bound rows = All (λ (row : ReturnRow). All (λ b. b < bound) row.blocks) rows

-- the bits of a block's word tell which of so many rows from the first have the block
abbrev pub TellHolders : List ReturnRow → ℕ → ℕ → List ℕ → Type 0
TellHolders rows first count words =
    (b place : ℕ) → bit_at (word_at words b) place ≡ bit_of (nat_lt place count && lists (row_blocks rows (first + place)) b)

-- the bits of each row's word tell which of the 64 rows from the first it is within
pub record IsColumn (rows : List ReturnRow) (first : ℕ) (words : List ℕ) : Type 0 where
  pub full : length words ≡ length rows
  pub each : (r place : ℕ) → r < length rows → place < 64 → bit_at (word_at words r) place
      ≡ bit_of (are_among (row_blocks rows r) (row_blocks rows (first + place)))

-- the words of each column
abbrev pub words_of : List (Vec ℕ Global) → List (List ℕ)
words_of columns = map (λ (column : Vec ℕ Global). column.items) columns

-- these are the first columns of return rows, one for each 64 of them
abbrev pub AreFirst : List ReturnRow → List (List ℕ) → Type 0
AreFirst rows columns = (k : ℕ) → k < length columns → IsColumn rows (k * 64) (get_or columns k [])

-- these are all columns of return rows
pub record AreColumns (rows : List ReturnRow) (columns : List (Vec ℕ Global)) : Type 0 where
  pub first : AreFirst rows (words_of columns)
  pub enough : length rows ≤ 64 * length columns
