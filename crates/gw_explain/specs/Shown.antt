-- The lines of a model text that a refusal is about, as they are shown.
use Rattle.std.specs.Prelude.{ℕ, zero, suc, List, [], ◌++◌, Option, Some, None, codes, map, take, slice_get, unwrap_or, ◌==◌, if◌then◌else◌}
use Rattle.std.specs.Borrow.{Bor}
use Rattle.std.specs.Fmt.{decimal}
use Rattle.std.specs.List.{flat_map}
use Rattle.gw_object.specs.declared.fault.Place.{Place}
use Rattle.gw_object.specs.declared.fault.Place.TheVariants.{Byte, Entity, Code, Row, Block, Edge, Chain, Line, Nowhere}
use Rattle.gw_source_lines.specs.Sites.{Sites}
use Rattle.gw_explain.specs.declared.lines.Text.{Text}

-- LINES

-- the bytes of lines
abbrev pub bytes_of : List (Bor (List ℕ)) → List (List ℕ)
bytes_of lines = map (λ (l : Bor (List ℕ)). l.now) lines

-- the line of this number, from 1
abbrev pub text_line : List (List ℕ) → ℕ → List ℕ
text_line lines zero = []
text_line lines (suc i) = unwrap_or (slice_get lines i) []

-- a line with its number; of a longer one than a model text may have, its first 1,000 bytes
abbrev pub shown_line : List (List ℕ) → ℕ → List ℕ
shown_line lines number = codes "line " ++ decimal number ++ codes " | " ++ take 1000 (text_line lines number) ++ codes "\n"

-- PLACES

-- the line at a place of a list, if it is there
abbrev pub shown_of : List (List ℕ) → Option ℕ → List ℕ
shown_of lines None = []
shown_of lines (Some number) = shown_line lines number

abbrev pub shown_at : List (List ℕ) → List ℕ → ℕ → List ℕ
shown_at lines numbers i = shown_of lines (slice_get numbers i)

-- the line of the block of this number, from 1
abbrev pub shown_block : List (List ℕ) → List ℕ → ℕ → List ℕ
shown_block lines blocks zero = []
shown_block lines blocks (suc i) = shown_at lines blocks i

-- the lines of the blocks of these numbers, in this order
abbrev pub shown_blocks : List (List ℕ) → List ℕ → List ℕ → List ℕ
shown_blocks lines blocks numbers = flat_map (shown_block lines blocks) numbers

-- the same in a text
abbrev pub blocks_in : Text → List ℕ → List ℕ
blocks_in text numbers = shown_blocks (bytes_of text.lines.now) text.blocks.now numbers

-- the lines of the block from which an edge leads and of that to which it leads, or of the one block
abbrev pub shown_edge : List (List ℕ) → List ℕ → ℕ → ℕ → List ℕ
shown_edge lines blocks from to =
    if from == to then shown_block lines blocks from
    else shown_block lines blocks from ++ shown_block lines blocks to

-- the lines that a refusal at a place is about
abbrev pub shown_lines : List (List ℕ) → Sites → Place → List ℕ
shown_lines lines sites (Line number) = shown_line lines number
shown_lines lines sites (Block b) = shown_block lines sites.blocks b
shown_lines lines sites (Edge from to) = shown_edge lines sites.blocks from to
shown_lines lines sites (Entity e) = shown_at lines sites.entities e
shown_lines lines sites (Chain e) = shown_at lines sites.entities e
shown_lines lines sites (Code p i) = shown_at lines sites.procedures p
shown_lines lines sites (Byte n) = []
shown_lines lines sites (Row r) = []
shown_lines lines sites Nowhere = []
