-- What the lines of a listing begin with: one for each part of the object.
use Rattle.std.specs.Prelude.{ℕ, ◌+◌, List, [], ◌∷◌, ◌++◌, length, codes, if◌then◌else◌, ◌==◌, slice_get, slice_index_or, Option, Some, None}
use Rattle.std.specs.Fmt.{decimal}
use Rattle.gw_object.specs.declared.code.Procedure.{Procedure}
use Rattle.gw_object.specs.declared.parts.Parts.{Parts}
use Rattle.gw_source_lines.specs.Sites.{Sites}
use Rattle.gw_listing.specs.Lines.{Opening, Whole, Front, openings_below}

-- a word and a number, where there is one
abbrev pub word_with_number : List ℕ → Option ℕ → List ℕ
word_with_number word None = []
word_with_number word (Some number) = word ++ decimal number

-- the line of the text at a place of these, and the weight at a place
abbrev pub line_part : List ℕ → ℕ → List ℕ
line_part lines i = word_with_number (codes " line ") (slice_get lines i)

abbrev pub weight_part : List ℕ → ℕ → List ℕ
weight_part weights i = word_with_number (codes " weight ") (slice_get weights i)

-- a slope of a weight, if there is one: its parameter, and what each 1 of that adds
abbrev pub slope_words : Option (ℕ × ℕ) → List ℕ
slope_words None = []
slope_words (Some slope) = codes " slope P" ++ decimal slope.0 ++ codes " " ++ decimal slope.1

abbrev pub slope_part : List (Option (ℕ × ℕ)) → ℕ → List ℕ
slope_part slopes i = slope_words (slice_index_or slopes i None)

-- a block, by its place from 0: its number, its line, its weight and the slope of that
abbrev pub block_front : List ℕ → Parts → ℕ → List ℕ
block_front lines p i = codes "BLOCK " ++ decimal (i + 1) ++ line_part lines i ++ weight_part p.weights i ++ slope_part p.slopes i ++ codes " "

abbrev pub block_opening : List ℕ → Parts → ℕ → List Opening
block_opening lines p i = Front (block_front lines p i) ∷ []

-- an entity: its number and its line
abbrev pub entity_front : List ℕ → ℕ → List ℕ
entity_front lines i = codes "ENTITY " ++ decimal i ++ line_part lines i ++ codes " "

abbrev pub entity_opening : List ℕ → ℕ → List Opening
entity_opening lines i = Front (entity_front lines i) ∷ []

-- a user chain: its place among them, and its weight
abbrev pub chain_front : List ℕ → ℕ → List ℕ
chain_front weights i = codes "CHAIN " ++ decimal i ++ weight_part weights i ++ codes " ;"

abbrev pub chain_opening : List ℕ → ℕ → List Opening
chain_opening weights i = Front (chain_front weights i) ∷ []

-- a procedure: its number, and its line, behind which its source stands
abbrev pub procedure_front : ℕ → ℕ → List ℕ
procedure_front i line = codes "PROCEDURE " ++ decimal i ++ codes " line " ++ decimal line ++ codes " | "

abbrev pub procedure_head : ℕ → Option ℕ → Opening
procedure_head i None = Whole (codes "PROCEDURE " ++ decimal i)
procedure_head i (Some line) = Front (procedure_front i line)

-- an instruction: its number
abbrev pub instruction_front : ℕ → List ℕ
instruction_front k = codes "    " ++ decimal k ++ codes " "

abbrev pub instruction_opening : ℕ → List Opening
instruction_opening k = Front (instruction_front k) ∷ []

-- how many arguments a procedure takes
abbrev pub takes_front : ℕ → List ℕ
takes_front arguments = codes "    arguments " ++ decimal arguments ++ codes " "

abbrev pub takes_opening : ℕ → List Opening
takes_opening arguments = Front (takes_front arguments) ∷ []

-- this, and its instructions
abbrev pub code_openings : Option Procedure → List Opening
code_openings None = []
code_openings (Some p) = takes_opening p.arguments ++ openings_below instruction_opening (length p.code)

abbrev pub procedure_openings : List ℕ → List Procedure → ℕ → List Opening
procedure_openings lines procedures i = (procedure_head i (slice_get lines i) ∷ []) ++ code_openings (slice_get procedures i)

-- all procedures
abbrev pub procedures_openings : List ℕ → List Procedure → List Opening
procedures_openings lines procedures = openings_below (procedure_openings lines procedures) (length procedures)

-- a return row: its number
abbrev pub return_front : ℕ → List ℕ
return_front i = codes "RETURN " ++ decimal i ++ codes " blocks"

abbrev pub return_opening : ℕ → List Opening
return_opening i = Front (return_front i) ∷ []

-- the version, where it isn't 1
abbrev pub version_openings : ℕ → List Opening
version_openings version = if version == 1 then [] else Whole (codes "VERSION " ++ decimal version) ∷ []

-- the termination count
abbrev pub start_opening : ℕ → List Opening
start_opening count = Whole (codes "START " ++ decimal count) ∷ []

-- both
abbrev pub first_openings : Parts → List Opening
first_openings p = version_openings p.version ++ start_opening p.count

-- all lines of an object: its version, where it isn't 1, its termination count, its blocks, its entities, its user chains, its procedures, its return rows
abbrev pub openings : Parts → Sites → List Opening
openings p sites =
    version_openings p.version
    ++ start_opening p.count
    ++ openings_below (block_opening sites.blocks p) (length p.blocks)
    ++ openings_below (entity_opening sites.entities) (length p.entities)
    ++ openings_below (chain_opening p.chain_weights) (length p.chain_weights)
    ++ procedures_openings sites.procedures p.procedures
    ++ openings_below return_opening (length p.returns)
