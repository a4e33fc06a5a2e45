-- How a refusal is printed: its code, its name and its place.
use Rattle.std.specs.Prelude.{ℕ, List, [], ◌∷◌, ◌++◌, map, codes, ◌==◌, if◌then◌else◌}
use Rattle.std.specs.Fmt.{decimal}
use Rattle.gw_object.specs.declared.fault.Fault.{Fault}
use Rattle.gw_object.specs.declared.fault.Place.{Place}
use Rattle.gw_object.specs.declared.fault.Place.TheVariants.{Byte, Entity, Code, Row, Block, Edge, Chain, Line, Nowhere}
use Rattle.gw_answers.specs.declared.codes.TheConstants.{SEED, COUNT, BUDGET, JOB_MEMORY}
use Rattle.gw_answers.specs.declared.names.TheConstants.{NAMES}
use Rattle.gw_scan.specs.declared.spec.StartFault.{StartFault}
use Rattle.gw_scan.specs.declared.spec.StartFault.TheVariants.{Seed, Count, Budget, Memory}

-- the name that the first of these rows with a code gives it; "Unknown" where none has it
abbrev pub name_in : List (ℕ × List ℕ) → ℕ → List ℕ
name_in [] code = codes "Unknown"
name_in (row ∷ rows) code = if row.0 == code then row.1 else name_in rows code

-- the name of a code: that of its row of the table, which has all codes
abbrev pub code_name : ℕ → List ℕ
code_name code = name_in (map (λ row. (row.0, row.1.now)) NAMES) code

-- what stands before the numbers of a place: its kind in lower case
abbrev pub place_front : Place → List ℕ
place_front (Byte byte) = codes " at byte "
place_front (Entity entity) = codes " at entity "
place_front (Code procedure instruction) = codes " at code "
place_front (Row row) = codes " at row "
place_front (Block block) = codes " at block "
place_front (Edge from to) = codes " at edge "
place_front (Chain chain) = codes " at chain "
place_front (Line line) = codes " at line "
place_front Nowhere = []

-- the numbers of a place, with a blank between them
abbrev pub place_numbers : Place → List ℕ
place_numbers (Byte byte) = decimal byte
place_numbers (Entity entity) = decimal entity
place_numbers (Code procedure instruction) = decimal procedure ++ codes " " ++ decimal instruction
place_numbers (Row row) = decimal row
place_numbers (Block block) = decimal block
place_numbers (Edge from to) = decimal from ++ codes " " ++ decimal to
place_numbers (Chain chain) = decimal chain
place_numbers (Line line) = decimal line
place_numbers Nowhere = []

-- a place is its kind in lower case, and its numbers
abbrev pub place_text : Place → List ℕ
place_text place = place_front place ++ place_numbers place

-- a refusal: its code, its name, and its place, if it has one
abbrev pub refusal_text : Fault → List ℕ
refusal_text fault = codes "refused " ++ decimal fault.code ++ codes " " ++ code_name fault.code ++ place_text fault.place

abbrev pub refusal_line : Fault → List ℕ
refusal_line fault = refusal_text fault ++ codes "\n"

abbrev pub start_code : StartFault → ℕ
start_code Seed = SEED
start_code Count = COUNT
start_code Budget = BUDGET
start_code Memory = JOB_MEMORY

-- a refusal by a job's making has no place
abbrev pub start_refusal : StartFault → Fault
start_refusal fault = record { code = start_code fault; place = Nowhere }
