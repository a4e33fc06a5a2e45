-- Kinds of PLUS code: what every number in a procedure names.
use Rattle.std.specs.Prelude.{ℕ, List, [], ◌∷◌, Option, Some, None, Bool, true, not, nat_lt, nat_le, ◌&&◌}
use Rattle.gw_object.specs.declared.code.Instruction.{Instruction}
use Rattle.gw_object.specs.declared.code.Instruction.TheVariants.{Get, Set, Value, Back, Call}
use Rattle.gw_object.specs.declared.code.Procedure.{Procedure}
use Rattle.gw_object.specs.declared.fault.Place.TheVariants as places
use Rattle.gw_object.specs.declared.parts.Parts.{Parts}
use Rattle.gw_rules.specs.declared.entities.Named.{Named}
use Rattle.gw_rules.specs.Checks.{Check, check, checks_by_number}
use Rattle.gw_rules.specs.KindsCodes as codes
use Rattle.gw_rules.specs.Kinds.{is_none_or, entity_of, block_of, is_no_other_kind, is_there, is_procedure, is_block}
use Rattle.gw_rules.specs.Sources.{argument_in, as_operand, is_drawn}
use Rattle.gw_object.specs.declared.parts.Entity.{Entity}

-- the entity that an instruction names, if it does
abbrev pub entity_in : Instruction → Option Named
entity_in (Value sna) = entity_of (as_operand sna)
entity_in instruction = None

-- the procedure that an instruction names, if it does
abbrev pub procedure_in : Instruction → Option ℕ
procedure_in (Call q) = Some q
procedure_in instruction = None

-- the block that an instruction names, if it does
abbrev pub block_in : Instruction → Option ℕ
block_in (Value sna) = block_of (as_operand sna)
block_in instruction = None

-- an instruction draws nothing: it reads no function whose argument is drawn
abbrev pub draws_nothing : List Entity → Instruction → Bool
draws_nothing es (Value sna) = not (is_drawn (argument_in es (as_operand sna)))
draws_nothing es instruction = true

-- a local is one of its procedure's, and a jump back is taken from 1 to 1,000,000 times
abbrev pub has_good_numbers : ℕ → Instruction → Bool
has_good_numbers locals (Get local) = nat_lt local locals
has_good_numbers locals (Set local) = nat_lt local locals
has_good_numbers locals (Back b) = nat_le 1 b.count && nat_le b.count 1000000
has_good_numbers locals instruction = true

-- of the instruction k of the procedure n with so many locals: its entity is of the right kind, and it draws nothing
-- (10); that entity and the procedure that is called are there (11), and so is its block (12); its numbers are good
-- (15)
abbrev pub instruction_checks : Parts → ℕ → ℕ → ℕ → Instruction → List Check
instruction_checks p n locals k i =
    check codes.wrong_kind (places.Code n k) (is_none_or (entity_in i) (is_no_other_kind p.entities) && draws_nothing p.entities i)
    ∷ check codes.no_entity (places.Code n k) (is_none_or (entity_in i) (is_there p.entities) && is_none_or (procedure_in i) (is_procedure p.procedures))
    ∷ check codes.no_block (places.Code n k) (is_none_or (block_in i) (is_block p.blocks))
    ∷ check codes.bad_constant (places.Code n k) (has_good_numbers locals i)
    ∷ []

-- of the procedure n: its instructions, in order
abbrev pub procedure_checks : Parts → ℕ → Procedure → List Check
procedure_checks p n procedure = checks_by_number (instruction_checks p n procedure.locals) 0 procedure.code
