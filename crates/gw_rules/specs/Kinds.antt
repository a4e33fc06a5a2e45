-- Kinds: what every number in an object names.
use Rattle.std.specs.Prelude.{ℕ, zero, suc, ◌+◌, ◌^◌, pos, List, [], ◌∷◌, ◌++◌, length, map, filter_map, take, Option, Some, None, is_some, Bool}
use Rattle.std.specs.Prelude.{true, false, if◌then◌else◌, not, ◌&&◌, nat_lt, nat_le, ◌==◌, int_le, slice_get}
use Rattle.std.specs.Option.{option_map, option_map_or, option_flatten}
use Rattle.std.specs.List.{list_all, cons_option}
use Rattle.gw_object.specs.declared.fault.Place.{Place}
use Rattle.gw_object.specs.declared.fault.Place.TheVariants as places
use Rattle.gw_object.specs.declared.parts.Kind.{Kind}
use Rattle.gw_object.specs.declared.parts.Kind.TheVariants as kinds
use Rattle.gw_object.specs.declared.parts.Entity.{Entity}
use Rattle.gw_object.specs.declared.blocks.EntityAttribute.{EntityAttribute}
use Rattle.gw_object.specs.declared.blocks.EntityAttribute.TheVariants.{FacilityOwned, StorageContent, StorageRemaining, QueueContent, SavevalueValue, SwitchSetting, ChainMembers, VariableValue, BooleanValue, FunctionValue, BlockEntries, BlockCount}
use Rattle.gw_object.specs.declared.blocks.Numbered.{Numbered}
use Rattle.gw_object.specs.declared.blocks.Operand.{Operand}
use Rattle.gw_object.specs.declared.blocks.Operand.TheVariants.{OfEntity}
use Rattle.gw_object.specs.declared.blocks.Units.{Units}
use Rattle.gw_object.specs.declared.blocks.Condition.{Condition}
use Rattle.gw_object.specs.declared.blocks.Condition.TheVariants.{SwitchSet, SwitchReset, FacilityInUse, FacilityNotInUse}
use Rattle.gw_object.specs.declared.blocks.Block.{Block}
use Rattle.gw_object.specs.declared.blocks.Block.TheVariants as blocks
use Rattle.gw_object.specs.declared.parts.TableKind.{TableKind}
use Rattle.gw_object.specs.declared.parts.TableKind.TheVariants.{Num, Ret}
use Rattle.gw_object.specs.declared.parts.TableParameter.{TableParameter}
use Rattle.gw_object.specs.declared.parts.TableState.{TableState}
use Rattle.gw_object.specs.declared.parts.ReturnRow.{ReturnRow}
use Rattle.gw_object.specs.declared.parts.Parts.{Parts}
use Rattle.gw_object.specs.Entities.{is_chain, chains_in}
use Rattle.gw_rules.specs.declared.entities.EntityKind.{EntityKind}
use Rattle.gw_rules.specs.declared.entities.EntityKind.TheVariants.{Facility, Storage, Queue, Switch, Savevalue, Table, Chain, Variable, BooleanVariable, Function, StorageOrQueue}
use Rattle.gw_rules.specs.declared.entities.Named.{Named}
use Rattle.gw_rules.specs.declared.ways.Way.{Way}
use Rattle.gw_rules.specs.declared.ways.Way.TheVariants.{Falls, Goes}
use Rattle.gw_rules.specs.Checks.{Check, check}
use Rattle.gw_object.specs.declared.code.Procedure.{Procedure}
use Rattle.gw_rules.specs.KindsCodes as codes
use Rattle.gw_rules.specs.Sources.{kind_at, operand_of, values, procedure_named, is_function_value}
use Rattle.gw_rules.specs.Exits.{leads_to, is_call, ways}

-- whether there is none, or one that passes a test
abbrev pub is_none_or : {A : Type 0} → Option A → (A → Bool) → Bool
is_none_or None test = true
is_none_or (Some x) test = test x

-- ENTITIES

-- whether an entity is what it is needed as
abbrev pub serves_as : EntityKind → Kind → Bool
serves_as Facility kinds.Facility = true
serves_as Storage (kinds.Storage capacity) = true
serves_as Queue kinds.Queue = true
serves_as Switch (kinds.Switch set) = true
serves_as Savevalue (kinds.Savevalue value) = true
serves_as Table (kinds.Table t) = true
serves_as Chain kinds.Chain = true
serves_as Variable (kinds.Variable q) = true
serves_as BooleanVariable (kinds.BooleanVariable q) = true
serves_as Function (kinds.Function f) = true
serves_as StorageOrQueue (kinds.Storage capacity) = true
serves_as StorageOrQueue kinds.Queue = true
serves_as needed kind = false

-- an entity is named by its number, and needed as one of this kind
abbrev pub needs : EntityKind → ℕ → Named
needs needed e = record { needed = needed; entity = e }

-- what an attribute needs its entity to be; an attribute of a block needs none
abbrev pub needed_for : EntityAttribute → Option EntityKind
needed_for FacilityOwned = Some Facility
needed_for StorageContent = Some Storage
needed_for StorageRemaining = Some Storage
needed_for QueueContent = Some Queue
needed_for SavevalueValue = Some Savevalue
needed_for SwitchSetting = Some Switch
needed_for ChainMembers = Some Chain
needed_for VariableValue = Some Variable
needed_for BooleanValue = Some BooleanVariable
needed_for FunctionValue = Some Function
needed_for BlockEntries = None
needed_for BlockCount = None

-- the entity that an attribute with a number names, if it does
abbrev pub entity_named : Numbered → Option Named
entity_named a = option_map (λ needed. needs needed a.number) (needed_for a.attribute)

-- the entity that an operand names, if it does
abbrev pub entity_of : Operand → Option Named
entity_of (OfEntity a) = entity_named a
entity_of operand = None

-- what a condition needs its entity to be
abbrev pub needed_by : Condition → EntityKind
needed_by SwitchSet = Switch
needed_by SwitchReset = Switch
needed_by FacilityInUse = Facility
needed_by FacilityNotInUse = Facility
needed_by condition = Storage

-- the entity that a block itself names, if it does
abbrev pub own_entity : Block → Option Named
own_entity (blocks.Seize f) = Some (needs Facility f)
own_entity (blocks.Release f) = Some (needs Facility f)
own_entity (blocks.Enter u) = Some (needs Storage u.entity)
own_entity (blocks.Leave u) = Some (needs Storage u.entity)
own_entity (blocks.Queue u) = Some (needs Queue u.entity)
own_entity (blocks.Depart u) = Some (needs Queue u.entity)
own_entity (blocks.Gate g) = Some (needs (needed_by g.condition) g.entity)
own_entity (blocks.Link l) = Some (needs Chain l.chain)
own_entity (blocks.Unlink u) = Some (needs Chain u.chain)
own_entity (blocks.Logic l) = Some (needs Switch l.switch)
own_entity (blocks.Savevalue s) = Some (needs Savevalue s.savevalue)
own_entity (blocks.Tabulate t) = Some (needs Table t)
own_entity block = None

-- the entities that operands name, in order
abbrev pub entities_of : List Operand → List Named
entities_of operands = filter_map entity_of operands

-- the entities that a block names, in order: its own, and then those of its values
abbrev pub named_entities : Block → List Named
named_entities block = cons_option (own_entity block) (entities_of (values block))

-- the entities that a row of the state table names: the facilities that are owned, and then the storages and queues in which units are held
abbrev pub entities_of_row : TableState → List Named
entities_of_row row = map (needs Facility) row.facilities ++ map (λ (u : Units). needs StorageOrQueue u.entity) row.units

-- the return row that a kind names, if it does
abbrev pub return_row_of : TableKind → Option ℕ
return_row_of Num = None
return_row_of (Ret r) = Some r

-- the return rows that a row of the state table names
abbrev pub return_rows_of : TableState → List ℕ
return_rows_of row = filter_map (λ (q : TableParameter). return_row_of q.kind) row.parameters

-- an entity is of no other kind than what it is needed as; one that isn't there is of none
abbrev pub is_no_other_kind : List Entity → Named → Bool
is_no_other_kind es named = is_none_or (kind_at es named.entity) (serves_as named.needed)

-- an entity is there
abbrev pub is_there : List Entity → Named → Bool
is_there es named = nat_lt named.entity (length es)

-- none of these entities is of another kind than what it is needed as
abbrev pub names_no_other_kind : List Entity → List Named → Bool
names_no_other_kind es named = list_all (is_no_other_kind es) named

-- these entities are there
abbrev pub are_there : List Entity → List Named → Bool
are_there es named = list_all (is_there es) named

-- PROCEDURES

-- a procedure that is called without arguments takes none; one that isn't there has no say
abbrev pub takes_no_arguments : List Procedure → ℕ → Bool
takes_no_arguments ps q = is_none_or (slice_get ps q) (λ (pr : Procedure). pr.arguments == 0)

-- a procedure is there
abbrev pub is_procedure : List Procedure → ℕ → Bool
is_procedure ps q = nat_lt q (length ps)

-- the procedures that the values of a block call, in order
abbrev pub named_procedures : Block → List ℕ
named_procedures block = filter_map procedure_named (values block)

-- none of them takes arguments
abbrev pub calls_without_arguments : List Procedure → Block → Bool
calls_without_arguments ps block = list_all (takes_no_arguments ps) (named_procedures block)

-- they are there
abbrev pub called_are_there : List Procedure → Block → Bool
called_are_there ps block = list_all (is_procedure ps) (named_procedures block)

-- BLOCKS

-- the block of a number; blocks count from 1
abbrev pub block_at : List Block → ℕ → Option Block
block_at bs zero = None
block_at bs (suc i) = slice_get bs i

-- whether a block is there, and a GENERATE
abbrev pub is_generate : Option Block → Bool
is_generate (Some (blocks.Generate g)) = true
is_generate other = false

-- the number by which a way leads to a block, if it does by a number
abbrev pub number_of : Way → Option ℕ
number_of Falls = None
number_of (Goes target) = Some target

-- the block that an attribute with a number names, if it does: that of an attribute that needs no entity
abbrev pub block_named : Numbered → Option ℕ
block_named a = if is_some (needed_for a.attribute) then None else Some a.number

-- the block that an operand names, if it does
abbrev pub block_of : Operand → Option ℕ
block_of (OfEntity a) = block_named a
block_of operand = None

-- the blocks that a block names by their numbers, in order: those to which it sends transactions, and then those of its values
abbrev pub named_blocks : Block → List ℕ
named_blocks block = filter_map number_of (ways block) ++ filter_map block_of (values block)

-- a block is there
abbrev pub is_block : List Block → ℕ → Bool
is_block bs b = is_some (block_at bs b)

-- the blocks that a block names are there
abbrev pub has_named_blocks : List Block → Block → Bool
has_named_blocks bs block = list_all (is_block bs) (named_blocks block)

-- a way from the block of number b leads to no GENERATE
abbrev pub leads_to_no_generate : List Block → ℕ → Way → Bool
leads_to_no_generate bs b way = not (is_generate (block_at bs (leads_to b way)))

-- no way on from the block of number b leads to a GENERATE
abbrev pub enters_no_generate : List Block → ℕ → Block → Bool
enters_no_generate bs b block = list_all (leads_to_no_generate bs b) (ways block)

-- a way falls from the block of number b to a block that is there, if it falls
abbrev pub stays_inside : List Block → ℕ → Way → Bool
stays_inside bs b Falls = is_some (block_at bs (b + 1))
stays_inside bs b (Goes target) = true

-- no way on from the block of number b falls off the last block
abbrev pub never_falls_off : List Block → ℕ → Block → Bool
never_falls_off bs b block = list_all (stays_inside bs b) (ways block)

-- RETURN ROWS

-- whether there is a block of this number, and it calls a subroutine
abbrev pub is_call_at : List Block → ℕ → Bool
is_call_at bs b = option_map_or is_call (block_at bs b) false

-- each block of a return row is there, and calls a subroutine
abbrev pub names_calls : List Block → ReturnRow → Bool
names_calls bs row = list_all (is_call_at bs) row.blocks

-- the return rows that a row of the state table names are there
abbrev pub has_return_rows : List ReturnRow → TableState → Bool
has_return_rows rows row = list_all (λ r. nat_lt r (length rows)) (return_rows_of row)

-- OPERANDS

-- an operand names no entity of another kind than what it needs, and calls no procedure that takes arguments
abbrev pub names_well : Parts → Operand → Bool
names_well p o = is_none_or (entity_of o) (is_no_other_kind p.entities) && is_none_or (procedure_named o) (takes_no_arguments p.procedures)

-- the entity that an operand names and the procedure that it calls are there
abbrev pub names_what_is_there : Parts → Operand → Bool
names_what_is_there p o = is_none_or (entity_of o) (is_there p.entities) && is_none_or (procedure_named o) (is_procedure p.procedures)

-- the block that an operand names is there
abbrev pub names_a_block : Parts → Operand → Bool
names_a_block p o = is_none_or (block_of o) (is_block p.blocks)

-- the argument of a function isn't a function's value itself
abbrev pub has_plain_argument : Kind → Bool
has_plain_argument (kinds.Function f) = not (is_function_value f.argument)
has_plain_argument kind = true

-- half the range of a time isn't a function's value: that would stand for a factor of the mean
abbrev pub has_plain_half : Block → Bool
has_plain_half (blocks.Generate g) = not (is_function_value g.interval.half)
has_plain_half (blocks.Advance time) = not (is_function_value time.half)
has_plain_half block = true

-- CONSTANTS

-- a block moves from 1 to 2^20 units
abbrev pub are_units : ℕ → Bool
are_units n = nat_le 1 n && nat_le n (2 ^ 20)

-- a first arrival isn't before clock 0, a limit of arrivals isn't 0, units are within their range, a fraction is at
-- most the whole, an assembly set isn't empty, and a limit of those who are taken from a user chain isn't 0
abbrev pub has_good_constants : Block → Bool
has_good_constants (blocks.Generate g) = is_none_or g.first (int_le (pos 0)) && is_none_or g.limit (nat_lt 0)
has_good_constants (blocks.Enter u) = are_units u.number
has_good_constants (blocks.Leave u) = are_units u.number
has_good_constants (blocks.Queue u) = are_units u.number
has_good_constants (blocks.Depart u) = are_units u.number
has_good_constants (blocks.TransferByFraction f) = nat_le f.thousandths 1000
has_good_constants (blocks.Assemble size) = nat_lt 0 size
has_good_constants (blocks.Unlink u) = is_none_or u.most (nat_lt 0)
has_good_constants block = true

-- THE CHECKS

-- of the entity of number e, by the operand that is evaluated for it: that names an entity of the right kind, calls no
-- procedure with arguments, and is no function's value where it is a function's argument (10); the entity and the
-- procedure are there (11), and so is the block (12)
abbrev pub entity_checks : Parts → ℕ → Entity → List Check
entity_checks p e entity =
    check codes.wrong_kind (places.Entity e) (is_none_or (operand_of entity.kind) (names_well p) && has_plain_argument entity.kind)
    ∷ check codes.no_entity (places.Entity e) (is_none_or (operand_of entity.kind) (names_what_is_there p))
    ∷ check codes.no_block (places.Entity e) (is_none_or (operand_of entity.kind) (names_a_block p))
    ∷ []

-- USER CHAINS

-- how many user chains come before the entity of a number: where its row and its weight stand among those of all, if it is one itself
abbrev pub chain_place : List Entity → ℕ → ℕ
chain_place es e = chains_in (take e es)

-- what stands for the user chain that is the entity of a number, among what stands for each of them in order
abbrev pub for_chain : {X : Type 0} → List Entity → List (Option X) → ℕ → Option X
for_chain es xs e = option_flatten (slice_get xs (chain_place es e))

-- the row of the state table of the user chain that is the entity of a number, if it has one
abbrev pub chain_row : Parts → ℕ → Option TableState
chain_row p e = for_chain p.entities p.chain_states e

-- the blocks of the return row of number r are there and call subroutines (10)
abbrev pub return_checks : Parts → ℕ → ReturnRow → List Check
return_checks p r row = check codes.wrong_kind (places.Row r) (names_calls p.blocks row) ∷ []

-- the entities of a row of the state table at this place are of the right kinds (10), and they and its return rows are there (11)
abbrev pub row_checks : Parts → Place → Option TableState → List Check
row_checks p place None = []
row_checks p place (Some row) =
    check codes.wrong_kind place (names_no_other_kind p.entities (entities_of_row row))
    ∷ check codes.no_entity place (are_there p.entities (entities_of_row row) && has_return_rows p.returns row)
    ∷ []

-- of the entity of number e, if it is a user chain: its row of the state table
abbrev pub chain_checks : Parts → ℕ → Entity → List Check
chain_checks p e entity = if is_chain entity.kind then row_checks p (places.Chain e) (chain_row p e) else []

-- the blocks that the block of number b names are there (12), and it goes on to no GENERATE (13) and not after the last block (14)
abbrev pub exit_checks : List Block → ℕ → Block → List Check
exit_checks bs b block =
    check codes.no_block (places.Block b) (has_named_blocks bs block)
    ∷ check codes.enters_generate (places.Block b) (enters_no_generate bs b block)
    ∷ check codes.falls_off (places.Block b) (never_falls_off bs b block)
    ∷ []

-- its constants are good (15)
abbrev pub constant_checks : ℕ → Block → List Check
constant_checks b block = check codes.bad_constant (places.Block b) (has_good_constants block) ∷ []

-- the block of number b names entities of the right kinds, calls no procedure with arguments, and has no function's
-- value as half the range of a time (10); the entities and procedures are there (11)
abbrev pub naming_checks : Parts → ℕ → Block → List Check
naming_checks p b block =
    check codes.wrong_kind (places.Block b)
    (names_no_other_kind p.entities (named_entities block) && calls_without_arguments p.procedures block && has_plain_half block)
    ∷ check codes.no_entity (places.Block b) (are_there p.entities (named_entities block) && called_are_there p.procedures block)
    ∷ []

-- of the block of number b: what it names, its exits and its constants
abbrev pub block_checks : Parts → ℕ → Block → List Check
block_checks p b block = naming_checks p b block ++ exit_checks p.blocks b block ++ constant_checks b block
