-- The object grammar: which parts have a spelling, and which bytes spell them.
use Rattle.std.specs.Prelude.{◌≡◌, ◌≢◌, ◌⊎◌, ℕ, ◌-◌, ◌≤◌, ◌<◌, Bool, true, false, not, IsTrue, ◌==◌, ◌||◌, List, [], ◌∷◌, map, length, slice_get}
use Rattle.std.specs.Prelude.{Option, Some, None, IfSome, nat_lt}
use Rattle.std.specs.List.{All, AllPairs, zip}
use Rattle.std.specs.Int.{w16, w32, w64}
use Rattle.gw_object.specs.Codes as codes
use Rattle.gw_object.specs.Limits.{most_bytes, most_seeds, greatest_seed, greatest_count, most_entities, greatest_units, most_procedures, most_blocks, most_return_rows, greatest_weight, most_parameters}
use Rattle.gw_object.specs.declared.blocks.Units.{Units}
use Rattle.gw_object.specs.declared.parts.TableKind.{TableKind}
use Rattle.gw_object.specs.declared.parts.TableKind.TheVariants.{Num, Ret}
use Rattle.gw_object.specs.declared.parts.TableParameter.{TableParameter}
use Rattle.gw_object.specs.declared.parts.TableState.{TableState}
use Rattle.gw_object.specs.declared.parts.ReturnRow.{ReturnRow}
use Rattle.gw_object.specs.declared.parts.Parts.{Parts}
use Rattle.gw_fields.specs.Fields.{Read, Field, number, as_type, field_with_test, both, and_then, constant, field_that_fits, number_between, optional}
use Rattle.gw_fields.specs.Fields.{Form, behind, by_tag, nothing, Element, plain, last_tested, ascending_element, above_last, elements, list_of}
use Rattle.gw_object.specs.CodeGrammar.{ProcedureFits, NeedsAscend, procedure}
use Rattle.gw_object.specs.Entities.{entity, EntityFits, EntityAscends, IsLettered, AreNamesakes, chains_in}
use Rattle.gw_object.specs.BlockGrammar.{entity_number, block_number, parameter_number, IsOfVersion, BlockFits, block}

-- ---- what stands for each block

-- the blocks of a return row, each above the one before it
abbrev pub return_block : Element ℕ
return_block = above_last block_number

-- the number of blocks, and each block's number, are within limits
pub record ReturnRowFits (row : ReturnRow) : Type 0 where
  pub least : 1 ≤ length row.blocks
  pub most : length row.blocks ≤ most_blocks
  pub each : All block_number.Fits row.blocks

-- the blocks ascend
abbrev pub AreAscending : ReturnRow → Type 0
AreAscending row = AllPairs (λ a b. a < b) row.blocks

-- a return row: at least one block
unfoldable pub return_row : Field ReturnRow
return_row = field_that_fits (λ row. ReturnRowFits row × AreAscending row)
    (as_type (λ blocks. record { blocks = blocks }) (λ row. row.blocks) (list_of 1 most_blocks return_block))

-- a return row's number
abbrev pub row_number : Field ℕ
row_number = number w16

-- what a parameter holds fits
abbrev pub TableKindFits : TableKind → Type 0
TableKindFits Num = Unit {0}
TableKindFits (Ret row) = row_number.Fits row

-- the tag, and the value behind it
abbrev pub table_kind_spelling : TableKind → List ℕ
table_kind_spelling Num = 0 ∷ []
table_kind_spelling (Ret row) = 1 ∷ row_number.spell row

-- what a parameter may hold
abbrev pub table_kind_forms : List (Form TableKind)
table_kind_forms = behind 0 (λ _. Num) nothing ∷ behind 1 (λ row. Ret row) row_number ∷ []

-- by its tag; another tag is a fault
unfoldable pub table_kind_read : List ℕ → Read TableKind
table_kind_read = by_tag table_kind_forms

-- what a parameter holds
abbrev pub table_kind : Field TableKind
table_kind = record { spell = table_kind_spelling; read = table_kind_read; Fits = TableKindFits }

-- the parameter's number and what it holds fit
pub record ParameterFits (p : TableParameter) : Type 0 where
  pub number : parameter_number.Fits p.number
  pub kind : TableKindFits p.kind

-- a parameter that is set, above the one before it
abbrev pub parameter : Element TableParameter
parameter = ascending_element nat_lt (λ (n, kind). record { number = n; kind = kind }) (λ p. (p.number, p.kind)) parameter_number table_kind

-- a facility that a transaction owns, above the one before it
abbrev pub owned_facility : Element ℕ
owned_facility = above_last entity_number

-- units that a transaction holds, of an entity above the one before it
abbrev pub held_units : Element Units
held_units = ascending_element nat_lt (λ (entity, n). record { entity = entity; number = n }) (λ u. (u.entity, u.number)) entity_number
    (number_between 1 greatest_units (number w32))

-- the entity's number fits, and the number of units is within limits
pub record HeldFits (u : Units) : Type 0 where
  pub entity : entity_number.Fits u.entity
  pub least : 1 ≤ u.number
  pub most : u.number ≤ greatest_units

-- the parameters, facilities and units are within limits
pub record StateFits (s : TableState) : Type 0 where
  pub parameters : length s.parameters ≤ most_parameters
  pub each_parameter : All ParameterFits s.parameters
  pub facilities : length s.facilities ≤ most_entities
  pub each_facility : All entity_number.Fits s.facilities
  pub units : length s.units ≤ most_entities
  pub each_unit : All HeldFits s.units

-- the numbers of the parameters, the facilities, and the entities of the units ascend
pub record IsAscending (s : TableState) : Type 0 where
  pub parameters : AllPairs (λ (a b : TableParameter). a.number < b.number) s.parameters
  pub facilities : AllPairs (λ a b. a < b) s.facilities
  pub units : AllPairs (λ (a b : Units). a.entity < b.entity) s.units

-- parameters, facilities and units
unfoldable pub state : Field TableState
state = field_that_fits (λ s. StateFits s × IsAscending s) (as_type
    (λ (parameters, (facilities, units)). record { parameters = parameters; facilities = facilities; units = units })
    (λ s. (s.parameters, (s.facilities, s.units)))
    (both (list_of 0 most_parameters parameter) (both (list_of 0 most_entities owned_facility) (list_of 0 most_entities held_units))))

-- a certified weight
abbrev pub weight : Field ℕ
weight = number_between 1 greatest_weight (number w32)

-- so many rows of the state table
abbrev pub rows : ℕ → Field (List (Option TableState))
rows n = elements (plain (optional state)) n

-- a slope: the number of a parameter, and how much a weight grows with each unit of its value above 0
abbrev pub parameter_slope : Field (ℕ × ℕ)
parameter_slope = both parameter_number (number_between 1 greatest_weight (number w32))

-- no slope, as this field tells it
abbrev pub no_slope : Field (Unit {0}) → Field (Option (ℕ × ℕ))
no_slope f = field_that_fits (λ slope. slope ≡ None) (as_type (λ _. None) (λ _. tt) f)

-- whether a slope stands behind each weight of a block: not in version 1
abbrev pub has_slopes : ℕ → Bool
has_slopes version = not (version == 1)

-- the slope of a block's weight, if it has one: 00, or 01 and the slope, where slopes stand behind weights; else no byte
abbrev pub slope_where : Bool → Field (Option (ℕ × ℕ))
slope_where true = optional parameter_slope
slope_where false = no_slope nothing

-- the slope of a block's weight, by the version
abbrev pub slope : ℕ → Field (Option (ℕ × ℕ))
slope version = slope_where (has_slopes version)

-- a block's weight, and behind it its slope
abbrev pub sloped_weight : ℕ → Field (ℕ × Option (ℕ × ℕ))
sloped_weight version = both weight (slope version)

-- so many weights within limits, and as many slopes that the version has
pub record CertificateFits (version n : ℕ) (x : List ℕ × List (Option (ℕ × ℕ))) : Type 0 where
  pub weights : length x.0 ≡ n
  pub each_weight : All weight.Fits x.0
  pub slopes : length x.1 ≡ n
  pub each_slope : All (slope version).Fits x.1

-- the weights and the slopes of so many blocks
abbrev pub certificate : ℕ → ℕ → Field (List ℕ × List (Option (ℕ × ℕ)))
certificate version n = field_that_fits (CertificateFits version n)
    (as_type (λ xs. (map (λ x. x.0) xs, map (λ x. x.1) xs)) (λ x. zip x.0 x.1) (elements (plain (sloped_weight version)) n))

-- the weights of so many user chains
abbrev pub chain_certificate : ℕ → Field (List ℕ)
chain_certificate n = elements (plain weight) n

-- the return rows, for each of so many blocks and each of so many user chains its row of the state table, and for each its weight, with the blocks' slopes
unfoldable pub tables : ℕ → ℕ → ℕ
    → Field (List ReturnRow × (List (Option TableState) × (List (Option TableState) × ((List ℕ × List (Option (ℕ × ℕ))) × List ℕ))))
tables version blocks chains =
    both (list_of 0 most_return_rows (plain return_row))
    (both (rows blocks) (both (rows chains) (both (certificate version blocks) (chain_certificate chains))))

-- ---- the object

-- whether a number is that of a version
abbrev pub is_version : ℕ → Bool
is_version n = n == 1 || n == 2

-- the version's number
abbrev pub version_number : Field ℕ
version_number = field_that_fits (λ n. IsTrue (is_version n)) (field_with_test is_version codes.version (number w16))

-- the letters GPSO and the version
unfoldable pub head : Field (Unit {0} × ℕ)
head = both (constant 0x4750_534f codes.magic (number w32)) version_number

-- a seed; the last isn't 0
abbrev pub seed : Element ℕ
seed = last_tested (nat_lt 0) codes.not_canonical (number_between 0 greatest_seed (number w32))

-- the termination count
abbrev pub start_count : Field ℕ
start_count = number_between 1 greatest_count (number w64)

-- the head, seeds, termination count, entities, procedures, blocks, and what stands for each block and each user chain
unfoldable pub object : Field Parts
object = as_type
    (λ ((_, version), (seeds, (count, (entities, (procedures, (blocks, (returns, (states, (chain_states, ((weights, slopes), chain_weights)))))))))).
    record {
      version = version;
      seeds = seeds;
      count = count;
      entities = entities;
      procedures = procedures;
      blocks = blocks;
      returns = returns;
      states = states;
      chain_states = chain_states;
      weights = weights;
      slopes = slopes;
      chain_weights = chain_weights;
    })
    (λ p. (
      (tt, p.version),
      (
        p.seeds,
        (p.count, (p.entities, (p.procedures, (p.blocks, (p.returns, (p.states, (p.chain_states, ((p.weights, p.slopes), p.chain_weights)))))))),
      ),
    ))
    (and_then head (λ head. both (list_of 0 most_seeds seed)
    (both start_count (and_then (list_of 0 most_entities entity) (λ entities. both (list_of 0 most_procedures (plain procedure))
    (and_then (list_of 0 most_blocks (plain (block head.1))) (λ blocks. tables head.1 (length blocks) (chains_in entities))))))))

-- the bytes that spell parts
unfoldable pub spelling : Parts → List ℕ
spelling p = object.spell p

-- ---- the rules of parts, by the code of their breach

-- the version has this slope of a weight
abbrev pub IsSlopeOfVersion : ℕ → Option (ℕ × ℕ) → Type 0
IsSlopeOfVersion version slope = IfSome slope (λ s. IsTrue (has_slopes version))

-- the number of a slope's parameter, and how much a weight grows with it, are within limits
pub record SlopeFits (slope : ℕ × ℕ) : Type 0 where
  pub parameter : parameter_number.Fits slope.0
  pub least : 1 ≤ slope.1
  pub most : slope.1 ≤ greatest_weight

-- 4: the version, each byte of a name and the tag of each block are among those that their fields list, and the version has each slope
pub record HasLetters (p : Parts) : Type 0 where
  pub version : IsTrue (is_version p.version)
  pub names : All IsLettered p.entities
  pub blocks : All (IsOfVersion p.version) p.blocks
  pub slopes : All (IsSlopeOfVersion p.version) p.slopes

-- 5: parts keep the limits of the format
pub record IsWithinLimits (p : Parts) : Type 0 where
  pub seeds : length p.seeds ≤ most_seeds
  pub each_seed : All (λ seed. seed ≤ greatest_seed) p.seeds
  pub count_least : 1 ≤ p.count
  pub count_most : p.count ≤ greatest_count
  pub entities : length p.entities ≤ most_entities
  pub each_entity : All EntityFits p.entities
  pub procedures : length p.procedures ≤ most_procedures
  pub each_procedure : All ProcedureFits p.procedures
  pub blocks : length p.blocks ≤ most_blocks
  pub each_block : All BlockFits p.blocks
  pub returns : length p.returns ≤ most_return_rows
  pub each_return : All ReturnRowFits p.returns
  pub states : length p.states ≡ length p.blocks
  pub each_state : All (λ row. IfSome row StateFits) p.states
  pub chain_states : length p.chain_states ≡ chains_in p.entities
  pub each_chain_state : All (λ row. IfSome row StateFits) p.chain_states
  pub weights : length p.weights ≡ length p.blocks
  pub each_weight : All (λ weight. (1 ≤ weight) × (weight ≤ greatest_weight)) p.weights
  pub slopes : length p.slopes ≡ length p.blocks
  pub each_slope : All (λ slope. IfSome slope SlopeFits) p.slopes
  pub chain_weights : length p.chain_weights ≡ chains_in p.entities
  pub each_chain_weight : All (λ weight. (1 ≤ weight) × (weight ≤ greatest_weight)) p.chain_weights
  pub size : length (spelling p) ≤ most_bytes

-- 6: parts are the one form of what they say
pub record IsCanonical (p : Parts) : Type 0 where
  pub last_seed : slice_get p.seeds (length p.seeds - 1) ≢ Some 0
  pub own_names : AllPairs (λ a b. ¬ AreNamesakes a b) p.entities
  pub each_entity : All EntityAscends p.entities
  pub each_procedure : All NeedsAscend p.procedures
  pub each_return : All AreAscending p.returns
  pub each_state : All (λ row. IfSome row IsAscending) p.states
  pub each_chain_state : All (λ row. IfSome row IsAscending) p.chain_states

-- parts have a spelling
pub record HasSpelling (p : Parts) : Type 0 where
  pub letters : HasLetters p
  pub limits : IsWithinLimits p
  pub canonical : IsCanonical p

-- the code of parts that have no spelling: the lowest that applies anywhere in them
abbrev pub Refuses : ℕ → Parts → Type 0
Refuses code p =
    ((code ≡ codes.tag) × ¬ HasLetters p)
    ⊎ ((code ≡ codes.limit) × HasLetters p × ¬ IsWithinLimits p)
    ⊎ ((code ≡ codes.not_canonical) × HasLetters p × IsWithinLimits p × ¬ IsCanonical p)

-- these bytes spell these parts
pub record Spells (bytes : List ℕ) (p : Parts) : Type 0 where
  pub fits : HasSpelling p
  pub is : bytes ≡ spelling p
