-- The derived `==` of entities, of rows of the state table, and of the parts of objects answers true only for equal values.
use Rattle.gw_equality.specs.Same.{TellsApart, same_entity, same_state, same_parts}
use Rattle.gw_equality.proofs.Fields.{OnlyEqual, apart, nat_only, int_only, bool_only, option_only, list_only, of_fields, ◌⊗◌, ◌⊕◌, bare, no_more, of_choices}
use Rattle.gw_equality.proofs.Blocks.{operand_only, units_only, block_only}
use Rattle.gw_equality.proofs.Procedures.{procedure_only}
use Rattle.gw_object.specs.declared.parts.Entity.{Entity}
use Rattle.gw_object.specs.declared.parts.Function.{Function}
use Rattle.gw_object.specs.declared.parts.Parts.{Parts}
use Rattle.gw_object.specs.declared.parts.Point.{Point}
use Rattle.gw_object.specs.declared.parts.ReturnRow.{ReturnRow}
use Rattle.gw_object.specs.declared.parts.Table.{Table}
use Rattle.gw_object.specs.declared.parts.TableParameter.{TableParameter}
use Rattle.gw_object.specs.declared.parts.TableState.{TableState}
use Rattle.gw_object.specs.contracts.parts.TablePartialEq.TheImpl as table_eq
use Rattle.gw_object.specs.contracts.parts.PointPartialEq.TheImpl as point_eq
use Rattle.gw_object.specs.contracts.parts.FunctionPartialEq.TheImpl as function_eq
use Rattle.gw_object.specs.contracts.parts.KindPartialEq.TheImpl as kind_eq
use Rattle.gw_object.specs.contracts.parts.Kind as kind_type
use Rattle.gw_object.specs.contracts.parts.EntityPartialEq.TheImpl as entity_eq
use Rattle.gw_object.specs.contracts.parts.TableKindPartialEq.TheImpl as table_kind_eq
use Rattle.gw_object.specs.contracts.parts.TableKind as table_kind_type
use Rattle.gw_object.specs.contracts.parts.TableParameterPartialEq.TheImpl as table_parameter_eq
use Rattle.gw_object.specs.contracts.parts.ReturnRowPartialEq.TheImpl as return_row_eq
use Rattle.gw_object.specs.contracts.parts.TableStatePartialEq.TheImpl as table_state_eq
use Rattle.gw_object.specs.contracts.parts.PartsPartialEq.TheImpl as parts_eq
use Rattle.gw_object.specs.contracts.parts.EntityEq.TheImpl.Laws as entity_laws
use Rattle.gw_object.specs.contracts.parts.TableStateEq.TheImpl.Laws as state_laws
use Rattle.gw_object.specs.contracts.parts.PartsEq.TheImpl.Laws as parts_laws

-- ENTITIES

pub table_only : OnlyEqual table_eq.ghosts.eq
table_only = of_fields (λ (x : Table). (x.argument, (x.limit, (x.width, x.classes))))
    (λ f. record { argument = f.0; limit = f.1.0; width = f.1.1.0; classes = f.1.1.1 }) (λ x i. x) (operand_only ⊗ int_only ⊗ nat_only ⊗ nat_only)

pub point_only : OnlyEqual point_eq.ghosts.eq
point_only = of_fields (λ (x : Point). (x.x, x.y)) (λ f. record { x = f.0; y = f.1 }) (λ x i. x) (int_only ⊗ int_only)

pub function_only : OnlyEqual function_eq.ghosts.eq
function_only = of_fields (λ (x : Function). (x.argument, x.points)) (λ f. record { argument = f.0; points = f.1 }) (λ x i. x)
    (operand_only ⊗ list_only point_only)

pub kind_only : OnlyEqual kind_eq.ghosts.eq
kind_only = of_choices kind_type.enum (bare (nat_only ⊕ bare (bool_only ⊕ int_only ⊕ table_only ⊕ bare (nat_only ⊕ nat_only ⊕ function_only ⊕ no_more))))

pub entity_only : OnlyEqual entity_eq.ghosts.eq
entity_only = of_fields (λ (x : Entity). (x.name, x.kind)) (λ f. record { name = f.0; kind = f.1 }) (λ x i. x) (list_only nat_only ⊗ kind_only)

pub entity_apart : TellsApart same_entity
entity_apart = apart entity_laws.laws-law entity_only

-- ROWS OF THE STATE TABLE

pub table_kind_only : OnlyEqual table_kind_eq.ghosts.eq
table_kind_only = of_choices table_kind_type.enum (bare (nat_only ⊕ no_more))

pub table_parameter_only : OnlyEqual table_parameter_eq.ghosts.eq
table_parameter_only = of_fields (λ (x : TableParameter). (x.number, x.kind)) (λ f. record { number = f.0; kind = f.1 }) (λ x i. x) (nat_only ⊗ table_kind_only)

pub return_row_only : OnlyEqual return_row_eq.ghosts.eq
return_row_only = of_fields (λ (x : ReturnRow). x.blocks) (λ f. record { blocks = f }) (λ x i. x) (list_only nat_only)

pub table_state_only : OnlyEqual table_state_eq.ghosts.eq
table_state_only = of_fields (λ (x : TableState). (x.parameters, (x.facilities, x.units)))
    (λ f. record { parameters = f.0; facilities = f.1.0; units = f.1.1 }) (λ x i. x)
    (list_only table_parameter_only ⊗ list_only nat_only ⊗ list_only units_only)

pub state_apart : TellsApart same_state
state_apart = apart state_laws.laws-law table_state_only

-- PARTS

pub parts_only : OnlyEqual parts_eq.ghosts.eq
parts_only = of_fields
    (λ (x : Parts). (
      x.version,
      (x.seeds, (x.count, (x.entities, (x.procedures, (x.blocks, (x.returns, (x.states, (x.chain_states, (x.weights, (x.slopes, x.chain_weights)))))))))),
    ))
    (λ f. record {
      version = f.0;
      seeds = f.1.0;
      count = f.1.1.0;
      entities = f.1.1.1.0;
      procedures = f.1.1.1.1.0;
      blocks = f.1.1.1.1.1.0;
      returns = f.1.1.1.1.1.1.0;
      states = f.1.1.1.1.1.1.1.0;
      chain_states = f.1.1.1.1.1.1.1.1.0;
      weights = f.1.1.1.1.1.1.1.1.1.0;
      slopes = f.1.1.1.1.1.1.1.1.1.1.0;
      chain_weights = f.1.1.1.1.1.1.1.1.1.1.1;
    }) (λ x i. x)
    (nat_only ⊗ list_only nat_only ⊗ nat_only ⊗ list_only entity_only ⊗ list_only procedure_only ⊗ list_only block_only ⊗ list_only
    return_row_only ⊗ list_only (option_only table_state_only) ⊗ list_only (option_only table_state_only) ⊗ list_only nat_only ⊗
    list_only (option_only (nat_only ⊗ nat_only)) ⊗ list_only nat_only)

pub parts_apart : TellsApart same_parts
parts_apart = apart parts_laws.laws-law parts_only
