-- The derived `==` of blocks and of their operands answers true only for equal values.
use denote.Enum.Bare.{same_true}
use Rattle.gw_equality.specs.Same.{TellsApart, same_operand, same_block}
use Rattle.gw_equality.proofs.Fields.{OnlyEqual, apart, nat_only, int_only, bool_only, option_only, of_fields, ◌⊗◌, ◌⊕◌, bare, no_more, of_choices}
use Rattle.gw_object.specs.declared.blocks.Assign.{Assign}
use Rattle.gw_object.specs.declared.blocks.Both.{Both}
use Rattle.gw_object.specs.declared.blocks.Call.{Call}
use Rattle.gw_object.specs.declared.blocks.Fraction.{Fraction}
use Rattle.gw_object.specs.declared.blocks.Gate.{Gate}
use Rattle.gw_object.specs.declared.blocks.Generate.{Generate}
use Rattle.gw_object.specs.declared.blocks.Link.{Link}
use Rattle.gw_object.specs.declared.blocks.Logic.{Logic}
use Rattle.gw_object.specs.declared.blocks.Loop.{Loop}
use Rattle.gw_object.specs.declared.blocks.Numbered.{Numbered}
use Rattle.gw_object.specs.declared.blocks.Plus.{Plus}
use Rattle.gw_object.specs.declared.blocks.Priority.{Priority}
use Rattle.gw_object.specs.declared.blocks.Save.{Save}
use Rattle.gw_object.specs.declared.blocks.Split.{Split}
use Rattle.gw_object.specs.declared.blocks.Spread.{Spread}
use Rattle.gw_object.specs.declared.blocks.Test.{Test}
use Rattle.gw_object.specs.declared.blocks.Units.{Units}
use Rattle.gw_object.specs.declared.blocks.Unlink.{Unlink}
use Rattle.gw_object.specs.contracts.blocks.AttributePartialEq.TheImpl as attribute_eq
use Rattle.gw_object.specs.contracts.blocks.Attribute as attribute_type
use Rattle.gw_object.specs.contracts.blocks.EntityAttributePartialEq.TheImpl as entity_attribute_eq
use Rattle.gw_object.specs.contracts.blocks.EntityAttribute as entity_attribute_type
use Rattle.gw_object.specs.contracts.blocks.NumberedPartialEq.TheImpl as numbered_eq
use Rattle.gw_object.specs.contracts.blocks.OperandPartialEq.TheImpl as operand_eq
use Rattle.gw_object.specs.contracts.blocks.Operand as operand_type
use Rattle.gw_object.specs.contracts.blocks.SpreadPartialEq.TheImpl as spread_eq
use Rattle.gw_object.specs.contracts.blocks.GeneratePartialEq.TheImpl as generate_eq
use Rattle.gw_object.specs.contracts.blocks.UnitsPartialEq.TheImpl as units_eq
use Rattle.gw_object.specs.contracts.blocks.FractionPartialEq.TheImpl as fraction_eq
use Rattle.gw_object.specs.contracts.blocks.BothPartialEq.TheImpl as both_eq
use Rattle.gw_object.specs.contracts.blocks.ModePartialEq.TheImpl as mode_eq
use Rattle.gw_object.specs.contracts.blocks.Mode as mode_type
use Rattle.gw_object.specs.contracts.blocks.AssignPartialEq.TheImpl as assign_eq
use Rattle.gw_object.specs.contracts.blocks.ComparisonPartialEq.TheImpl as comparison_eq
use Rattle.gw_object.specs.contracts.blocks.Comparison as comparison_type
use Rattle.gw_object.specs.contracts.blocks.TestPartialEq.TheImpl as test_eq
use Rattle.gw_object.specs.contracts.blocks.ConditionPartialEq.TheImpl as condition_eq
use Rattle.gw_object.specs.contracts.blocks.Condition as condition_type
use Rattle.gw_object.specs.contracts.blocks.GatePartialEq.TheImpl as gate_eq
use Rattle.gw_object.specs.contracts.blocks.CallPartialEq.TheImpl as call_eq
use Rattle.gw_object.specs.contracts.blocks.LoopPartialEq.TheImpl as loop_eq
use Rattle.gw_object.specs.contracts.blocks.SplitPartialEq.TheImpl as split_eq
use Rattle.gw_object.specs.contracts.blocks.SwitchActionPartialEq.TheImpl as switch_action_eq
use Rattle.gw_object.specs.contracts.blocks.SwitchAction as switch_action_type
use Rattle.gw_object.specs.contracts.blocks.LogicPartialEq.TheImpl as logic_eq
use Rattle.gw_object.specs.contracts.blocks.SavePartialEq.TheImpl as save_eq
use Rattle.gw_object.specs.contracts.blocks.LinkOrderPartialEq.TheImpl as link_order_eq
use Rattle.gw_object.specs.contracts.blocks.LinkOrder as link_order_type
use Rattle.gw_object.specs.contracts.blocks.LinkPartialEq.TheImpl as link_eq
use Rattle.gw_object.specs.contracts.blocks.UnlinkPartialEq.TheImpl as unlink_eq
use Rattle.gw_object.specs.contracts.blocks.PriorityPartialEq.TheImpl as priority_eq
use Rattle.gw_object.specs.contracts.blocks.PlusPartialEq.TheImpl as plus_eq
use Rattle.gw_object.specs.contracts.blocks.BlockPartialEq.TheImpl as block_eq
use Rattle.gw_object.specs.contracts.blocks.Block as block_type
use Rattle.gw_object.specs.contracts.blocks.OperandEq.TheImpl.Laws as operand_laws
use Rattle.gw_object.specs.contracts.blocks.BlockEq.TheImpl.Laws as block_laws

-- OPERANDS

pub attribute_only : OnlyEqual attribute_eq.ghosts.eq
attribute_only = same_true attribute_type.the_type tt

pub entity_attribute_only : OnlyEqual entity_attribute_eq.ghosts.eq
entity_attribute_only = same_true entity_attribute_type.the_type tt

pub numbered_only : OnlyEqual numbered_eq.ghosts.eq
numbered_only = of_fields (λ (x : Numbered). (x.attribute, x.number)) (λ f. record { attribute = f.0; number = f.1 }) (λ x i. x)
    (entity_attribute_only ⊗ nat_only)

pub operand_only : OnlyEqual operand_eq.ghosts.eq
operand_only = of_choices operand_type.enum (int_only ⊕ nat_only ⊕ attribute_only ⊕ numbered_only ⊕ nat_only ⊕ nat_only ⊕ no_more)

pub operand_apart : TellsApart same_operand
operand_apart = apart operand_laws.laws-law operand_only

-- TIMES, UNITS AND VALUES

pub spread_only : OnlyEqual spread_eq.ghosts.eq
spread_only = of_fields (λ (x : Spread). (x.mean, x.half)) (λ f. record { mean = f.0; half = f.1 }) (λ x i. x) (operand_only ⊗ operand_only)

pub generate_only : OnlyEqual generate_eq.ghosts.eq
generate_only = of_fields (λ (x : Generate). (x.interval, (x.first, (x.limit, x.priority))))
    (λ f. record { interval = f.0; first = f.1.0; limit = f.1.1.0; priority = f.1.1.1 }) (λ x i. x)
    (spread_only ⊗ option_only int_only ⊗ option_only nat_only ⊗ int_only)

pub units_only : OnlyEqual units_eq.ghosts.eq
units_only = of_fields (λ (x : Units). (x.entity, x.number)) (λ f. record { entity = f.0; number = f.1 }) (λ x i. x) (nat_only ⊗ nat_only)

pub mode_only : OnlyEqual mode_eq.ghosts.eq
mode_only = same_true mode_type.the_type tt

pub assign_only : OnlyEqual assign_eq.ghosts.eq
assign_only = of_fields (λ (x : Assign). (x.parameter, (x.mode, x.value))) (λ f. record { parameter = f.0; mode = f.1.0; value = f.1.1 })
    (λ x i. x) (nat_only ⊗ mode_only ⊗ operand_only)

pub save_only : OnlyEqual save_eq.ghosts.eq
save_only = of_fields (λ (x : Save). (x.savevalue, (x.mode, x.value))) (λ f. record { savevalue = f.0; mode = f.1.0; value = f.1.1 })
    (λ x i. x) (nat_only ⊗ mode_only ⊗ operand_only)

pub plus_only : OnlyEqual plus_eq.ghosts.eq
plus_only = of_fields (λ (x : Plus). (x.value, x.parameter)) (λ f. record { value = f.0; parameter = f.1 }) (λ x i. x) (operand_only ⊗ option_only nat_only)

pub priority_only : OnlyEqual priority_eq.ghosts.eq
priority_only = of_fields (λ (x : Priority). (x.value, x.behind)) (λ f. record { value = f.0; behind = f.1 }) (λ x i. x) (operand_only ⊗ bool_only)

-- CONDITIONS

pub comparison_only : OnlyEqual comparison_eq.ghosts.eq
comparison_only = same_true comparison_type.the_type tt

pub test_only : OnlyEqual test_eq.ghosts.eq
test_only = of_fields (λ (x : Test). (x.comparison, (x.left, (x.right, x.otherwise))))
    (λ f. record { comparison = f.0; left = f.1.0; right = f.1.1.0; otherwise = f.1.1.1 }) (λ x i. x)
    (comparison_only ⊗ operand_only ⊗ operand_only ⊗ option_only nat_only)

pub condition_only : OnlyEqual condition_eq.ghosts.eq
condition_only = same_true condition_type.the_type tt

pub gate_only : OnlyEqual gate_eq.ghosts.eq
gate_only = of_fields (λ (x : Gate). (x.condition, (x.entity, x.otherwise)))
    (λ f. record { condition = f.0; entity = f.1.0; otherwise = f.1.1 }) (λ x i. x) (condition_only ⊗ nat_only ⊗ option_only nat_only)

pub switch_action_only : OnlyEqual switch_action_eq.ghosts.eq
switch_action_only = same_true switch_action_type.the_type tt

pub logic_only : OnlyEqual logic_eq.ghosts.eq
logic_only = of_fields (λ (x : Logic). (x.action, x.switch)) (λ f. record { action = f.0; switch = f.1 }) (λ x i. x) (switch_action_only ⊗ nat_only)

-- WAYS AND COPIES

pub fraction_only : OnlyEqual fraction_eq.ghosts.eq
fraction_only = of_fields (λ (x : Fraction). (x.thousandths, (x.otherwise, x.target)))
    (λ f. record { thousandths = f.0; otherwise = f.1.0; target = f.1.1 }) (λ x i. x) (nat_only ⊗ option_only nat_only ⊗ nat_only)

pub both_only : OnlyEqual both_eq.ghosts.eq
both_only = of_fields (λ (x : Both). (x.first, x.second)) (λ f. record { first = f.0; second = f.1 }) (λ x i. x) (option_only nat_only ⊗ nat_only)

pub call_only : OnlyEqual call_eq.ghosts.eq
call_only = of_fields (λ (x : Call). (x.target, x.parameter)) (λ f. record { target = f.0; parameter = f.1 }) (λ x i. x) (nat_only ⊗ nat_only)

pub loop_only : OnlyEqual loop_eq.ghosts.eq
loop_only = of_fields (λ (x : Loop). (x.parameter, x.target)) (λ f. record { parameter = f.0; target = f.1 }) (λ x i. x) (nat_only ⊗ nat_only)

pub split_only : OnlyEqual split_eq.ghosts.eq
split_only = of_fields (λ (x : Split). (x.copies, x.target)) (λ f. record { copies = f.0; target = f.1 }) (λ x i. x) (nat_only ⊗ option_only nat_only)

-- USER CHAINS

pub link_order_only : OnlyEqual link_order_eq.ghosts.eq
link_order_only = same_true link_order_type.the_type tt

pub link_only : OnlyEqual link_eq.ghosts.eq
link_only = of_fields (λ (x : Link). (x.chain, x.order)) (λ f. record { chain = f.0; order = f.1 }) (λ x i. x) (nat_only ⊗ link_order_only)

pub unlink_only : OnlyEqual unlink_eq.ghosts.eq
unlink_only = of_fields (λ (x : Unlink). (x.chain, (x.target, x.most))) (λ f. record { chain = f.0; target = f.1.0; most = f.1.1 })
    (λ x i. x) (nat_only ⊗ nat_only ⊗ option_only nat_only)

-- BLOCKS

pub block_only : OnlyEqual block_eq.ghosts.eq
block_only = of_choices block_type.enum (
    generate_only ⊕ operand_only ⊕ spread_only ⊕ nat_only ⊕ nat_only ⊕ units_only ⊕ units_only ⊕ units_only
    ⊕ units_only ⊕ assign_only ⊕ test_only ⊕ gate_only ⊕ nat_only ⊕ fraction_only ⊕ both_only ⊕ call_only ⊕ nat_only
    ⊕ loop_only ⊕ split_only ⊕ nat_only ⊕ link_only ⊕ unlink_only ⊕ logic_only ⊕ save_only ⊕ option_only nat_only
    ⊕ priority_only ⊕ bare (plus_only ⊕ nat_only ⊕ no_more)
    )

pub block_apart : TellsApart same_block
block_apart = apart block_laws.laws-law block_only
