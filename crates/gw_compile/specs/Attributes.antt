-- The attributes of a model text, in numbers.
use Rattle.std.specs.Prelude.{ℕ, Option, Some, None, option_map, string_bytes}
use Rattle.gw_object.specs.declared.blocks.Attribute.TheVariants as own
use Rattle.gw_object.specs.declared.blocks.EntityAttribute.{EntityAttribute}
use Rattle.gw_object.specs.declared.blocks.EntityAttribute.TheVariants as attributes
use Rattle.gw_object.specs.declared.code.Sna.{Sna}
use Rattle.gw_object.specs.declared.code.Sna.TheVariants as snas
use Rattle.gw_rules.specs.declared.entities.EntityKind.{EntityKind}
use Rattle.gw_rules.specs.declared.entities.EntityKind.TheVariants as kinds
use Rattle.gw_text_expressions.specs.declared.model.Sna.{Sna as TextSna}
use Rattle.gw_text_expressions.specs.declared.model.Sna.TheVariants as texts
use Rattle.gw_text_expressions.specs.declared.model.EntityValue.{EntityValue}
use Rattle.gw_text_expressions.specs.declared.model.EntityValue.TheVariants as values
use Rattle.gw_text_expressions.specs.declared.model.BlockValue.{BlockValue}
use Rattle.gw_text_expressions.specs.declared.model.BlockValue.TheVariants as of_blocks
use Rattle.gw_text_expressions.specs.declared.model.BlockName.{BlockName}
use Rattle.gw_text_expressions.specs.declared.model.BlockName.TheVariants as block_names
use Rattle.gw_text_expressions.specs.declared.model.Parameter.{Parameter}
use Rattle.gw_text_expressions.specs.declared.model.Parameter.TheVariants as parameters
use Rattle.gw_compile.specs.declared.attributes.Question.{Question}
use Rattle.gw_compile.specs.Numbers.{Numbers}

-- a question for this attribute of an entity of this kind
abbrev pub question_about : EntityKind → EntityAttribute → Question
question_about kind attribute = record { kind = kind; attribute = attribute }

-- what is asked of an entity
abbrev pub question_of : EntityValue → Question
question_of values.Facility = question_about kinds.Facility attributes.FacilityOwned
question_of values.StorageContent = question_about kinds.Storage attributes.StorageContent
question_of values.StorageRoom = question_about kinds.Storage attributes.StorageRemaining
question_of values.Queue = question_about kinds.Queue attributes.QueueContent
question_of values.Savevalue = question_about kinds.Savevalue attributes.SavevalueValue
question_of values.Switch = question_about kinds.Switch attributes.SwitchSetting
question_of values.Chain = question_about kinds.Chain attributes.ChainMembers
question_of values.Variable = question_about kinds.Variable attributes.VariableValue
question_of values.BVariable = question_about kinds.BooleanVariable attributes.BooleanValue
question_of values.Function = question_about kinds.Function attributes.FunctionValue

-- the attribute that is asked of a block
abbrev pub block_attribute_for : BlockValue → EntityAttribute
block_attribute_for of_blocks.Entries = attributes.BlockEntries
block_attribute_for of_blocks.Waiting = attributes.BlockCount

-- the number of a block
abbrev pub block_number : Numbers → BlockName → Option ℕ
block_number n (block_names.Number b) = Some b
block_number n (block_names.Label label) = n.block (string_bytes label)

-- the number of a parameter
abbrev pub parameter_number : Numbers → Parameter → Option ℕ
parameter_number n (parameters.Number x) = Some x
parameter_number n (parameters.Name name) = n.parameter (string_bytes name)

-- an attribute of the entity or the block of a number
abbrev pub sna_of_number : EntityAttribute → ℕ → Sna
sna_of_number attribute number = snas.OfEntity (record { attribute = attribute; number = number })

-- and where that number is known
abbrev pub sna_if_known : EntityAttribute → Option ℕ → Option Sna
sna_if_known attribute number = option_map (sna_of_number attribute) number

-- a parameter, where its number is known
abbrev pub parameter_if_known : Option ℕ → Option Sna
parameter_if_known number = option_map snas.Parameter number

-- an attribute in numbers, where what it is of is known; a random number is none that code reads
abbrev pub attribute_in : Numbers → TextSna → Option Sna
attribute_in n texts.Clock = Some (snas.Attribute own.Clock)
attribute_in n texts.AbsoluteClock = Some (snas.Attribute own.AbsoluteClock)
attribute_in n texts.Priority = Some (snas.Attribute own.Priority)
attribute_in n texts.TransitTime = Some (snas.Attribute own.TransitTime)
attribute_in n texts.TransactionNumber = Some (snas.Attribute own.TransactionNumber)
attribute_in n texts.TerminationCount = Some (snas.Attribute own.TerminationCount)
attribute_in n (texts.Parameter x) = parameter_if_known (parameter_number n x)
attribute_in n (texts.Random j) = None
attribute_in n (texts.OfEntity value name) = sna_if_known (question_of value).attribute (n.entity (question_of value).kind (string_bytes name))
attribute_in n (texts.OfBlock value block) = sna_if_known (block_attribute_for value) (block_number n block)
