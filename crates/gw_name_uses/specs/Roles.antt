-- What the operands of statements stand for.
use Rattle.std.specs.Prelude.{Option, Some}
use Rattle.gw_rules.specs.declared.entities.EntityKind.{EntityKind}
use Rattle.gw_rules.specs.declared.entities.EntityKind.TheVariants as kinds
use Rattle.gw_text_tokens.specs.declared.words.Word.{Word}
use Rattle.gw_text_tokens.specs.declared.words.Word.TheVariants as words
use Rattle.gw_text_statements.specs.declared.model.Operand.{Operand}
use Rattle.gw_text_statements.specs.declared.model.Operand.TheVariants as operands
use Rattle.gw_text_statements.specs.declared.model.Modifier.{Modifier}
use Rattle.gw_text_statements.specs.declared.model.Modifier.TheVariants as modifiers
use Rattle.gw_text_statements.specs.declared.model.Gate.{Gate}
use Rattle.gw_text_statements.specs.declared.model.Gate.TheVariants as gates
use Rattle.gw_name_uses.specs.declared.roles.Role.{Role}
use Rattle.gw_name_uses.specs.declared.roles.Role.TheVariants.{Plain, Value, Entity, Label, Parameter}

-- the kind of the entity that a GATE asks
abbrev pub asked_kind : Gate → EntityKind
asked_kind gates.Set = kinds.Switch
asked_kind gates.Reset = kinds.Switch
asked_kind gates.InUse = kinds.Facility
asked_kind gates.NotInUse = kinds.Facility
asked_kind gate = kinds.Storage

-- the operand of a statement of one operand
abbrev pub role_of_one : Word → Role
role_of_one words.Terminate = Value
role_of_one words.Seize = Entity kinds.Facility
role_of_one words.Release = Entity kinds.Facility
role_of_one words.Logic = Entity kinds.Switch
role_of_one words.Mark = Parameter
role_of_one words.Tabulate = Entity kinds.Table
role_of_one words.Function = Value
role_of_one words.Variable = Value
role_of_one words.BVariable = Value
role_of_one words.Equ = Value
role_of_one word = Plain

-- the operands of a GATE
abbrev pub roles_of_gate : Option Modifier → Role × Role
roles_of_gate (Some (modifiers.Gate gate)) = (Entity (asked_kind gate), Label)
roles_of_gate modifier = (Plain, Plain)

-- what stands behind the form of a TRANSFER with two operands: a block, or back from a subroutine a parameter
abbrev pub role_behind_form : Operand → Role
role_behind_form operands.Missing = Label
role_behind_form (operands.Name form) = Parameter
role_behind_form form = Plain

-- the operands of a statement of two operands, of which this is the first
abbrev pub roles_of_two : Word → Option Modifier → Operand → Role × Role
roles_of_two words.Advance m first = (Value, Value)
roles_of_two words.Enter m first = (Entity kinds.Storage, Plain)
roles_of_two words.Leave m first = (Entity kinds.Storage, Plain)
roles_of_two words.Queue m first = (Entity kinds.Queue, Plain)
roles_of_two words.Depart m first = (Entity kinds.Queue, Plain)
roles_of_two words.Assign m first = (Parameter, Value)
roles_of_two words.Savevalue m first = (Entity kinds.Savevalue, Value)
roles_of_two words.Gate m first = roles_of_gate m
roles_of_two words.Transfer m first = (Plain, role_behind_form first)
roles_of_two words.Loop m first = (Parameter, Label)
roles_of_two words.Split m first = (Plain, Label)
roles_of_two words.Link m first = (Entity kinds.Chain, Plain)
roles_of_two words.Priority m first = (Value, Plain)
roles_of_two words.Plus m first = (Value, Parameter)
roles_of_two words.Initial m first = (Value, Plain)
roles_of_two word m first = (Plain, Plain)

-- what stands behind the form of a TRANSFER with three: two blocks, or a subroutine and the parameter by which it returns
abbrev pub roles_behind_form : Operand → Role × Role
roles_behind_form (operands.Fraction thousandths) = (Label, Label)
roles_behind_form operands.Both = (Label, Label)
roles_behind_form (operands.Name form) = (Label, Parameter)
roles_behind_form form = (Plain, Plain)

-- the first operand of a statement of three operands
abbrev pub first_role_of_three : Word → Role
first_role_of_three words.Test = Value
first_role_of_three words.Unlink = Entity kinds.Chain
first_role_of_three word = Plain

-- the two operands behind it
abbrev pub last_roles_of_three : Word → Operand → Role × Role
last_roles_of_three words.Test first = (Value, Label)
last_roles_of_three words.Transfer first = roles_behind_form first
last_roles_of_three words.Unlink first = (Label, Plain)
last_roles_of_three word first = (Plain, Plain)

-- the first operand of a statement of four operands
abbrev pub first_role_of_four : Word → Role
first_role_of_four words.Table = Value
first_role_of_four word = Plain

-- the first two operands of a statement of five operands
abbrev pub first_roles_of_five : Word → Role × Role
first_roles_of_five words.Generate = (Value, Value)
first_roles_of_five word = (Plain, Plain)
