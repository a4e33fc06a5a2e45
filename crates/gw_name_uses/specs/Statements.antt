-- What statements use by name.
use Rattle.std.specs.Prelude.{ℤ, pos, negsuc, List, [], ◌∷◌, ◌++◌, Option, Some, None, if◌then◌else◌, nat_le, string_bytes}
use Rattle.gw_rules.specs.declared.entities.EntityKind.{EntityKind}
use Rattle.gw_rules.specs.declared.entities.EntityKind.TheVariants as kinds
use Rattle.std.specs.declared.string.String.{String}
use Rattle.std.specs.Global.{Global}
use Rattle.gw_text_tokens.specs.declared.words.Word.{Word}
use Rattle.gw_text_tokens.specs.declared.words.Word.TheVariants as words
use Rattle.gw_text_statements.specs.declared.model.Operand.{Operand}
use Rattle.gw_text_statements.specs.declared.model.Operand.TheVariants as operands
use Rattle.gw_text_statements.specs.declared.model.Modifier.{Modifier}
use Rattle.gw_text.specs.declared.model.Body.{Body}
use Rattle.gw_text.specs.declared.model.Body.TheVariants as bodies
use Rattle.gw_text.specs.declared.model.Statement.{Statement}
use Rattle.gw_name_uses.specs.declared.roles.Role.{Role}
use Rattle.gw_name_uses.specs.declared.roles.Role.TheVariants as roles
use Rattle.gw_name_uses.specs.Roles.{role_of_one, roles_of_two, first_role_of_three, last_roles_of_three, first_role_of_four, first_roles_of_five}
use Rattle.gw_name_uses.specs.Mentions.{Mention, Entity, Parameter, ParameterNumber, Label, Equ, in_attribute, in_expression, in_procedure}

-- OPERANDS

-- a value
abbrev pub in_value : Operand → List Mention
in_value operands.Missing = []
in_value (operands.Name name) = Equ (string_bytes name) ∷ []
in_value (operands.Whole z) = []
in_value (operands.Fraction thousandths) = []
in_value operands.Both = []
in_value (operands.Sna sna) = in_attribute sna
in_value (operands.Expression e) = in_expression [] e

-- an entity of a kind
abbrev pub in_entity : EntityKind → Operand → List Mention
in_entity kind (operands.Name name) = Entity kind (string_bytes name) ∷ []
in_entity kind operands.Missing = []
in_entity kind (operands.Whole z) = []
in_entity kind (operands.Fraction thousandths) = []
in_entity kind operands.Both = []
in_entity kind (operands.Sna sna) = []
in_entity kind (operands.Expression e) = []

-- a label
abbrev pub in_label : Operand → List Mention
in_label (operands.Name label) = Label (string_bytes label) ∷ []
in_label operands.Missing = []
in_label (operands.Whole z) = []
in_label (operands.Fraction thousandths) = []
in_label operands.Both = []
in_label (operands.Sna sna) = []
in_label (operands.Expression e) = []

-- the number of a parameter
abbrev pub of_number : ℤ → List Mention
of_number (pos x) = if nat_le x 255 then ParameterNumber x ∷ [] else []
of_number (negsuc x) = []

-- a parameter
abbrev pub in_parameter : Operand → List Mention
in_parameter (operands.Name name) = Parameter (string_bytes name) ∷ []
in_parameter (operands.Whole z) = of_number z
in_parameter operands.Missing = []
in_parameter (operands.Fraction thousandths) = []
in_parameter operands.Both = []
in_parameter (operands.Sna sna) = []
in_parameter (operands.Expression e) = []

-- an operand that stands for this
abbrev pub in_role : Role → Operand → List Mention
in_role roles.Plain operand = []
in_role roles.Value operand = in_value operand
in_role (roles.Entity kind) operand = in_entity kind operand
in_role roles.Label operand = in_label operand
in_role roles.Parameter operand = in_parameter operand

-- two operands that stand for these
abbrev pub in_both : Role × Role → Operand → Operand → List Mention
in_both pair first second = in_role pair.0 first ++ in_role pair.1 second

-- WORDS

-- the kind of what a statement of this word declares, if that is an entity
abbrev pub declared_kind : Word → Option EntityKind
declared_kind words.Storage = Some kinds.Storage
declared_kind words.Table = Some kinds.Table
declared_kind words.Function = Some kinds.Function
declared_kind words.Variable = Some kinds.Variable
declared_kind words.BVariable = Some kinds.BooleanVariable
declared_kind word = None

-- the entity that a label declares
abbrev pub in_declared : Option EntityKind → Option (String Global) → List Mention
in_declared (Some kind) (Some label) = Entity kind (string_bytes label) ∷ []
in_declared kind label = []

-- the operands of a statement of this word, with this modifier
abbrev pub in_operands : Word → Option Modifier → List Operand → List Mention
in_operands word m (a ∷ []) = in_role (role_of_one word) a
in_operands word m (a ∷ b ∷ []) = in_both (roles_of_two word m a) a b
in_operands word m (a ∷ b ∷ c ∷ []) = in_role (first_role_of_three word) a ++ in_both (last_roles_of_three word a) b c
in_operands word m (a ∷ b ∷ c ∷ d ∷ []) = in_role (first_role_of_four word) a
in_operands word m (a ∷ b ∷ c ∷ d ∷ e ∷ []) = in_both (first_roles_of_five word) a b
in_operands word m operands = []

-- the lines behind the first one
abbrev pub in_body : Body → List Mention
in_body (bodies.Procedure procedure) = in_procedure procedure
in_body bodies.Nothing = []
in_body (bodies.Points points) = []

-- STATEMENTS

-- a statement, in the order of the text: the entity that its label declares, its operands, and what a PROCEDURE does
abbrev pub in_statement : Statement → List Mention
in_statement s = in_declared (declared_kind s.word) s.label ++ (in_operands s.word s.modifier s.operands.items ++ in_body s.body)
