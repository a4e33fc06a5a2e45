-- What expressions and PROCEDUREs use by name.
use Rattle.std.specs.Prelude.{◌≡◌, ℕ, List, [], ◌∷◌, ◌++◌, map, Bool, Option, Some, None, Result, OnOk, Vec, if◌then◌else◌, string_bytes}
use Rattle.std.specs.Global.{Global}
use Rattle.std.specs.List.{list_any, flat_map}
use Rattle.std.specs.Str.{bytes_eq}
use Rattle.std.specs.declared.string.String.{String}
use Rattle.gw_rules.specs.declared.entities.EntityKind.{EntityKind}
use Rattle.gw_text_expressions.specs.declared.model.Expression.{Expression, Row_of-Expression, end_of-Expression, more_of-Expression}
use Rattle.gw_text_expressions.specs.declared.model.Expression.TheVariants.{Whole, Name, Sna as Attribute, Parentheses', Call', Unary', Binary'}
use Rattle.gw_text_expressions.specs.declared.model.Sna.{Sna}
use Rattle.gw_text_expressions.specs.declared.model.Sna.TheVariants as snas
use Rattle.gw_text_expressions.specs.declared.model.BlockName.TheVariants as block_names
use Rattle.gw_text_expressions.specs.declared.model.Parameter.TheVariants as parameters
use Rattle.gw_text_plus.specs.declared.model.PlusStatement.{PlusStatement, Row_of-PlusStatement, end_of-PlusStatement, more_of-PlusStatement}
use Rattle.gw_text_plus.specs.declared.model.PlusStatement.{Held-PlusStatement-If-2, None', Some'}
use Rattle.gw_text_plus.specs.declared.model.PlusStatement.TheVariants.{Block', Temporary, Assign, If', While', Return}
use Rattle.gw_text_plus.specs.declared.model.Procedure.{Procedure}
use Rattle.gw_compile.specs.Numbers.{Scope}
use Rattle.gw_compile.specs.Attributes.{question_of}
use Rattle.gw_compile.specs.Unknown.{count}
use Rattle.gw_name_uses.specs.declared.uses.Use.{Use}
use Rattle.gw_name_uses.specs.declared.uses.Use.TheVariants as uses

-- what a use says: names in upper case
pub data Mention : Type 0 where
  -- an entity of a kind
  Entity : EntityKind → List ℕ → Mention
  -- a parameter, by name
  Parameter : List ℕ → Mention
  -- and by number
  ParameterNumber : ℕ → Mention
  -- the block of a label
  Label : List ℕ → Mention
  -- an EQU
  Equ : List ℕ → Mention
  -- a call of a PROCEDURE with so many arguments
  Call : List ℕ → ℕ → Mention
  -- what a value is assigned to, though it is no local
  Target : List ℕ → Mention

-- what a use says
abbrev pub mention : Use → Mention
mention (uses.Entity kind name) = Entity kind (string_bytes name.now)
mention (uses.Parameter name) = Parameter (string_bytes name.now)
mention (uses.ParameterNumber x) = ParameterNumber x
mention (uses.Label label) = Label (string_bytes label.now)
mention (uses.Equ name) = Equ (string_bytes name.now)
mention (uses.Call name given) = Call (string_bytes name.now) given
mention (uses.Target name) = Target (string_bytes name.now)

-- what uses say, in order
abbrev pub mentions : List Use → List Mention
mentions found = map mention found

-- where there is memory, uses go on with these mentions
abbrev pub Puts : {A E : Type 0} → Result A E → Vec Use Global → Vec Use Global → List Mention → Type 0
Puts result old new more = OnOk result (mentions new.items ≡ mentions old.items ++ more)

-- LOCALS

-- whether a name is a local
abbrev pub is_local : Scope → List ℕ → Bool
is_local scope name = list_any (bytes_eq name) scope

-- the locals with one more
abbrev pub with_local : Scope → List ℕ → Scope
with_local scope name = if is_local scope name then scope else scope ++ name ∷ []

-- and with these
abbrev pub with_locals : Scope → List (List ℕ) → Scope
with_locals scope [] = scope
with_locals scope (name ∷ names) = with_locals (with_local scope name) names

-- and with those that are declared in order
abbrev pub with_declared : Scope → List (String Global) → Scope
with_declared scope names = with_locals scope (map string_bytes names)

-- EXPRESSIONS

-- an attribute
abbrev pub in_attribute : Sna → List Mention
in_attribute (snas.Parameter (parameters.Number x)) = ParameterNumber x ∷ []
in_attribute (snas.Parameter (parameters.Name name)) = Parameter (string_bytes name) ∷ []
in_attribute (snas.OfEntity value name) = Entity (question_of value).kind (string_bytes name) ∷ []
in_attribute (snas.OfBlock value (block_names.Label label)) = Label (string_bytes label) ∷ []
in_attribute (snas.OfBlock value (block_names.Number b)) = []
in_attribute snas.Clock = []
in_attribute snas.AbsoluteClock = []
in_attribute snas.Priority = []
in_attribute snas.TransitTime = []
in_attribute snas.TransactionNumber = []
in_attribute snas.TerminationCount = []
in_attribute (snas.Random j) = []

-- a bare name: an EQU, where it is no local
abbrev pub of_name : Bool → List ℕ → List Mention
of_name local name = if local then [] else Equ name ∷ []

abbrev mutual
  -- an expression, from left to right, where these locals hold
  pub in_expression : Scope → Expression → List Mention
  in_expression scope (Whole z) = []
  in_expression scope (Name name) = of_name (is_local scope (string_bytes name)) (string_bytes name)
  in_expression scope (Attribute sna) = in_attribute sna
  in_expression scope (Parentheses' x e) = in_expression scope e
  in_expression scope (Unary' operator x a) = in_expression scope a
  in_expression scope (Binary' operator x a y b) = in_expression scope a ++ in_expression scope b
  in_expression scope (Call' name shape es) = in_arguments scope es ++ Call (string_bytes name) (count es) ∷ []

  -- arguments, in order
  pub in_arguments : {m : _} → Scope → Row_of-Expression m → List Mention
  in_arguments scope end_of-Expression = []
  in_arguments scope (more_of-Expression e es) = in_expression scope e ++ in_arguments scope es

-- expressions, in order
abbrev pub in_all : Scope → List Expression → List Mention
in_all scope es = flat_map (in_expression scope) es

-- PROCEDURES

-- the target of an assignment
abbrev pub of_target : Bool → List ℕ → List Mention
of_target local name = if local then [] else Target name ∷ []

-- the value that is returned
abbrev pub in_returned : Scope → Option Expression → List Mention
in_returned scope None = []
in_returned scope (Some e) = in_expression scope e

abbrev mutual
  -- the locals that hold behind a statement: temporaries hold from where they are declared to the end of the PROCEDURE
  pub scope_after : Scope → PlusStatement → Scope
  scope_after scope (Block' shape ss) = scope_after_block scope ss
  scope_after scope (Temporary names) = with_declared scope names.items
  scope_after scope (Assign name e) = scope
  scope_after scope (If' test x a other) = scope_after_else (scope_after scope a) other
  scope_after scope (While' test x a) = scope_after scope a
  scope_after scope (Return e) = scope

  -- behind what ELSE has
  pub scope_after_else : Scope → Held-PlusStatement-If-2 → Scope
  scope_after_else scope None' = scope
  scope_after_else scope (Some' x a) = scope_after scope a

  -- behind the statements of a block
  pub scope_after_block : {m : _} → Scope → Row_of-PlusStatement m → Scope
  scope_after_block scope end_of-PlusStatement = scope
  scope_after_block scope (more_of-PlusStatement s ss) = scope_after_block (scope_after scope s) ss

abbrev mutual
  -- a statement of a PROCEDURE, where these locals hold before it
  pub in_plus : Scope → PlusStatement → List Mention
  in_plus scope (Block' shape ss) = in_block scope ss
  in_plus scope (Temporary names) = []
  in_plus scope (Assign name e) = of_target (is_local scope (string_bytes name)) (string_bytes name) ++ in_expression scope e
  in_plus scope (If' test x a other) = in_expression scope test ++ (in_plus scope a ++ in_else (scope_after scope a) other)
  in_plus scope (While' test x a) = in_expression scope test ++ in_plus scope a
  in_plus scope (Return e) = in_returned scope e

  -- what ELSE has
  pub in_else : Scope → Held-PlusStatement-If-2 → List Mention
  in_else scope None' = []
  in_else scope (Some' x a) = in_plus scope a

  -- the statements of a block
  pub in_block : {m : _} → Scope → Row_of-PlusStatement m → List Mention
  in_block scope end_of-PlusStatement = []
  in_block scope (more_of-PlusStatement s ss) = in_plus scope s ++ in_block (scope_after scope s) ss

-- the locals at the beginning of a PROCEDURE: its arguments
abbrev pub arguments_of : Procedure → Scope
arguments_of procedure = with_declared [] procedure.arguments.items

-- a PROCEDURE
abbrev pub in_procedure : Procedure → List Mention
in_procedure procedure = in_plus (arguments_of procedure) procedure.statement

-- the statements of a block in a list, and the locals behind them
abbrev pub in_sequence : Scope → List PlusStatement → List Mention
in_sequence scope [] = []
in_sequence scope (s ∷ ss) = in_plus scope s ++ in_sequence (scope_after scope s) ss

abbrev pub scope_after_sequence : Scope → List PlusStatement → Scope
scope_after_sequence scope [] = scope
scope_after_sequence scope (s ∷ ss) = scope_after_sequence (scope_after scope s) ss
