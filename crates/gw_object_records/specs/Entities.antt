-- What each declaration makes of an entity.
use Rattle.std.specs.Prelude.{◌≡◌, ℕ, List, [], ◌∷◌, Option, Some, None, pos, map, option_map, option_and_then}
use Rattle.gw_object.specs.declared.blocks.Operand.{Operand}
use Rattle.gw_object.specs.declared.parts.Kind.{Kind}
use Rattle.gw_object.specs.declared.parts.Kind.TheVariants as kinds
use Rattle.gw_object.specs.declared.parts.Point.{Point}
use Rattle.gw_text_tokens.specs.declared.words.Word.{Word}
use Rattle.gw_text_tokens.specs.declared.words.Word.TheVariants as words
use Rattle.gw_text_statements.specs.declared.model.Operand.{Operand as Text}
use Rattle.gw_text_statements.specs.declared.model.Point.{Point as TextPoint}
use Rattle.gw_text.specs.declared.model.Body.{Body}
use Rattle.gw_text.specs.declared.model.Body.TheVariants.{Points}
use Rattle.gw_text.specs.declared.model.Statement.{Statement}
use Rattle.gw_compile.specs.Numbers.{Numbers}
use Rattle.gw_object_records.specs.Operands.{value_in, procedure_at, whole_in, number_in}
use Rattle.gw_object_records.specs.Records.{of_two, of_three}

-- a point of a function
abbrev pub point_of : TextPoint → Point
point_of p = record { x = p.x; y = p.y }

-- the points behind a FUNCTION
abbrev pub points_in : Body → Option (List Point)
points_in (Points points) = Some (map point_of points.items)
points_in body = None

-- what a declaration with one operand, but a FUNCTION, makes of an entity
abbrev pub of_one : List (Option ℕ) → Word → Text → Option Kind
of_one procedures words.Storage capacity = option_map kinds.Storage (number_in 4294967295 capacity)
of_one procedures words.Variable e = option_map kinds.Variable (procedure_at procedures 0)
of_one procedures words.BVariable e = option_map kinds.BooleanVariable (procedure_at procedures 0)
of_one procedures word operand = None

-- a table, with this argument
abbrev pub table_of : Option Operand → Text → Text → Text → Option Kind
table_of argument limit width classes =
    option_and_then (λ a. of_three (λ l w c. kinds.Table (record { argument = a; limit = l; width = w; classes = c }))
    (whole_in (pos 0) limit) (number_in 4294967295 width) (number_in 65535 classes))
    argument

-- a function, with this argument
abbrev pub function_of : Option Operand → Option (List Point) → Option Kind
function_of argument points = of_two (λ a ps. kinds.Function (record { argument = a; points = ps })) argument points

-- this is what a function with these points is
abbrev pub IsFunction : Option Operand → List TextPoint → Option Kind → Type 0
IsFunction argument points kind = kind ≡ function_of argument (Some (map point_of points))

-- where the operands that are expressions become these procedures
module _ (n : Numbers) (procedures : List (Option ℕ)) where
  -- the argument of a TABLE or a FUNCTION
  abbrev pub argument_in : Text → Option Operand
  argument_in argument = value_in n (procedure_at procedures 0) argument

  -- what a declaration of this word makes of an entity, with these operands and this body
  abbrev pub kind_of : Word → List Text → Body → Option Kind
  kind_of words.Table (argument ∷ limit ∷ width ∷ classes ∷ []) body = table_of (argument_in argument) limit width classes
  kind_of words.Function (argument ∷ []) body = function_of (argument_in argument) (points_in body)
  kind_of word (operand ∷ []) body = of_one procedures word operand
  kind_of word operands body = None

-- what a statement makes of an entity, if it declares one and has the operands of its word
abbrev pub entity_kind : Numbers → List (Option ℕ) → Statement → Option Kind
entity_kind n procedures s = kind_of n procedures s.word s.operands.items s.body

-- this is what it makes
abbrev pub IsEntityKind : Numbers → List (Option ℕ) → Statement → Option Kind → Type 0
IsEntityKind n procedures s kind = kind ≡ entity_kind n procedures s
