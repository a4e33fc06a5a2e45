-- What of a model text becomes procedures, and which numbers they have.
use Rattle.std.specs.Prelude.{ℕ, ◌+◌, List, [], ◌∷◌, Option, Some, None, Bool, true, false, ◌==◌, ◌&&◌, nat_le, if◌then◌else◌, option_and_then}
use Rattle.std.specs.Prelude.{slice_get, string_bytes}
use Rattle.gw_text_expressions.specs.declared.model.Expression.{Expression}
use Rattle.gw_text_expressions.specs.declared.model.Expression.TheVariants.{Call'}
use Rattle.gw_text_expressions.specs.declared.model.Expression.TheVariants as trees
use Rattle.gw_text_statements.specs.declared.model.Operand.{Operand}
use Rattle.gw_text_statements.specs.declared.model.Operand.TheVariants as texts
use Rattle.gw_text_tokens.specs.declared.words.Word.{Word}
use Rattle.gw_text_tokens.specs.declared.words.Word.TheVariants as words
use Rattle.gw_text.specs.declared.model.Body.{Body}
use Rattle.gw_text.specs.declared.model.Body.TheVariants.{Nothing, Points, Procedure}
use Rattle.gw_text.specs.declared.model.Statement.{Statement}
use Rattle.gw_compile.specs.declared.numbering.Callee.{Callee}
use Rattle.gw_compile.specs.Numbers.{Numbers}
use Rattle.gw_compile.specs.Unknown.{count}
use Rattle.gw_names.specs.declared.names.Names.{Names}
use Rattle.gw_pieces.specs.declared.origins.Origin.{Origin}
use Rattle.gw_names.specs.Numbers.{numbers_of}

-- WHAT IS COMPILED

-- the expression that an operand is
abbrev pub expression_in : Option Operand → Option Expression
expression_in (Some (texts.Expression e)) = Some e
expression_in (Some texts.Missing) = None
expression_in (Some (texts.Name name)) = None
expression_in (Some (texts.Whole z)) = None
expression_in (Some (texts.Fraction thousandths)) = None
expression_in (Some texts.Both) = None
expression_in (Some (texts.Sna sna)) = None
expression_in None = None

-- the expression at a position of a statement
abbrev pub expression_at : Statement → ℕ → Option Expression
expression_at s k = expression_in (slice_get s.operands.items k)

-- the name of the PROCEDURE that an expression calls as a whole, without arguments
abbrev pub whole_call : Expression → Option (List ℕ)
whole_call (Call' name shape es) = if count es == 0 then Some (string_bytes name) else None
whole_call (trees.Whole z) = None
whole_call (trees.Name name) = None
whole_call (trees.Sna sna) = None
whole_call (trees.Parentheses' x e) = None
whole_call (trees.Unary' operator x a) = None
whole_call (trees.Binary' operator x a y b) = None

-- whether a word is VARIABLE or BVARIABLE, whose expression always becomes a procedure of its own
abbrev pub is_variable : Word → Bool
is_variable words.Variable = true
is_variable words.BVariable = true
is_variable word = false

-- NUMBERS

-- the same origin
abbrev pub same_origin : Origin → Origin → Bool
same_origin a b = a.statement == b.statement && a.operand == b.operand

-- the place of an origin, where those at hand have places from this one on
abbrev pub place_from : ℕ → List Origin → Origin → Option ℕ
place_from k [] origin = None
place_from k (o ∷ origins) origin = if same_origin o origin then Some k else place_from (k + 1) origins origin

-- the place of an origin among others
abbrev pub place_in : List Origin → Origin → Option ℕ
place_in origins origin = place_from 0 origins origin

-- a number that 16 bits hold
abbrev pub in_16_bits : ℕ → Option ℕ
in_16_bits q = if nat_le q 65535 then Some q else None

-- the number of the procedure of the operand at a position of a statement
abbrev pub own_number : List Origin → ℕ → ℕ → Option ℕ
own_number order i k = option_and_then in_16_bits (place_in order (record { statement = i; operand = k }))

-- the number of a procedure without arguments
abbrev pub if_without_arguments : Callee → Option ℕ
if_without_arguments c = if c.arguments == 0 then Some c.number else None

-- and of the PROCEDURE that is called as a whole
abbrev pub number_called : Numbers → List ℕ → Option ℕ
number_called n name = option_and_then if_without_arguments (n.procedure name)

-- the number of the procedure of an expression: that of a PROCEDURE that it calls as a whole, or its own
abbrev pub number_by : Numbers → Option ℕ → Bool → Option (List ℕ) → Option ℕ
number_by n own true called = own
number_by n own false None = own
number_by n own false (Some name) = number_called n name

-- the number of the procedure that the operand at a position becomes, if it is an expression; a PROCEDURE has no operand
abbrev pub number_in : Numbers → Option ℕ → Word → Body → Option Expression → Option ℕ
number_in n own word (Procedure pr) e = None
number_in n own word Nothing None = None
number_in n own word Nothing (Some e) = number_by n own (is_variable word) (whole_call e)
number_in n own word (Points points) None = None
number_in n own word (Points points) (Some e) = number_by n own (is_variable word) (whole_call e)

-- the number of the procedure that the operand at a position of a statement becomes
abbrev pub number_for : Numbers → List Origin → Statement → ℕ → ℕ → Option ℕ
number_for n order s i k = number_in n (own_number order i k) s.word s.body (expression_at s k)

-- the numbers of the procedures that the operands of a statement become, by position: expressions stand at the first two
abbrev pub numbers_for : Numbers → List Origin → Statement → ℕ → List (Option ℕ)
numbers_for n order s i = number_for n order s i 0 ∷ number_for n order s i 1 ∷ []

-- the number of the procedure of an expression, where names stand for these numbers
abbrev pub number_of_tree : Names → Option ℕ → Bool → Expression → Option ℕ
number_of_tree names own variable e = number_by (numbers_of names) own variable (whole_call e)
