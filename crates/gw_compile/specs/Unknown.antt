-- What of an expression isn't known.
use Rattle.std.specs.Prelude.{◌≡◌, ℕ, suc, List, [], ◌∷◌, Option, Some, None, Result, Ok, Err, if◌then◌else◌, ◌==◌, string_bytes}
use Rattle.std.specs.Borrow.{Bor}
use Rattle.gw_text_expressions.specs.declared.model.Expression.{Expression, Row_of-Expression, end_of-Expression, more_of-Expression}
use Rattle.gw_text_expressions.specs.declared.model.Expression.TheVariants.{Whole, Name, Sna as Attribute, Parentheses', Call', Unary', Binary'}
use Rattle.gw_compile.specs.declared.numbering.Callee.{Callee}
use Rattle.gw_compile.specs.declared.faults.CompileFault.{CompileFault}
use Rattle.gw_compile.specs.declared.faults.CompileFault.TheVariants as faults
use Rattle.gw_compile.specs.Numbers.{Numbers, Scope, name_meaning}
use Rattle.gw_compile.specs.Scope.{scope_of}
use Rattle.gw_compile.specs.Attributes.{attribute_in}

-- what is to blame
pub data Blame : Type 0 where
  -- an operand that names what isn't known
  Unknown : Expression → Blame
  -- a call with another number of arguments than the PROCEDURE takes
  Arguments : Expression → Blame
  -- a name to which a value is assigned, and which is no local
  Target : List ℕ → Blame

-- the first of two
abbrev pub first_of : Option Blame → Option Blame → Option Blame
first_of (Some blame) other = Some blame
first_of None other = other

-- an operand, where what it names isn't there
abbrev pub if_unknown : {A : Type 0} → Option A → Expression → Option Blame
if_unknown (Some x) operand = None
if_unknown None operand = Some (Unknown operand)

-- a call with so many arguments, where the PROCEDURE isn't known, or takes another number of them
abbrev pub if_misfit : Option Callee → ℕ → Expression → Option Blame
if_misfit None given call = Some (Unknown call)
if_misfit (Some c) given call = if given == c.arguments then None else Some (Arguments call)

-- how many arguments there are
abbrev pub count : {m : _} → Row_of-Expression m → ℕ
count end_of-Expression = 0
count (more_of-Expression e es) = suc (count es)

abbrev mutual
  -- the first to blame in an expression, from left to right; nothing where each name in it is known, and each call has as many arguments as its PROCEDURE takes
  pub first_blame : Numbers → Scope → Expression → Option Blame
  first_blame n scope (Whole z) = None
  first_blame n scope (Name name) = if_unknown (name_meaning n scope (string_bytes name)) (Name name)
  first_blame n scope (Attribute sna) = if_unknown (attribute_in n sna) (Attribute sna)
  first_blame n scope (Parentheses' x e) = first_blame n scope e
  first_blame n scope (Unary' operator x a) = first_blame n scope a
  first_blame n scope (Binary' operator x a y b) = first_of (first_blame n scope a) (first_blame n scope b)
  first_blame n scope (Call' name shape es) = first_of (first_among n scope es) (if_misfit (n.procedure (string_bytes name)) (count es) (Call' name shape es))

  -- and in arguments
  pub first_among : {m : _} → Numbers → Scope → Row_of-Expression m → Option Blame
  first_among n scope end_of-Expression = None
  first_among n scope (more_of-Expression e es) = first_of (first_blame n scope e) (first_among n scope es)

-- the same in a list of arguments
abbrev pub first_in : Numbers → Scope → List Expression → Option Blame
first_in n scope [] = None
first_in n scope (e ∷ es) = first_of (first_blame n scope e) (first_in n scope es)

-- an answer goes by the first to blame: it is there where nobody is, and a fault names it; the answer of a limit needs its reason
abbrev pub Judges : {A : Type 0} → Option Blame → Type 0 → Result A CompileFault → Type 0
Judges first over (Ok x) = first ≡ None
Judges first over (Err (faults.Unknown operand)) = first ≡ Some (Unknown operand.now)
Judges first over (Err (faults.Arguments call)) = first ≡ Some (Arguments call.now)
Judges first over (Err (faults.Target name)) = first ≡ Some (Target (string_bytes name.now))
Judges first over (Err faults.Limit) = over
Judges first over (Err faults.Memory) = Unit {0}

-- an answer goes by an expression, where these locals hold: by the first to blame in it, and it knows no limit
abbrev pub JudgesExpression : {A : Type 0} → Numbers → List (Bor (List ℕ)) → Expression → Result A CompileFault → Type 0
JudgesExpression n locals e answer = Judges (first_blame n (scope_of locals) e) ⊥ answer

-- and by several
abbrev pub JudgesExpressions : {A : Type 0} → Numbers → List (Bor (List ℕ)) → List Expression → Result A CompileFault → Type 0
JudgesExpressions n locals es answer = Judges (first_in n (scope_of locals) es) ⊥ answer
