-- What the procedures of a model text are compiled from.
use Rattle.std.specs.Prelude.{◌≡◌, ℕ, List, length, take, Some, Result, IfOk, slice_get, [], ◌∷◌, ◌++◌}
use Rattle.gw_object.specs.declared.code.Procedure.{Procedure}
use Rattle.gw_text_expressions.specs.declared.model.Expression.{Expression}
use Rattle.gw_text_plus.specs.declared.model.Procedure.{Procedure as TextProcedure}
use Rattle.gw_text.specs.declared.model.Body.{Body}
use Rattle.gw_text.specs.declared.model.Body.TheVariants as bodies
use Rattle.gw_text.specs.declared.model.Statement.{Statement}
use Rattle.gw_compile.specs.Numbers.{Numbers}
use Rattle.gw_compile.specs.Keeps.{IsCompiled, IsCompiledProcedure}
use Rattle.gw_names.specs.declared.names.Names.{Names}
use Rattle.gw_pieces.specs.declared.origins.Origin.{Origin}
use Rattle.gw_names.specs.Numbers.{numbers_of}
use Rattle.gw_pieces.specs.Origins.{expression_at}

-- a procedure is compiled from the expression at a position of a statement, where these procedures are compiled before
abbrev pub IsFromExpression : Numbers → List Procedure → Statement → ℕ → Procedure → Type 0
IsFromExpression n before s k pr = (e : Expression) × (expression_at s k ≡ Some e) × IsCompiled n before e pr

-- a procedure is compiled from the PROCEDURE of a statement, or else from the expression at a position of it, where these procedures are compiled before
abbrev pub IsProcedureOfBody : Numbers → List Procedure → Body → Statement → ℕ → Procedure → Type 0
IsProcedureOfBody n before (bodies.Procedure procedure) s k pr = IsCompiledProcedure n before procedure pr
IsProcedureOfBody n before bodies.Nothing s k pr = IsFromExpression n before s k pr
IsProcedureOfBody n before (bodies.Points points) s k pr = IsFromExpression n before s k pr

abbrev pub IsProcedureOf : Numbers → List Procedure → Statement → ℕ → Procedure → Type 0
IsProcedureOf n before s k pr = IsProcedureOfBody n before s.body s k pr

-- the procedure of an origin, where these procedures are compiled before
pub record ComesFrom (n : Numbers) (ss : List Statement) (before : List Procedure) (origin : Origin) (pr : Procedure) : Type 0 where
  pub statement : Statement
  pub there : slice_get ss origin.statement ≡ Some statement
  pub compiled : IsProcedureOf n before statement origin.operand pr

-- the procedures of these origins, in order, each compiled where those before it are
pub record AreCompiled (n : Numbers) (ss : List Statement) (order : List Origin) (procedures : List Procedure) : Type 0 where
  pub all : length procedures ≡ length order
  pub each : (q : ℕ) (origin : Origin) → slice_get order q ≡ Some origin
      → (pr : Procedure) × (slice_get procedures q ≡ Some pr) × ComesFrom n ss (take q procedures) origin pr

-- one more procedure, of which this is so, stands behind others
abbrev pub Grows : (Procedure → Type 0) → List Procedure → List Procedure → Type 0
Grows P old new = (pr : Procedure) × P pr × (new ≡ old ++ pr ∷ [])

-- a PROCEDURE becomes such a procedure, where names stand for these numbers, unless something is to blame
abbrev pub CompilesBody : {E : Type 0} → Names → List Procedure → TextProcedure → Result Procedure E → Type 0
CompilesBody names before procedure result = IfOk result (IsCompiledProcedure (numbers_of names) before procedure)

-- and so does the expression at a position of a statement
abbrev pub CompilesOperand : {E : Type 0} → Names → List Procedure → Statement → ℕ → Result Procedure E → Type 0
CompilesOperand names before s k result = IfOk result (IsFromExpression (numbers_of names) before s k)

-- and whatever stands there
abbrev pub CompilesPosition : {E : Type 0} → Names → List Procedure → Statement → ℕ → Result Procedure E → Type 0
CompilesPosition names before s k result = IfOk result (IsProcedureOf (numbers_of names) before s k)
