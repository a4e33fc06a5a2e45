-- What is proved of PLUS code, and of the code that passes its checks.
use Rattle.std.specs.Prelude.{◌≡◌, ℕ, ◌≤◌, List, [], length, All, Some, None, true, Result, ℤ}
use Rattle.gw_num.specs.Table.{at}
use Rattle.gw_object.specs.CodeGrammar.{ProcedureFits}
use Rattle.gw_object.specs.declared.code.Procedure.{Procedure}
use Rattle.gw_object.specs.declared.parts.Parts.{Parts}
use Rattle.gw_object.specs.Grammar.{HasSpelling}
use Rattle.gw_rules.specs.KindsLaws.{EntityHolds, ProcedureHolds}
use Rattle.gw_rules.specs.Pass.{KindsPass}
use Rattle.gw_rules.specs.declared.ends.PlusEnd.{PlusEnd}
use Rattle.gw_rules.specs.Environment.{Environment, ReadTheSame}
use Rattle.gw_rules.specs.Code.{procedure_at, is_among, costs_of}
use Rattle.gw_rules.specs.PlusChecks.{PlusPasses}
use Rattle.gw_rules.specs.Meaning.{Frame, Derives, Evaluates, opening_frame}
use Rattle.gw_rules.specs.Outcome.{answer_within, outcome_of}

-- these parameters are set
abbrev pub HasSet : Environment → List ℕ → Type 0
HasSet env needs = (x : ℕ) → is_among needs x ≡ true → (v : ℤ) × (at None env.parameters x ≡ Some v)

-- what the format and kinds say of each procedure and each entity: a procedure keeps its limits, and each number in it,
-- and in an entity, names something of its kind
pub record CodeHolds (p : Parts) : Type 0 where
  pub procedures : (n : ℕ) (pr : Procedure) → procedure_at p n ≡ Some pr → ProcedureFits pr × ProcedureHolds p pr
  pub entities : All (EntityHolds p) p.entities

-- an activation of the procedure n that may begin: it has its arguments, and the parameters that it needs are set
pub record MayBegin (p : Parts) (env : Environment) (n : ℕ) (pr : Procedure) (given : List ℤ) : Type 0 where
  pub there : procedure_at p n ≡ Some pr
  pub arguments : length given ≡ pr.arguments
  pub needs : HasSet env pr.needs

-- from one place at most one outcome is derived, after as many instructions
abbrev pub OneOutcome : Type 0
OneOutcome = (p : Parts) (env : Environment) (n : ℕ) (f : Frame) (k m : ℕ) (r s : Result ℤ PlusEnd) → Derives p env n f k r
    → Derives p env n f m s → (k ≡ m) × (r ≡ s)

-- what is answered within so many instructions is derived
abbrev pub AnswersAreDerived : Type 0
AnswersAreDerived = (p : Parts) (env : Environment) (most n : ℕ) (f : Frame) (r : Result ℤ PlusEnd) → answer_within p env most n f ≡ Some r
    → (k : ℕ) × Derives p env n f k r

-- and what is derived is answered, within as many instructions or more
abbrev pub DerivedIsAnswered : Type 0
DerivedIsAnswered = (p : Parts) (env : Environment) (most n : ℕ) (f : Frame) (k : ℕ) (r : Result ℤ PlusEnd) → Derives p env n f k r → k
    ≤ most → answer_within p env most n f ≡ Some r

-- an outcome depends on nothing but the values that are kept
abbrev pub OutcomesDependOnWhatIsKept : Type 0
OutcomesDependOnWhatIsKept = (p : Parts) (a b : Environment) (n : ℕ) → ReadTheSame a b → outcome_of p a n ≡ outcome_of p b n

-- in an object whose kinds and PLUS code pass an activation never gets stuck: one that may begin has an outcome
abbrev pub HasOutcome : Type 0
HasOutcome =
    (p : Parts) (env : Environment) (n : ℕ) (pr : Procedure) (arguments : List ℤ) → HasSpelling p → KindsPass p → PlusPasses p → MayBegin p env n pr arguments
    → (k : ℕ) × (r : Result ℤ PlusEnd) × Derives p env n (opening_frame (Some pr) arguments) k r

-- and it comes to its outcome after at most as many instructions as its procedure costs
abbrev pub CostBounds : Type 0
CostBounds =
    (p : Parts) (env : Environment) (n : ℕ) (pr : Procedure) (arguments : List ℤ) (k : ℕ) (r : Result ℤ PlusEnd) → HasSpelling p
    → KindsPass p → PlusPasses p → MayBegin p env n pr arguments
    → Derives p env n (opening_frame (Some pr) arguments) k r → k ≤ at 0 (costs_of p) n

-- so each procedure without arguments whose parameters are set has its one outcome
abbrev pub OutcomesAreEvaluated : Type 0
OutcomesAreEvaluated =
    (p : Parts) (env : Environment) (n : ℕ) (pr : Procedure) → HasSpelling p → KindsPass p → PlusPasses p → MayBegin p env n pr []
    → (r : Result ℤ PlusEnd) × (outcome_of p env n ≡ Some r) × Evaluates p env n [] r
