-- The laws of PLUS code.
use Rattle.std.proofs.Common.{◌≡◌, ℕ, zero, suc, ◌<◌, [], Option, Some, Result, ℤ, refl, sym, arith, subst}
use Rattle.gw_num.specs.Table.{at}
use Rattle.std.specs.Prelude.{All}
use Rattle.std.proofs.lemmas.Option.{slice_get_within, get_or_from_slice_get}
use Rattle.gw_object.specs.CodeGrammar.{ProcedureFits}
use Rattle.gw_object.specs.Grammar.{HasSpelling}
use Rattle.gw_rules.specs.KindsLaws.{ProcedureHolds}
use Rattle.gw_rules.specs.Pass.{KindsPass}
use Rattle.gw_rules.proofs.KindsHold.{kinds_pass_at_each_place}
use Rattle.gw_object.specs.declared.code.Procedure.{Procedure}
use Rattle.gw_object.specs.declared.parts.Parts.{Parts}
use Rattle.gw_rules.specs.declared.ends.PlusEnd.{PlusEnd}
use Rattle.gw_rules.specs.Environment.{Environment}
use Rattle.gw_rules.specs.Code.{procedure_at, costs_of}
use Rattle.gw_rules.specs.PlusChecks.{PlusPasses}
use Rattle.gw_rules.specs.Meaning.{Derives, Evaluates, opening_frame}
use Rattle.gw_rules.specs.Outcome.{outcome_of}
use Rattle.gw_rules.specs.PlusLaws.{CodeHolds, MayBegin, OneOutcome, HasOutcome, CostBounds, OutcomesAreEvaluated}
use Rattle.gw_rules.proofs.Potential.{opened_left}
use Rattle.gw_rules.proofs.PlusSteps.{opened_stands, left}
use Rattle.gw_rules.proofs.PlusRules.{checked}
use Rattle.gw_rules.proofs.Outcomes.{one_outcome, Works, run}
use Rattle.gw_rules.proofs.Within.{derived_is_answered}

-- what holds of each procedure holds of the one of a number
of_procedure : (p : Parts) (P : Procedure → Type 0) (n : ℕ) (pr : Procedure) → procedure_at p n ≡ Some pr → All P p.procedures → P pr
of_procedure p P n pr there each = subst P (get_or_from_slice_get p.procedures n pr pr there) (each n pr (slice_get_within p.procedures n pr there))

-- what the format and kinds say of each procedure and each entity
pub code_holds : (p : Parts) → HasSpelling p → KindsPass p → CodeHolds p
code_holds p fits kinds =
    let each = (kinds_pass_at_each_place p).0 kinds in
    record {
      procedures = λ n pr there. (of_procedure p ProcedureFits n pr there fits.limits.each_procedure, of_procedure p (ProcedureHolds p) n pr there each.1);
      entities = each.0;
    }

pub one_outcome_law : OneOutcome
one_outcome_law p env n f k m r s d e = one_outcome p env n f k m r s d e

module _ (p : Parts) (env : Environment) (kinds : KindsPass p) (passes : PlusPasses p) where
  -- each procedure below a number works
  works : (n q : ℕ) (called : Procedure) → q < n → Works p env (costs_of p) q called
  works zero q called lower arguments there count set = absurd (omega arith)
  works (suc n) q called lower arguments there count set =
      let c = checked p passes q called there in
      let s = c.sound in
      let f = opening_frame (Some called) arguments in
      let ready = opened_stands p q called arguments s in
      let each = (kinds_pass_at_each_place p).0 kinds in
      let d = run p env q called s.heights (costs_of p) there (of_procedure p (ProcedureHolds p) q called there each.1) each.0 s.each set
      (λ x y below. works n x y (omega arith)) (left p env q called s.heights (costs_of p) f) f ready (omega arith) in
      record {
        count = d.count;
        outcome = d.outcome;
        derived = d.derived;
        within =
            omega (arith, d.within, opened_left p.entities (costs_of p) called.code f refl refl, c.cost);
      }

pub has_outcome_law : HasOutcome
has_outcome_law p env n pr arguments fits kinds passes may =
    let d = works p env kinds passes (suc n) n pr (omega arith) arguments may.there may.arguments may.needs in
    (d.count, d.outcome, d.derived)

pub cost_bounds_law : CostBounds
cost_bounds_law p env n pr arguments k r fits kinds passes may derived =
    let d = works p env kinds passes (suc n) n pr (omega arith) arguments may.there may.arguments may.needs in
    let same = one_outcome p env n (opening_frame (Some pr) arguments) d.count k d.outcome r d.derived derived in
    omega (arith, same.0, d.within)

-- a procedure without arguments comes to its outcome where the parameters that it needs are set, whether the object has a spelling or not
pub comes_to : (p : Parts) (env : Environment) (n : ℕ) (pr : Procedure) → KindsPass p → PlusPasses p → MayBegin p env n pr []
    → (r : Result ℤ PlusEnd) × (outcome_of p env n ≡ Some r) × Evaluates p env n [] r
unfolding outcome_of
comes_to p env n pr kinds passes may =
    let d = works p env kinds passes (suc n) n pr (omega arith) [] may.there may.arguments may.needs in
    let derived = subst (λ (o : Option Procedure). Derives p env n (opening_frame o []) d.count d.outcome) (sym may.there) d.derived in
    (d.outcome, derived_is_answered p env (at 0 (costs_of p) n) n (opening_frame (procedure_at p n) []) d.count d.outcome derived d.within, (d.count, derived))

pub outcomes_are_evaluated_law : OutcomesAreEvaluated
outcomes_are_evaluated_law p env n pr fits kinds passes may = comes_to p env n pr kinds passes may
