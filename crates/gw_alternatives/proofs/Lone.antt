-- The one point of a model as it is.
use Rattle.std.proofs.Common.{◌≡◌, ◌≤◌, ℕ, List, [], ◌∷◌, length, arith, ap, refl, sym, subst}
use Rattle.gw_step.specs.Job.{Job}
use Rattle.gw_parameters.specs.declared.points.Points.TheVariants.{One}
use Rattle.gw_study.specs.Study.{IsCountedJob}
use Rattle.gw_alternatives.specs.Alternatives.{ArePoints, ArePointsFrom, IsAlternative, IsLonePoint}
use Rattle.gw_alternatives.specs.declared.study_point.StudyPoint.{StudyPoint}

first : (bytes : List ℕ) (count : ℕ) (a : StudyPoint) → IsAlternative [] bytes count a → ArePointsFrom bytes One count 0 (a ∷ [])
unfolding ArePointsFrom
first bytes count a is = ((bytes, refl, is), tt)

-- a job of a model with a count has it
pub lone : (bytes : List ℕ) (count : ℕ) (j : Job) (all : List StudyPoint) → IsCountedJob bytes count j → IsLonePoint j all
    → ArePoints bytes [] count all
lone bytes count j all job (a, is, called, of) =
    let alternative : IsAlternative [] bytes count a = record { called = called; job = subst (λ (i : Job). IsCountedJob bytes count i) (sym of) job } in
    subst (λ xs. ArePoints bytes [] count xs) (sym is) (One, refl, (first bytes count a alternative, refl))

-- it is one
pub few : (j : Job) (all : List StudyPoint) → IsLonePoint j all → length all ≤ 64
few j all (a, is, called, of) = omega (arith, ap length is)
