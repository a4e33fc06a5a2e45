-- Alternatives and what is told of them, one after the other.
use Rattle.std.proofs.Common.{◌≡◌, ℕ, List, [], ◌∷◌, ◌++◌, ◌+◌, length, arith, refl, ap, subst}
use Rattle.gw_comparison.specs.declared.point.Point.{Point}
use Rattle.gw_parameters.specs.declared.points.Points.{Points}
use Rattle.gw_study.specs.declared.request.StudyRequest.{StudyRequest}
use Rattle.gw_alternatives.specs.declared.study_point.StudyPoint.{StudyPoint}
use Rattle.gw_alternatives.specs.declared.form.Form.{Form}
use Rattle.gw_alternatives.specs.Alternatives.{IsPointAt, ArePointsFrom}
use Rattle.gw_alternatives.specs.Told.{TellsAlternative, TellsAlternatives}

-- no point is none, and nothing is told of no alternative
pub no_points : (text : List ℕ) (points : Points) (count k : ℕ) → ArePointsFrom text points count k []
unfolding ArePointsFrom
no_points text points count k = tt

pub none_told : (form : Form) (request : StudyRequest) (old : List ℕ) → TellsAlternatives form request [] [] old old
unfolding TellsAlternatives
none_told form request old = (refl, refl)

-- one point more
pub point_more : (text : List ℕ) (points : Points) (count k n : ℕ) (xs : List StudyPoint) (x : StudyPoint) → ArePointsFrom text points count k xs
    → k + length xs ≡ n → IsPointAt text points count n x → ArePointsFrom text points count k (xs ++ x ∷ [])
unfolding ArePointsFrom
point_more text points count k n [] x none is h = let there : n ≡ k = omega (arith, is) in (subst (λ i. IsPointAt text points count i x) there h, tt)
point_more text points count k n (y ∷ xs) x so_far is h = (so_far.0, point_more text points count (k + 1) n xs x so_far.1 (omega (arith, is)) h)

-- one alternative more is told
pub told_more : (form : Form) (request : StudyRequest) (xs : List StudyPoint) (x : StudyPoint) (points : List Point) (point : Point) (old middle new : List ℕ)
    → TellsAlternatives form request xs points old middle → TellsAlternative form request x point middle new
    → TellsAlternatives form request (xs ++ x ∷ []) (points ++ point ∷ []) old new
unfolding TellsAlternatives
told_more form request [] x points point old middle new (none, same) h =
    (point, [], new, ap (λ ps. ps ++ point ∷ []) none, subst (λ from. TellsAlternative form request x point from new) same h, (refl, refl))
told_more form request (y ∷ xs) x points point old middle new (first, others, next, are, told, rest) h =
    (first, others ++ point ∷ [], next, ap (λ ps. ps ++ point ∷ []) are, told, told_more form request xs x others point next middle new rest h)
