-- Alternatives: what each is called, and its job.
use Rattle.std.specs.Prelude.{◌≡◌, ℕ, ◌+◌, List, [], ◌∷◌, length, codes, Result, Ok}
use Rattle.gw_step.specs.Job.{Job}
use Rattle.gw_parameters.specs.Points.{AsksFor, IsPoint, name_of, count_of}
use Rattle.gw_parameters.specs.declared.points.Points.{Points}
use Rattle.gw_study.specs.Study.{IsCountedJob}
use Rattle.gw_alternatives.specs.declared.study_point.StudyPoint.{StudyPoint}

-- an alternative has this name, and the job of this text with this count
pub record IsAlternative (name text : List ℕ) (count : ℕ) (a : StudyPoint) : Type 0 where
  pub called : a.name.items ≡ name
  pub job : IsCountedJob text count a.spec

-- POINTS

-- it is a point of a text, by its number from 0: the text but for the digits of its numbers
abbrev pub IsPointAt : List ℕ → Points → ℕ → ℕ → StudyPoint → Type 0
IsPointAt text points count point a =
    (made : List ℕ) × IsPoint text points point made × IsAlternative (name_of points point) made count a

-- these are the points of a text from one on, in order
unfoldable pub ArePointsFrom : List ℕ → Points → ℕ → ℕ → List StudyPoint → Type 0
ArePointsFrom text points count point [] = Unit {0}
ArePointsFrom text points count point (a ∷ rest) =
    IsPointAt text points count point a × ArePointsFrom text points count (point + 1) rest

-- these are all points of a text
abbrev pub ArePointsOf : List ℕ → Points → ℕ → List StudyPoint → Type 0
ArePointsOf text points count alternatives =
    ArePointsFrom text points count 0 alternatives × (length alternatives ≡ count_of points)

-- these are all that words ask for
abbrev pub ArePoints : List ℕ → List (List ℕ) → ℕ → List StudyPoint → Type 0
ArePoints text words count alternatives =
    (points : Points) × AsksFor words (Ok points) × ArePointsOf text points count alternatives

-- one alternative without a name, with this job
abbrev pub IsLonePoint : Job → List StudyPoint → Type 0
IsLonePoint j alternatives = (a : StudyPoint) × (alternatives ≡ a ∷ []) × (a.name.items ≡ []) × (a.spec ≡ j)

-- TWO MODELS

-- these are two models, A and B
pub record AreModels (first second : List ℕ) (count : ℕ) (alternatives : List StudyPoint) : Type 0 where
  pub a : StudyPoint
  pub b : StudyPoint
  pub both : alternatives ≡ a ∷ b ∷ []
  pub is_a : IsAlternative (codes "A") first count a
  pub is_b : IsAlternative (codes "B") second count b
