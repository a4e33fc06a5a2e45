-- The object of a run.
use Rattle.std.specs.Prelude.{◌≡◌, ◌⊎◌, ℕ, List, [], ◌∷◌, Result}
use Rattle.gw_object.specs.Grammar.{HasSpelling, spelling}
use Rattle.gw_object.specs.declared.parts.Parts.{Parts}
use Rattle.gw_answers.specs.Requests.{AnswersAs}
use Rattle.gw_answers.specs.Status.{end_status, refusal_status}
use Rattle.gw_answers.specs.declared.answer.Answer.{Answer}
use Rattle.gw_study.specs.Seeds.{seeds_of_run}
use Rattle.gw_alternatives.specs.Alternatives.{ArePoints}
use Rattle.gw_alternatives.specs.declared.study_point.StudyPoint.{StudyPoint}

-- the same parts with the seeds of a run and this count
abbrev pub with_seeds : Parts → ℕ → ℕ → Parts
with_seeds parts run count = record parts { seeds = seeds_of_run run; count = count }

-- bytes are the spelling of parts, and the status says so; or why parts have none is told
abbrev pub IsSpelled : Parts → List ℕ → ℕ → Type 0
IsSpelled parts out status = ((status ≡ end_status) × HasSpelling parts × (out ≡ spelling parts)) ⊎ (status ≡ refusal_status)

-- the answer is these parts with the seeds of a run and this count
abbrev pub Reseeds : {E : Type 0} → Parts → ℕ → ℕ → Result Answer E → Type 0
Reseeds parts run count result = AnswersAs result (IsSpelled (with_seeds parts run count))

-- the object of a run of the first of these points
abbrev pub IsFirstObject : List StudyPoint → ℕ → List ℕ → ℕ → Type 0
IsFirstObject [] run out status = ⊥
IsFirstObject (point ∷ points) run out status = IsSpelled (with_seeds point.spec.parts run point.spec.count) out status

-- what is answered: that of the points that words ask for, or a refusal
abbrev pub IsObjectAnswer : List ℕ → List (List ℕ) → ℕ → ℕ → List ℕ → ℕ → Type 0
IsObjectAnswer text words run count out status =
    ((points : List StudyPoint) × ArePoints text words count points × IsFirstObject points run out status)
    ⊎ (status ≡ refusal_status)
