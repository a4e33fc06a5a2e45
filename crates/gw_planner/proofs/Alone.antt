-- What is told of a model as it is, with other numbers, and of two models.
use Rattle.std.proofs.Common.{◌≡◌, List, ℕ, true, false, Result, Ok, Err, IfOk, inl, sym, subst}
use Rattle.std.specs.Prelude.{MatchBool}
use Rattle.gw_answers.specs.declared.answer.Answer.{Answer}
use Rattle.gw_study.specs.Study.{IsStudy}
use Rattle.gw_study.specs.declared.request.StudyRequest.{StudyRequest}
use Rattle.gw_alternatives.specs.Alternatives.{ArePoints}
use Rattle.gw_alternatives.specs.declared.form.Form.{Form}
use Rattle.gw_alternatives.specs.declared.study_point.StudyPoint.{StudyPoint}
use Rattle.gw_alternatives.specs.Told.{IsAnswerAbout}
use Rattle.gw_command_line.specs.Words.{Demand}
use Rattle.gw_planner.specs.Answers.{is_plain, request_of, words_of, IsFormOf, studied_with, studied_alone, comparison_answering}
use Rattle.gw_planner.specs.Works.{ArePairPoints}

-- of a model as it is, as a table, a study tells
pub of_study : {E : Type 0} (d : Demand) (bytes : List ℕ) (request : StudyRequest) (r : Result Answer E) → request ≡ request_of d → is_plain d.options ≡ true
    → IfOk r (λ a. IsStudy bytes request a.text.items a.status) → IfOk r (λ a. studied_alone d bytes a.text.items a.status)
of_study d bytes request (Ok a) is plain h =
    subst (λ b. MatchBool b (IsStudy bytes (request_of d) a.text.items a.status) (studied_with d bytes a.text.items a.status)) (sym plain)
    (subst (λ q. IsStudy bytes q a.text.items a.status) is h)
of_study d bytes request (Err e) is plain h = tt

-- of a model with other numbers, or in another form, what is told of its points
pub of_points : {E : Type 0} (d : Demand) (bytes : List ℕ) (form : Form) (points : List StudyPoint) (request : StudyRequest) (r : Result Answer E)
    → is_plain d.options ≡ false → IsFormOf d.options form → request ≡ request_of d → ArePoints bytes (words_of d.options) d.count points
    → IfOk r (λ a. IsAnswerAbout form request points a.text.items a.status) → IfOk r (λ a. studied_alone d bytes a.text.items a.status)
of_points d bytes form points request (Ok a) plain is_form is are h =
    subst (λ b. MatchBool b (IsStudy bytes (request_of d) a.text.items a.status) (studied_with d bytes a.text.items a.status)) (sym plain)
    (inl (form, is_form, inl (points, are, subst (λ q. IsAnswerAbout form q points a.text.items a.status) is h)))
of_points d bytes form points request (Err e) plain is_form is are h = tt

-- and of two models
pub of_models : {E : Type 0} (d : Demand) (bytes : List ℕ) (form : Form) (points : List StudyPoint) (request : StudyRequest) (r : Result Answer E)
    → IsFormOf d.options form → request ≡ request_of d → ArePairPoints d.count bytes points
    → IfOk r (λ a. IsAnswerAbout form request points a.text.items a.status) → IfOk r (λ a. comparison_answering d bytes a.text.items a.status)
of_models d bytes form points request (Ok a) is_form is (first, second, pair, are) h =
    inl (first, second, pair, (form, is_form, inl (points, are, subst (λ q. IsAnswerAbout form q points a.text.items a.status) is h)))
of_models d bytes form points request (Err e) is_form is are h = tt
