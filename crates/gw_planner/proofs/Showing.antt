-- What is shown of a job is shown of its model.
use Rattle.std.proofs.Common.{◌≡◌, ◌<◌, ℕ, ℤ, List, [], ◌∷◌, length, Result, Ok, Err, IfOk, arith, refl, slice_index_or, subst, inl}
use Rattle.gw_step.specs.Job.{Job}
use Rattle.gw_answers.specs.Answer.{Concludes}
use Rattle.gw_answers.specs.ModelJobs.{AnswersWith, IsJobOf, IsJobWith}
use Rattle.gw_answers.specs.Status.{end_status}
use Rattle.gw_answers.specs.declared.answer.Answer.{Answer}
use Rattle.gw_report.specs.Report.{Ends}
use Rattle.gw_trace.specs.Trace.{IsTrace}
use Rattle.gw_chart.specs.Charts.{IsChart, IsSheet}
use Rattle.gw_chart.specs.declared.window.Window.{Window}
use Rattle.gw_command_line.specs.declared.words.Question.TheVariants.{Points as Sheet, Trace, Report}
use Rattle.gw_command_line.specs.declared.words.Span.{Span}
use Rattle.gw_planner.specs.Answers.{chart_answering, question_answering, window_of}
use Rattle.gw_planner.specs.Works.{IsJobOfQuestion}
use Rattle.gw_parameters.specs.declared.fault.NoAnswer.{NoAnswer}
use Rattle.gw_parameters.specs.declared.points.Points.{Points}
use Rattle.gw_parameters.specs.declared.points.Points.TheVariants.{One}
use Rattle.gw_alternatives.specs.Alternatives.{ArePoints, ArePointsFrom}
use Rattle.gw_alternatives.specs.declared.study_point.StudyPoint.{StudyPoint}
use Rattle.gw_study.specs.Study.{IsCountedJob, IsStudy, IsTold}
use Rattle.gw_study.specs.declared.request.StudyRequest.{StudyRequest}

shown : {E : Type 0} (seed count : ℕ) (Shows : Job → List ℕ → Type 0) (bytes : List ℕ) (j : Job) (r : Result Answer E) → IsJobWith seed count bytes j
    → IfOk r (λ a. (a.status ≡ end_status) × Shows j a.text.items) → IfOk r (λ a. AnswersWith seed count Shows bytes a.text.items a.status)
shown seed count Shows bytes j (Ok a) is h = inl (h.0, (j, is, h.1))
shown seed count Shows bytes j (Err e) is h = tt

pub points_shown : {E : Type 0} (span : Span) (window : Window) (bytes : List ℕ) (j : Job) (r : Result Answer E) → window ≡ window_of span
    → IsJobOfQuestion (Sheet span) bytes j → IfOk r (λ a. (a.status ≡ end_status) × IsSheet window j a.text.items)
    → IfOk r (λ a. question_answering (Sheet span) bytes a.text.items a.status)
points_shown span window bytes j r at is h =
    shown 0 0 (IsSheet (window_of span)) bytes j r is (subst (λ (w : Window). IfOk r (λ a. (a.status ≡ end_status) × IsSheet w j a.text.items)) at h)

pub trace_shown : {E : Type 0} (from to : ℤ) (bytes : List ℕ) (j : Job) (r : Result Answer E) → IsJobOfQuestion (Trace from to) bytes j
    → IfOk r (λ a. (a.status ≡ end_status) × IsTrace from to j a.text.items)
    → IfOk r (λ a. question_answering (Trace from to) bytes a.text.items a.status)
trace_shown from to bytes j r is h = shown 0 0 (IsTrace from to) bytes j r is h

pub report_shown : {E : Type 0} (seed count : ℕ) (bytes : List ℕ) (j : Job) (r : Result Answer E) → IsJobOfQuestion (Report seed count) bytes j
    → IfOk r (λ a. Concludes j a.text.items a.status) → IfOk r (λ a. question_answering (Report seed count) bytes a.text.items a.status)
report_shown seed count bytes j r is h = shown seed count Ends bytes j r is h

-- other questions need no job
pub nothing_shown : {X : Type 0} → ⊥ → X
nothing_shown none = absurd none

pub chart_shown : {E : Type 0} (span : Span) (window : Window) (name bytes : List ℕ) (j : Job) (r : Result Answer E) → window ≡ window_of span
    → IsJobOf bytes j → IfOk r (λ a. (a.status ≡ end_status) × IsChart window name j a.text.items)
    → IfOk r (λ a. chart_answering span name bytes a.text.items a.status)
chart_shown span window name bytes j r at is h =
    shown 0 0 (IsChart (window_of span) name) bytes j r is
    (subst (λ (w : Window). IfOk r (λ a. (a.status ≡ end_status) × IsChart w name j a.text.items)) at h)

-- THE STUDY OF THE ONE POINT OF A MODEL AS IT IS

abbrev as_asked : Points → Result Points NoAnswer
as_asked points = Ok points

one_is : (points : Points) → as_asked points ≡ as_asked One → points ≡ One
one_is points is = cc

first_job : (bytes : List ℕ) (count : ℕ) (point : StudyPoint) (others : List StudyPoint) → ArePointsFrom bytes One count 0 (point ∷ others)
    → IsCountedJob bytes count point.spec
unfolding ArePointsFrom
first_job bytes count point others ((made, is_text, alternative), rest) = subst (λ t. IsCountedJob t count point.spec) is_text alternative.job

lone_job : (bytes : List ℕ) (count : ℕ) (point : StudyPoint) (others : List StudyPoint) → ArePoints bytes [] count (point ∷ others)
    → IsCountedJob bytes count point.spec
lone_job bytes count point others (asked, is_one, (are, many)) =
    first_job bytes count point others (subst (λ (a : Points). ArePointsFrom bytes a count 0 (point ∷ others)) (one_is asked is_one) are)

pub lone_told : {E : Type 0} (bytes : List ℕ) (request : StudyRequest) (point : StudyPoint) (others : List StudyPoint) (r : Result Answer E)
    → ArePoints bytes [] request.count (point ∷ others) → IfOk r (λ a. (a.status ≡ end_status) × IsTold point.spec request a.text.items)
    → IfOk r (λ a. IsStudy bytes request a.text.items a.status)
lone_told bytes request point others (Ok a) are h = inl (h.0, (point.spec, lone_job bytes request.count point others are, h.1))
lone_told bytes request point others (Err e) are h = tt

pub first_told : {E : Type 0} (bytes : List ℕ) (request : StudyRequest) (points : List StudyPoint) (point : StudyPoint) (r : Result Answer E)
    → point ≡ slice_index_or points 0 point → ArePoints bytes [] request.count points
    → IfOk r (λ a. (a.status ≡ end_status) × IsTold point.spec request a.text.items) → IfOk r (λ a. IsStudy bytes request a.text.items a.status)
first_told bytes request [] point r at (asked, is_one, (are, many)) h = let one = one_is asked is_one in absurd cc
first_told bytes request (p ∷ ps) point r at are h =
    let here : point ≡ p = at in
    lone_told bytes request p ps r are (subst (λ (x : StudyPoint). IfOk r (λ a. (a.status ≡ end_status) × IsTold x.spec request a.text.items)) here h)

-- such a model has a point
pub some_point : (bytes : List ℕ) (words : List (List ℕ)) (count : ℕ) (points : List StudyPoint) → words ≡ [] → ArePoints bytes words count points
    → 0 < length points
some_point bytes words count points none are = by_points points (subst (λ ws. ArePoints bytes ws count points) none are)
  where
    by_points : (all : List StudyPoint) → ArePoints bytes [] count all → 0 < length all
    by_points [] (asked, is_one, (are, many)) = let one = one_is asked is_one in absurd cc
    by_points (p ∷ ps) are = omega arith
