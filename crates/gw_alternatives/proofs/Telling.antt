-- What is told of alternatives, or that something is refused.
use Rattle.std.proofs.Common.{◌≡◌, ℕ, List, ◌∙◌, Result, Ok, Err, inl, inr, refl, ap, sym}
use Rattle.std.proofs.lemmas.List.{append_assoc}
use Rattle.std.specs.Prelude.{◌++◌, codes, IfOk, OnOk, MatchResult, Vec}
use Rattle.std.specs.Global.{Global}
use Rattle.gw_answers.specs.Status.{refusal_status}
use Rattle.gw_answers.specs.declared.answer.Answer.{Answer}
use Rattle.gw_comparison.specs.declared.point.Point.{Point}
use Rattle.gw_figures.specs.Labels.{labels}
use Rattle.gw_study.specs.Study.{AreResultsOf, IsResultsText}
use Rattle.gw_study.specs.Table.{Adds}
use Rattle.gw_study.specs.declared.request.StudyRequest.{StudyRequest}
use Rattle.gw_study.specs.declared.telling.Results.{Results}
use Rattle.gw_alternatives.specs.declared.study_point.StudyPoint.{StudyPoint}
use Rattle.gw_parameters.specs.declared.fault.NoAnswer.{NoAnswer}
use Rattle.gw_alternatives.specs.declared.form.Form.{Form}
use Rattle.gw_alternatives.specs.Told.{AddsTableIn, head_line, IsAnswerAbout, IsPointBy, IsTableOf, IsToldOr, TellsAlternative}

pub told_or : {E : Type 0} (Are : List StudyPoint → Type 0) (form : Form) (request : StudyRequest)
    (found : Result (Vec StudyPoint Global) NoAnswer) (a : Result Answer E)
    → IfOk found (λ all. Are all.items)
    → MatchResult found (λ all. IfOk a (λ a. IsAnswerAbout form request all.items a.text.items a.status)) (λ none. IfOk a (λ a. a.status ≡ refusal_status))
    → IfOk a (λ a. IsToldOr Are form request a.text.items a.status)
told_or Are form request (Ok all) (Ok a) are h = inl (all.items, are, h)
told_or Are form request (Ok all) (Err e) are h = tt
told_or Are form request (Err none) (Ok a) are h = inr h
told_or Are form request (Err none) (Err e) are h = tt

-- a head and what is told of runs are a table
pub table_of : {E : Type 0} (r : Result (Unit {0}) E) (name : List ℕ) (results : Results) (request : StudyRequest) (count : ℕ) (old head new table : List ℕ)
    → head ≡ old ++ head_line name → IsResultsText (labels results.figures.items) results.runs.items request count table
    → OnOk r (new ≡ head ++ table ++ codes "\n") → OnOk r (Adds (IsTableOf name results request count) old new)
table_of (Ok u) name results request count old head new table is told h = (
  head_line name ++ table ++ codes "\n",
  (table, told, refl),
  h ∙ ap (λ x. x ++ table ++ codes "\n") is ∙ append_assoc (old ++ head_line name) table (codes "\n")
      ∙ append_assoc old (head_line name) (table ++ codes "\n") ∙ ap (λ x. old ++ x) (sym (append_assoc (head_line name) table (codes "\n"))),
)
table_of (Err e) name results request count old head new table is told h = tt

-- the runs of an alternative, its table and its point are what is told of it
pub told_by : {E : Type 0} (r : Result Point E) (form : Form) (request : StudyRequest) (a : StudyPoint) (results : Results) (old new : List ℕ)
    → AreResultsOf a.spec request results → AddsTableIn form request a results old new → IfOk r (IsPointBy request.all a.name.items results)
    → IfOk r (λ point. TellsAlternative form request a point old new)
told_by (Ok point) form request a results old new runs table h = record { results = results; runs = runs; point_is = h; table = table }
told_by (Err e) form request a results old new runs table h = tt
