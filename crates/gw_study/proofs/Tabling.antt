-- What is told of a study's results is told of its job.
use Rattle.std.proofs.Common.{ℕ, List, subst}
use Rattle.gw_step.specs.Job.{Job}
use Rattle.gw_figures.specs.Labels.{Label, labels, labels_of}
use Rattle.gw_study.specs.declared.request.StudyRequest.{StudyRequest}
use Rattle.gw_study.specs.declared.telling.Results.{Results}
use Rattle.gw_study.specs.Study.{AreResultsOf, IsResultsText, IsTold}

pub told : (j : Job) (request : StudyRequest) (results : Results) (text : List ℕ) → AreResultsOf j request results
    → IsResultsText (labels results.figures.items) results.runs.items request j.count text → IsTold j request text
told j request results text h is =
    (results.runs.items, h.number, h.runs, subst (λ (figures : List Label). IsResultsText figures results.runs.items request j.count text) h.figures is)
