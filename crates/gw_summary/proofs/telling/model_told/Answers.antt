use Rattle.gw_summary.proofs.Results.{model_of}
use Rattle.gw_summary.proofs.telling.model_told.Goals as goal

pub returns : goal.returns
returns c =
    model_of c.args.rows.now c.args.study.now c.args.request c.args.point.now c.in_ok-results.results c.study_request-asked.result c.results_text.result
    c.in_ok-results.ensures.results (rw c.len.ensures at c.study_request-asked.ensures) c.results_text.ensures
