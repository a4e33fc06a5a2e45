-- The rows of a point's runs.
use Rattle.std.proofs.Common.{◌≡◌, ◌∙◌, ◌<◌, ◌^◌, ◌++◌, ℕ, List, Result, Ok, Err, OnOk, ap, subst}
use Rattle.std.specs.List.{All}
use Rattle.gw_step.specs.Job.{JobFits}
use Rattle.gw_figures.specs.Labels.{Label, labels, labels_of}
use Rattle.gw_rows.specs.Reading.{MayBeInRange}
use Rattle.gw_rows.specs.Rows.{Source, rows_from}
use Rattle.gw_study.specs.Study.{AreResultsBetween}
use Rattle.gw_study.specs.Table.{Adds}
use Rattle.gw_study.specs.declared.telling.Results.{Results}
use Rattle.gw_alternatives.specs.declared.study_point.StudyPoint.{StudyPoint}
use Rattle.gw_shards.specs.Rows.{AreRowsOf, Common, MayBeRead, source}

-- what can be read is said of the runs of a job that can be run
pub may_be_read : (common : Common) (point : StudyPoint) → JobFits point.spec → common.from < 2 ^ 64 → MayBeRead common point
may_be_read common point fits from = record { least = fits.count_least; most = fits.count_most; from = from; spelled = fits.spelled }

-- rows of results are those of the point's runs
pub rows_added : {E : Type 0} (r : Result (Unit {0}) E) (common : Common) (point : StudyPoint) (first end : ℕ) (results : Results) (there : Source)
    (old new : List ℕ) → AreResultsBetween point.spec common.from first end results → there ≡ source common point → MayBeRead common point
    → OnOk r (new ≡ old ++ rows_from (labels results.figures.items) there first results.runs.items)
    → OnOk r (All (MayBeInRange (labels results.figures.items)) results.runs.items) → OnOk r (Adds (AreRowsOf common point first end) old new)
rows_added (Ok x) common point first end results there old new are is may added range =
    let named = labels_of point.spec.parts in
    let by_figures = ap (λ (ls : List Label). rows_from ls there first results.runs.items) are.figures in
    let by_source = ap (λ (s : Source). rows_from named s first results.runs.items) is in
    let rows : AreRowsOf common point first end (rows_from (labels results.figures.items) there first results.runs.items) = record {
      runs = results.runs.items;
      number = are.number;
      lone = are.runs;
      range = subst (λ (ls : List Label). All (MayBeInRange ls) results.runs.items) are.figures range;
      may = may;
      text_is = by_figures ∙ by_source;
    } in
    (rows_from (labels results.figures.items) there first results.runs.items, rows, added)
rows_added (Err e) common point first end results there old new are is may added range = tt
