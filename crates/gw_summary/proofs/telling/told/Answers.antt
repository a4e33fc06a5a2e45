use Rattle.std.proofs.Common.{arith, ◌∙◌, sym}
use Rattle.gw_summary.proofs.Results.{single, rows_of_model}
use Rattle.gw_summary.proofs.WholeStudies.{lone_told}
use Rattle.gw_summary.proofs.telling.told.Goals as goal

pub returns-in-len1-clause-rows : goal.returns-in-len1-clause-rows
returns-in-len1-clause-rows c =
    rows_of_model c.args.rows.now c.args.study.now c.args.request c.point-item.result c.model_told.result
    (sym c.points.ensures ∙ single c.points.result.now c.point-item.result (omega (arith, c.in-len1.len_at_least, c.in-len1.len_below)) c.point-item.is)
    c.model_told.ensures

pub returns-in-len1-clause-alone : goal.returns-in-len1-clause-alone
returns-in-len1-clause-alone c =
    lone_told c.args.rows.now c.args.study.now c.args.request c.point-item.result c.model_told.result
    (sym c.points.ensures ∙ single c.points.result.now c.point-item.result (omega (arith, c.in-len1.len_at_least, c.in-len1.len_below)) c.point-item.is)
    c.model_told.ensures
