use Rattle.std.specs.Prelude.{◌-◌, min}
use Rattle.gw_command_line.specs.Words.{runs_view}
use Rattle.gw_planner.specs.Answers.{words_of}
use Rattle.gw_page.proofs.Costs.{points_found}
use Rattle.gw_page.proofs.limits.allowance_of_rows.Goals as goal

pub returns : goal.returns
returns c text are =
    let d = runs_view c.args.runs.now in
    points_found text (words_of d.options) d.count (min d.first 511) (d.end - d.first) c.args.points.now c.allowance_of_points.result are
    (rw (c.min.ensures, c.from-made.ensures) at c.allowance_of_points.ensures)
