use Rattle.gw_command_line.specs.Words.{study_view}
use Rattle.gw_planner.specs.Answers.{words_of}
use Rattle.gw_page.specs.Limits.{first_of}
use Rattle.gw_page.proofs.Costs.{points_found}
use Rattle.gw_page.proofs.limits.allowance_of_study.Goals as goal

pub returns : goal.returns
returns c text are =
    let d = study_view c.args.study.now in
    points_found text (words_of d.options) d.count (first_of d) d.runs c.args.points.now c.allowance_of_points.result are
    (rw (c.unwrap_or-seeds.ensures, c.from.ensures) at c.allowance_of_points.ensures)
