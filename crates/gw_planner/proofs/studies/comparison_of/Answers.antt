use Rattle.gw_command_line.specs.Words.{study_view}
use Rattle.gw_planner.proofs.Alone.{of_models}
use Rattle.gw_planner.proofs.studies.comparison_of.Goals as goal

pub returns : goal.returns
returns g c =
    of_models (study_view c.args.asked.now) c.args.input.now c.form_of-form.result c.args.points.now c.request_of-request.result
    c.study_points.result c.form_of-form.ensures c.request_of-request.ensures c.requires.points c.study_points.ensures
