use Rattle.gw_planner.proofs.Showing.{first_told}
use Rattle.gw_planner.proofs.studies.lone_study.Goals as goal

pub returns : goal.returns
returns g c bytes are =
    first_told bytes c.args.request.now c.args.points.now c.point-item.result c.study.result c.point-item.is are c.study.ensures
