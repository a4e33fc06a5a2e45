use Rattle.gw_summary.proofs.HoldingRows.{no_points, point_added, then_well}
use Rattle.gw_summary.proofs.rows.Rows.place_with.Goals as goal

pub returns-in-None-clause-study : goal.returns-in-None-clause-study
returns-in-None-clause-study c =
    let old = c.args.self.now in
    let name = c.args.name.now in
    λ s empty holds.
    let none = no_points s name old.points.items empty c.in-None.ensures.none holds.points in
    then_well c.add_point.result _ _ (λ place adds. point_added s name old c.add_point.new.self empty none adds holds) c.add_point.ensures.added
