use Rattle.std.proofs.Common.{codes}
use Rattle.std.proofs.lemmas.Result.{IfOk-equal}
use Rattle.std.proofs.Common.{◌-◌}
use Rattle.gw_drawing.specs.Text.{tenths}
use Rattle.gw_drawing.proofs.Series.{chain5}
use Rattle.gw_comparison.specs.Pictures.{cap}
use Rattle.gw_comparison.proofs.picture.put_cap.Goals as goal

pub returns : goal.returns
unfolding cap
returns c =
    IfOk-equal c.put-3.result _ _ _ c.put-3.ensures
    (chain5 _ _ _ _ _ (codes "M") (tenths (c.args.x - 60)) (codes " ") (tenths c.args.y) (codes "h12.0")
    c.in_ok-put.ensures c.in_ok-put_tenths.ensures c.in_ok-put-2.ensures c.in_ok-put_tenths-2.ensures)
