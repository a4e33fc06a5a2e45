use Rattle.std.proofs.Common.{codes}
use Rattle.std.proofs.lemmas.Result.{IfOk-equal}
use Rattle.gw_drawing.specs.Text.{tenths}
use Rattle.gw_drawing.proofs.Series.{chain6}
use Rattle.gw_comparison.specs.Pictures.{upright}
use Rattle.gw_comparison.proofs.picture.put_upright.Goals as goal

pub returns : goal.returns
unfolding upright
returns c =
    IfOk-equal c.put_tenths-3.result _ _ _ c.put_tenths-3.ensures
    (chain6 _ _ _ _ _ _ (codes "M") (tenths c.args.x) (codes " ") (tenths c.args.low) (codes "V") (tenths c.args.high)
    c.in_ok-put.ensures c.in_ok-put_tenths.ensures c.in_ok-put-2.ensures c.in_ok-put_tenths-2.ensures c.in_ok-put-3.ensures)
