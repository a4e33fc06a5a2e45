use Rattle.std.proofs.Common.{codes}
use Rattle.std.proofs.lemmas.Result.{IfOk-equal}
use Rattle.gw_drawing.specs.Text.{tenths}
use Rattle.gw_drawing.proofs.Series.{chain5}
use Rattle.gw_comparison.specs.Pictures.{dot}
use Rattle.gw_comparison.proofs.picture.put_dot.Goals as goal

pub returns : goal.returns
unfolding dot
returns c =
    IfOk-equal c.put-3.result _ _ _ c.put-3.ensures
    (chain5 _ _ _ _ _ (codes "<circle cx=\"") (tenths c.args.x) (codes "\" cy=\"") (tenths c.args.y) (codes "\" r=\"4\" fill=\"#4477aa\"/>\n")
    c.in_ok-put.ensures c.in_ok-put_tenths.ensures c.in_ok-put-2.ensures c.in_ok-put_tenths-2.ensures)
