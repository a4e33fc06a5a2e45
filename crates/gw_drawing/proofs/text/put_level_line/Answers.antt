use Rattle.std.proofs.Common.{codes}
use Rattle.std.proofs.lemmas.Result.{IfOk-equal}
use Rattle.gw_drawing.specs.Text.{tenths, level_line}
use Rattle.gw_drawing.proofs.Series.{chain3}
use Rattle.gw_drawing.proofs.text.put_level_line.Goals as goal

pub returns : goal.returns
unfolding level_line
returns c =
    IfOk-equal c.put-2.result _ _ _ c.put-2.ensures
    (chain3 _ _ _ (codes "<path d=\"M80.0 ") (tenths c.args.y) (codes "H700.0\" stroke=\"#ddd\"/>\n") c.in_ok-put.ensures c.in_ok-put_tenths.ensures)
