use Rattle.std.proofs.Common.{codes}
use Rattle.std.proofs.lemmas.Result.{IfOk-equal}
use Rattle.gw_drawing.specs.Text.{tenths}
use Rattle.gw_drawing.proofs.Series.{chain3}
use Rattle.gw_chart.specs.Lines.{limit_at, limit}
use Rattle.gw_chart.proofs.line.put_limit.Goals as goal

pub returns : goal.returns
unfolding limit
returns c =
    IfOk-equal c.put-2.result _ _ _ c.put-2.ensures
    (chain3 _ _ _ (codes "<path d=\"M80.0 ") (tenths (limit_at c.args.plot c.args.axis c.args.limit))
    (codes "H700.0\" stroke=\"#333\" stroke-dasharray=\"4 4\"/>\n")
    c.in_ok-put.ensures (rw c.limit_at.ensures at c.in_ok-put_tenths.ensures))
