use Rattle.std.proofs.Common.{codes}
use Rattle.std.proofs.lemmas.Result.{IfOk-equal}
use Rattle.gw_drawing.specs.Text.{xml_text}
use Rattle.gw_chart.specs.Plots.{title, colour_of, shown_in}
use Rattle.gw_drawing.proofs.Series.{chain7}
use Rattle.gw_chart.proofs.plot.put_title.Goals as goal

pub returns : goal.returns
unfolding title
returns c =
    IfOk-equal c.put-6.result _ _ _ c.put-6.ensures
    (chain7 _ _ _ _ _ _ _
    (codes "<rect x=\"80\" y=\"12\" width=\"10\" height=\"10\" fill=\"") (colour_of c.args.plot)
    (codes "\"/>\n<text x=\"96\" y=\"21\"><tspan font-weight=\"bold\">") (xml_text c.args.name.now)
    (codes "</tspan><tspan fill=\"#555\">: ") (shown_in c.args.plot) (codes "</tspan></text>\n")
    c.in_ok-put.ensures (rw c.colour_of.ensures at c.in_ok-put-2.ensures) c.in_ok-put-3.ensures c.in_ok-put_escaped.ensures c.in_ok-put-4.ensures
    (rw c.words_of.ensures.shown at c.in_ok-put-5.ensures))
