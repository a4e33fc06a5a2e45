use Rattle.std.proofs.Common.{codes}
use Rattle.std.proofs.lemmas.Result.{IfOk-equal}
use Rattle.gw_drawing.specs.Text.{tenths}
use Rattle.gw_chart.specs.Document.{head, heading}
use Rattle.gw_drawing.proofs.Series.{chain7}
use Rattle.gw_chart.proofs.document.put_head.Goals as goal

pub returns : goal.returns
unfolding head
returns c =
    IfOk-equal c.put-4.result _ _ _ c.put-4.ensures
    (chain7 _ _ _ _ _ _ _
    (codes "<?xml version=\"1.0\" encoding=\"UTF-8\"?>\n<svg xmlns=\"http://www.w3.org/2000/svg\" version=\"1.1\" width=\"760\" height=\"")
    (tenths c.args.height)
    (codes "\" viewBox=\"-40 0 760 ")
    (tenths c.args.height)
    (codes "\" font-family=\"sans-serif\" font-size=\"12\">\n<rect x=\"-40\" width=\"100%\" height=\"100%\" fill=\"#fff\"/>\n<text x=\"80\" y=\"28\" font-size=\"15\" font-weight=\"bold\">")
    (heading c.args.name.now c.args.window c.args.end)
    (codes "</text>\n<text x=\"80\" y=\"45\" fill=\"#555\">Lines: what stood at 500 moments, evenly apart. Pale strokes: the least and the greatest between.</text>\n")
    c.in_ok-put.ensures c.in_ok-put_tenths.ensures c.in_ok-put-2.ensures c.in_ok-put_tenths-2.ensures c.in_ok-put-3.ensures c.in_ok-put_heading.ensures)
