use Rattle.std.proofs.Common.{codes}
use Rattle.std.proofs.lemmas.Result.{IfOk-equal}
use Rattle.gw_drawing.proofs.Series.{chain5}
use Rattle.gw_comparison.specs.Pictures.{interval, upright, cap}
use Rattle.gw_comparison.specs.Frames.{place_of}
use Rattle.gw_comparison.proofs.picture.put_interval.Goals as goal

pub returns : goal.returns
unfolding interval
returns c =
    let low = place_of c.args.frame.now c.args.mark.now.low in
    let high = place_of c.args.frame.now c.args.mark.now.high in
    IfOk-equal c.put-2.result _ _ _ c.put-2.ensures
    (chain5 _ _ _ _ _ (codes "<path d=\"") (upright c.args.x low high) (cap c.args.x low) (cap c.args.x high)
    (codes "\" stroke=\"#4477aa\" stroke-width=\"2\" fill=\"none\"/>\n")
    c.in_ok-put.ensures (rw (c.place_of-low.ensures.value, c.place_of-high.ensures.value) at c.in_ok-put_upright.ensures)
    (rw c.place_of-low.ensures.value at c.in_ok-put_cap.ensures) (rw c.place_of-high.ensures.value at c.in_ok-put_cap-2.ensures))
