use Rattle.std.proofs.Common.{codes, ◌+◌}
use Rattle.std.proofs.lemmas.Result.{IfOk-equal}
use Rattle.gw_drawing.proofs.Series.{chain2}
use Rattle.gw_comparison.specs.Frames.{place_of}
use Rattle.gw_drawing.specs.Text.{level_line}
use Rattle.gw_comparison.specs.Pictures.{number_text}
use Rattle.gw_comparison.proofs.picture.put_level.Goals as goal

pub returns : goal.returns
returns c =
    let y = place_of c.args.frame.now c.args.number.now in
    IfOk-equal c.put_number_text.result _ _ _ (rw c.place_of-y.ensures.value at c.put_number_text.ensures)
    (chain2 _ _ (level_line y) (number_text 740 (y + 40) (codes " text-anchor=\"end\"") c.args.number.now)
    (rw c.place_of-y.ensures.value at c.in_ok-put_level_line.ensures))
