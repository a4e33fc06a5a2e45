use Rattle.std.proofs.Common.{codes}
use Rattle.std.proofs.lemmas.Result.{IfOk-equal}
use Rattle.gw_drawing.specs.Text.{text_at}
use Rattle.gw_drawing.proofs.Series.{chain3}
use Rattle.gw_statistics.specs.Telling.{told}
use Rattle.gw_comparison.specs.Pictures.{number_text}
use Rattle.gw_comparison.proofs.picture.put_number_text.Goals as goal

pub returns : goal.returns
unfolding number_text
returns c =
    IfOk-equal c.put.result _ _ _ c.put.ensures
    (chain3 _ _ _ (text_at c.args.x c.args.y c.args.how.now) (told c.args.number.now) (codes "</text>\n") c.in_ok-put_text_at.ensures
    c.in_ok-put_told.ensures)
