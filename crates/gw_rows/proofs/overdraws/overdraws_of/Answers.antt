use Rattle.std.proofs.Common.{◌∙◌, ◌<◌, ◌++◌, ◌∷◌, [], length, get_or, take, ap, sym, arith}
use Rattle.std.proofs.lemmas.List.{take_more, take_all}
use Rattle.std.proofs.lemmas.List.Elements.{All-get_or}
use Rattle.gw_figures.specs.declared.run.Overdraw.{Overdraw}
use Rattle.gw_rows.specs.Reading.{IsStreamInRange}
use Rattle.gw_rows.specs.Rows.{overdraw_text}
use Rattle.gw_rows.proofs.Texts.{text_at, as_many}
use Rattle.gw_rows.proofs.overdraws.overdraws_of.Goals as goal

pub loop-i-preserved : goal.loop-i-preserved
loop-i-preserved c = λ os each are.
    let i = c.loop-i.i in
    let none : Overdraw = record { stream = 0; most = 0; own = 0 } in
    let many = as_many c.args.texts.now overdraw_text os are in
    let below : i < length os = omega (arith, c.loop-i-test.true) in
    let one = c.overdraw_in.ensures (get_or os i none) (All-get_or IsStreamInRange os i none below each)
    (text_at c.args.texts.now overdraw_text os i _ none are c.loop-i-test.true) in
    c.in_ok-push.ensures.items ∙ ap (λ ls. ls ++ c.overdraw_in.result ∷ []) (c.loop-i.invariant os each are)
    ∙ ap (λ o. take i os ++ o ∷ []) one ∙ sym (take_more os i none below)

pub returns : goal.returns
returns c = λ os each are.
    let many = as_many c.args.texts.now overdraw_text os are in
    c.loop-i.invariant os each are ∙ take_all c.loop-i.i os (omega (arith, many, c.loop-i-test.false))
