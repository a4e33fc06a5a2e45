use Rattle.std.proofs.Common.{◌∙◌, take, get_or, arith, ap}
use Rattle.std.proofs.lemmas.List.{take_more, take_all}
use Rattle.gw_rows.proofs.Decimals.{onto, onto_append, number_of_decimal}
use Rattle.gw_rows.proofs.amounts.whole_in.Goals as goal

pub loop-digit-preserved : goal.loop-digit-preserved
loop-digit-preserved c =
    let ds = c.args.digits.now in
    let i = c.loop-digit.digit-index in
    let more = ap (onto 0) (take_more ds i 0 c.loop-digit-test.true) ∙ onto_append 0 (take i ds) (get_or ds i 0) in
    let so_far = c.loop-digit.invariant in
    omega (arith, more, c.saturating_mul.ensures)

pub returns : goal.returns
returns c = λ n h is.
    let ds = c.args.digits.now in
    let all = ap (onto 0) (take_all c.loop-digit.digit-index ds c.loop-digit-test.false) in
    let same = ap (onto 0) is ∙ number_of_decimal n (omega arith) in
    let read = c.loop-digit.invariant in
    omega (arith, all, same)
