use Rattle.std.proofs.Common.{◌≡◌, ◌∙◌, ◌++◌, take, get_or, replicate, arith, ap}
use Rattle.std.proofs.lemmas.List.{take_more}
use Rattle.gw_rows.proofs.Decimals.{onto, onto_append, padded}
use Rattle.gw_rows.proofs.AmountFields.{six, six_of_fraction}
use Rattle.gw_rows.proofs.amounts.millionths_in.Goals as goal

pub loop-i-preserved : goal.loop-i-preserved
loop-i-preserved c =
    let ds = c.args.digits.now in
    let i = c.loop-i.i in
    let here = padded ds i c.loop-i-test.true in
    let more = ap (onto 0) (take_more (ds ++ replicate 6 48) i 0 here.0) ∙ onto_append 0 (take i (ds ++ replicate 6 48)) (get_or (ds ++ replicate 6 48) i 0) in
    let digit = here.1 in
    let so_far = c.loop-i.invariant in
    omega (arith, more, digit, c.saturating_mul.ensures)

pub returns : goal.returns
returns c = λ m h is.
    let six_are : c.loop-i.i ≡ 6 = omega arith in
    let all = ap (λ i. onto 0 (take i (c.args.digits.now ++ replicate 6 48))) six_are in
    let same = ap six is ∙ six_of_fraction m h in
    let read = c.loop-i.invariant in
    omega (arith, all, same)
