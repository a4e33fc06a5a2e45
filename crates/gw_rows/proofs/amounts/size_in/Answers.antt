use Rattle.std.proofs.Common.{◌≡◌, ◌∙◌, ◌/◌, ◌%◌, drop, ap, arith}
use Rattle.std.specs.Fmt.{decimal}
use Rattle.std.specs.List.{before_first, after_first}
use Rattle.gw_rows.specs.Amounts.{fraction}
use Rattle.gw_rows.proofs.AmountFields.{is_point, before_point, behind_point}
use Rattle.gw_rows.proofs.amounts.size_in.Goals as goal

pub returns : goal.returns
returns c = λ n h is.
    let front : c.split_at_byte.result.0.now ≡ decimal (n / 1000000) =
    c.split_at_byte.ensures.front ∙ ap (before_first is_point) is ∙ before_point n (omega arith) in
    let back : c.split_at_byte.result.1.now ≡ drop 1 (fraction (n % 1000000)) =
    c.split_at_byte.ensures.back ∙ ap (after_first is_point) is ∙ behind_point n (omega arith) in
    let whole = c.whole_in.ensures (n / 1000000) (omega arith) front in
    let parts = c.millionths_in.ensures (n % 1000000) (omega arith) back in
    omega (arith, whole, parts, c.saturating_mul.ensures)
