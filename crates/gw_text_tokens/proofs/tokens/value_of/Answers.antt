-- Each digit is the next one, and at the end none is left.
use Rattle.std.proofs.Common.{◌≡◌, ◌+◌, ◌-◌, ◌*◌, ◌^◌, min, drop, get_or, ap, sym, ◌∙◌, arith}
use Rattle.std.proofs.lemmas.List.{at_drop_all}
use Rattle.gw_text_tokens.specs.Numbers.{spelled_number}
use Rattle.gw_text_tokens.proofs.Saturated.{next_digit}
use Rattle.gw_text_tokens.proofs.tokens.value_of.Goals as goal

pub loop-digit-preserved : goal.loop-digit-preserved
loop-digit-preserved c =
    let digits = c.args.digits.now in
    let i = c.loop-digit.digit-index in
    let e : c.saturating_add-value.result ≡ min (2 ^ 64 - 1) (min (2 ^ 64 - 1) (c.loop-digit.value * 10) + (get_or digits i 0 - 48)) =
    omega (arith, c.saturating_add-value.ensures, c.from.ensures, c.saturating_sub.ensures, c.saturating_mul.ensures) in
    let next = next_digit (2 ^ 64 - 1) c.loop-digit.value digits i c.loop-digit-test.true in
    (c.saturating_add-value.type_inv, ap (λ n. min (2 ^ 64 - 1) (spelled_number n (drop (i + 1) digits))) e ∙ next ∙ c.loop-digit.invariant.1)

pub returns : goal.returns
returns c =
    let left = c.loop-digit.digit-index in
    let e = at_drop_all (λ ds. min (2 ^ 64 - 1) (spelled_number c.loop-digit.value ds)) c.args.digits.now left c.loop-digit-test.false in
    let m : min (2 ^ 64 - 1) c.loop-digit.value ≡ c.loop-digit.value = omega (arith, c.loop-digit.invariant.0) in
    sym m ∙ sym e ∙ c.loop-digit.invariant.1
