-- the digits read and those that are left spell the number
use Rattle.std.proofs.Common.{◌≡◌, ◌<◌, ◌-◌, ◌^◌, min, drop}
use Rattle.gw_text_tokens.specs.Numbers.{spelled_number}
use Rattle.gw_text_tokens.proofs.tokens.value_of.Given as goal

abbrev pub invariant-loop-digit : goal.invariant-loop-digit
invariant-loop-digit l =
    (l.value < 2 ^ 64) × (min (2 ^ 64 - 1) (spelled_number l.value (drop l.digit-index l.digits)) ≡ min (2 ^ 64 - 1) (spelled_number 0 l.digits))
