-- each byte before this place is counted
use Rattle.std.proofs.Common.{◌≡◌, ℕ, ◌<◌, get_or, true}
use Rattle.std.specs.Char.{is_ascii_digit}
use Rattle.gw_text_tokens.proofs.tokens.digits_length.Given as goal

abbrev pub invariant-loop-length : goal.invariant-loop-length
invariant-loop-length l = (k : ℕ) → k < l.length → is_ascii_digit (get_or l.bytes k 0) ≡ true
