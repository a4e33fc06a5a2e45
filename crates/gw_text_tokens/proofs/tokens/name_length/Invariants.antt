-- each byte before this place is counted
use Rattle.std.proofs.Common.{◌≡◌, ℕ, ◌<◌, get_or, true}
use Rattle.gw_text_tokens.specs.Heads.{is_in_name}
use Rattle.gw_text_tokens.proofs.tokens.name_length.Given as goal

abbrev pub invariant-loop-length : goal.invariant-loop-length
invariant-loop-length l = (k : ℕ) → k < l.length → is_in_name (get_or l.bytes k 0) ≡ true
