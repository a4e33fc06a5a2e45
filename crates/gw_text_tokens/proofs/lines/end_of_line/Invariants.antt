-- no line feed stands before this place
use Rattle.std.proofs.Common.{◌≡◌, ℕ, ◌<◌, get_or, false}
use Rattle.gw_text_tokens.proofs.FirstLine.{is_line_feed}
use Rattle.gw_text_tokens.proofs.lines.end_of_line.Given as goal

abbrev pub invariant-loop-end : goal.invariant-loop-end
invariant-loop-end l = (k : ℕ) → k < l.end → is_line_feed (get_or l.text k 0) ≡ false
