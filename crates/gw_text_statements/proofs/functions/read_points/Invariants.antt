-- each line that was read is short
use Rattle.std.proofs.Common.{ℕ, ◌≤◌, ◌<◌, ◌+◌, map, slice_index_or, []}
use Rattle.gw_text_tokens.specs.Lines.{IsShort}
use Rattle.gw_text_statements.proofs.functions.read_points.Given as goal

abbrev pub invariant-loop-i : goal.invariant-loop-i
invariant-loop-i l = (k : ℕ) → l.first + 1 ≤ k → k < l.i → IsShort (slice_index_or (map (λ x. x.now) l.lines) k [])
