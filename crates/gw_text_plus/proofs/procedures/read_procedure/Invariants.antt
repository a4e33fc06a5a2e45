-- the last line with a token is one from the first on, and each line that was read is short
use Rattle.std.proofs.Common.{ℕ, ◌≤◌, ◌<◌, length, map, slice_index_or, []}
use Rattle.gw_text_tokens.specs.Lines.{IsShort}
use Rattle.gw_text_plus.proofs.procedures.read_procedure.Given as goal

abbrev pub invariant-loop-i : goal.invariant-loop-i
invariant-loop-i l =
    (l.first ≤ l.last) × (l.last < length l.lines) × (l.last ≤ l.i)
    × ((k : ℕ) → l.first ≤ k → k < l.i → IsShort (slice_index_or (map (λ x. x.now) l.lines) k []))
