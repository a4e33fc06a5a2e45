-- there are as many places as were counted, and those that came have no line
use Rattle.std.proofs.Common.{◌≡◌, ◌≤◌, ℕ, length}
use Rattle.std.specs.Prelude.{max, slice_get}
use Rattle.gw_summary.specs.Adding.{has}
use Rattle.gw_summary.specs.Holding.{HasNoOtherLines}
use Rattle.gw_summary.specs.Keeping.{lines_at}
use Rattle.gw_summary.proofs.point.fill.Given as goal

abbrev pub invariant-loop : goal.invariant-loop
invariant-loop l =
    (length l.lines.items ≡ l.counter) × (lines_at l.lines.items ≡ lines_at l.fn.lines.items)
    × ((n : ℕ) → has (slice_get l.lines.items n) ≡ has (slice_get l.fn.lines.items n))
    × (length l.lines.items ≤ max (length l.fn.lines.items) l.end) × HasNoOtherLines l.lines.items l.fn.lines.items
