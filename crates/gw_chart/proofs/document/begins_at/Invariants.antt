use Rattle.std.proofs.Common.{◌≡◌, ◌≤◌, ◌+◌, ◌*◌}
use Rattle.gw_chart.specs.Document.{begins_at}
use Rattle.gw_chart.proofs.document.begins_at.Given as goal

abbrev pub invariant-loop-i : goal.invariant-loop-i
invariant-loop-i l = (l.y ≡ begins_at l.entities l.i) × (l.y ≤ 500 + 1800 * l.i)
