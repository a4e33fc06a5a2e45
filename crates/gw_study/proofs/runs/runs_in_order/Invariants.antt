use Rattle.std.proofs.Common.{◌≡◌, ◌≤◌, ◌-◌, length}
use Rattle.gw_study.specs.Runs.{AreRunsFrom}
use Rattle.gw_study.proofs.runs.runs_in_order.Given as goal

-- the runs so far are those of the first numbers
abbrev pub invariant-loop-made : goal.invariant-loop-made
invariant-loop-made g l =
    (l.made ≤ l.count) × (length l.runs.items ≡ l.made) × AreRunsFrom l.setup.spec.now l.setup.from l.first l.runs.items

abbrev pub decreases-loop-made : goal.decreases-loop-made
decreases-loop-made g l = l.count - l.made
