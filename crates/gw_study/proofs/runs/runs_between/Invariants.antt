use Rattle.std.proofs.Common.{◌≡◌, ◌+◌, length}
use Rattle.gw_study.specs.Runs.{AreRunsFrom}
use Rattle.gw_study.proofs.runs.runs_between.Given as goal

-- the runs so far are those of the first numbers
abbrev pub invariant-loop-number : goal.invariant-loop-number
invariant-loop-number l = (l.fn.first + length l.runs.items ≡ l.number) × AreRunsFrom l.setup.spec.now l.setup.from l.fn.first l.runs.items
