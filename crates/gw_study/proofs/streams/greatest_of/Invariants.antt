use Rattle.std.proofs.Common.{◌≡◌, drop, None}
use Rattle.gw_study.specs.Streams as model
use Rattle.gw_study.proofs.streams.greatest_of.Given as goal

-- the greatest of the runs so far, and those that are left, have the greatest of all
abbrev pub invariant-loop-i : goal.invariant-loop-i
invariant-loop-i l = model.greatest_of l.stream l.most (drop l.i l.runs) ≡ model.greatest_of l.stream None l.fn.runs
