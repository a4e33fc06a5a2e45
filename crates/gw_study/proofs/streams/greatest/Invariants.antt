use Rattle.std.proofs.Common.{◌≡◌, drop}
use Rattle.gw_study.specs.Streams as model
use Rattle.gw_study.proofs.streams.greatest.Given as goal

-- the greatest so far, and those that are left, have the greatest of all
abbrev pub invariant-loop-i : goal.invariant-loop-i
invariant-loop-i l = model.greatest l.stream l.most (drop l.i l.overdraws) ≡ model.greatest l.stream l.fn.so_far l.fn.overdraws
