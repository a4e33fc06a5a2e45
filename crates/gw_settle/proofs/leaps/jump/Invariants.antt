use Rattle.std.proofs.Common.{◌≡◌}
use Rattle.gw_settle.proofs.leaps.jump.Given as goal

-- nothing was jumped over so far
abbrev pub invariant-loop-times : goal.invariant-loop-times
invariant-loop-times l = l.draft ≡ l.fn.draft

abbrev pub decreases-loop-times : goal.decreases-loop-times
decreases-loop-times l = l.times
