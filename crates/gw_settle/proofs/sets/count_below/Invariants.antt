use Rattle.std.proofs.Common.{◌<◌, take}
use Rattle.std.specs.Prelude.{All}
use Rattle.gw_settle.proofs.sets.count_below.Given as goal

-- each so far is below the bound
abbrev pub invariant-loop-i : goal.invariant-loop-i
invariant-loop-i l = All (λ n. n < l.bound) (take l.i l.numbers)
