-- the names before this one are the same
use Rattle.std.proofs.Common.{◌≡◌, ◌<◌, ℕ, Vec, get_or}
use Rattle.std.specs.Global.{Global}
use Rattle.gw_summary.proofs.parameters.are_alike.Given as goal

abbrev pub invariant-loop-i : goal.invariant-loop-i
invariant-loop-i l = (k : ℕ) (d e : Vec ℕ Global) → k < l.i → (get_or l.first k d).items ≡ (get_or l.second k e).items
