use Rattle.std.proofs.Common.{◌≡◌, ◌*◌, ◌^◌, take, pos, ◌+ℤ◌, neg_ℤ, ◌≤ℤ◌, fold}
use Rattle.gw_statistics.proofs.sums.total.Given as goal

abbrev pub invariant-loop-value : goal.invariant-loop-value
invariant-loop-value l =
    (l.sum ≡ fold ◌+ℤ◌ (pos 0) (take l.value-index l.values)) × (neg_ℤ (pos (2 ^ 100 * l.value-index)) ≤ℤ l.sum) × (l.sum ≤ℤ pos (2 ^ 100 * l.value-index))
