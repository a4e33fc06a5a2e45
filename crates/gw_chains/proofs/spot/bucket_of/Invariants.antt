use Rattle.std.proofs.Common.{◌≡◌, ◌<◌, ◌-◌, drop, length}
use Rattle.gw_chains.specs.Buckets.{total}
use Rattle.gw_chains.specs.Spots.{place_at}
use Rattle.gw_chains.proofs.spot.bucket_of.Given as goal

-- the place lies in this bucket or in a later one
abbrev pub invariant-loop-passed : goal.invariant-loop-passed
invariant-loop-passed l = record {
  place : place_at l.row.items l.bucket l.passed ≡ l.place;
  left : l.passed < total (drop l.bucket l.row.items);
}

abbrev pub decreases-loop-passed : goal.decreases-loop-passed
decreases-loop-passed l = length l.row.items - l.bucket
