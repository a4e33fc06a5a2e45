use Rattle.std.proofs.Common.{◌≡◌}
use Rattle.slab.specs.Slab.{get}
use Rattle.gw_chains.specs.Buckets.{last_or, run}
use Rattle.gw_chains.specs.Spots.{AreThere}
use Rattle.gw_chains.proofs.spot.last_link.Given as goal

-- the links that are left end where all of them do
abbrev pub invariant-loop-left : goal.invariant-loop-left
invariant-loop-left g l = record {
  same : last_or l.last (run (get l.links) l.left l.last) ≡ last_or l.first (run (get l.links) l.count l.first);
  there : AreThere (get l.links) (run (get l.links) l.left l.last);
}

abbrev pub decreases-loop-left : goal.decreases-loop-left
decreases-loop-left g l = l.left
