use Rattle.std.proofs.Common.{◌≡◌, ◌<◌, length}
use Rattle.std.specs.Prelude.{IfSome}
use Rattle.gw_assemblies.specs.Register.{is_entry_of, bucket_of, bucket_at}
use Rattle.gw_assemblies.proofs.Filing.{seen_from, passes_at, FirstFrom}
use Rattle.gw_assemblies.proofs.register.place_of.Given as goal

-- the walk has looked at the newer ones of the bucket
abbrev pub invariant-loop-at : goal.invariant-loop-at
invariant-loop-at l = record {
  at : IfSome l.at (λ r. (r < length l.entries) × (bucket_at (length l.buckets) l.entries r ≡ bucket_of (length l.buckets) l.key.block l.key.set));
  found : FirstFrom (passes_at (is_entry_of l.key.block l.key.set) l.entries) (seen_from l.at) (length l.entries) l.found;
}

abbrev pub decreases-loop-at : goal.decreases-loop-at
decreases-loop-at l = seen_from l.at
