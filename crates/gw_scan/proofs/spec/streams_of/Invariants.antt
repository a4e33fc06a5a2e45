use Rattle.std.proofs.Common.{◌≡◌, ℕ, ◌<◌, length, get_or}
use Rattle.gw_step.specs.Job.{seed_at}
use Rattle.gw_scan.proofs.spec.streams_of.Given as goal

-- each stream so far has its seed
abbrev pub invariant-loop-i : goal.invariant-loop-i
invariant-loop-i l = record {
  whole : length l.streams ≡ 16;
  written : (k : ℕ) → k < l.i → get_or l.streams k 0 ≡ seed_at l.seeds k;
}
