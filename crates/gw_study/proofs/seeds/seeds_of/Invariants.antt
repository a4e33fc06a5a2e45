use Rattle.std.proofs.Common.{◌≡◌, ◌≤◌, ℕ, ◌<◌, ◌+◌, ◌*◌, length, get_or}
use Rattle.gw_study.specs.Seeds.{seed_at}
use Rattle.gw_study.proofs.seeds.seeds_of.Given as goal

-- each seed so far stands at its place
abbrev pub invariant-loop-i : goal.invariant-loop-i
invariant-loop-i l = record {
  whole : length l.seeds ≡ 16;
  written : (k : ℕ) → k < l.i → get_or l.seeds k 0 ≡ seed_at (16 * l.run + k);
  range : (k : ℕ) → get_or l.seeds k 0 ≤ 2147483646;
}
