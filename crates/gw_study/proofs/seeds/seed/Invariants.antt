use Rattle.std.proofs.Common.{◌≡◌}
use Rattle.gw_study.specs.Seeds.{IsSeed, seed_at}
use Rattle.gw_study.proofs.seeds.seed.Given as goal

abbrev pub invariant-loop : goal.invariant-loop
invariant-loop l = (l.seed ≡ seed_at l.counter) × IsSeed l.seed
