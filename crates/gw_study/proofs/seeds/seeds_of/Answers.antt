use Rattle.std.proofs.Common.{◌≤◌, ◌+◌, ◌*◌, arith}
use Rattle.std.proofs.lemmas.List.FromFn.{fill_by_all}
use Rattle.std.proofs.lemmas.List.Elements.{All-from_get_or}
use Rattle.gw_study.specs.Seeds.{seed_at, seeds_of_run}
use Rattle.gw_study.proofs.seeds.seeds_of.Goals as goal

pub returns-clause-value : goal.returns-clause-value
unfolding seeds_of_run
returns-clause-value c =
    fill_by_all (λ k. seed_at (16 * c.args.run + k)) c.loop-i.seeds 16 0 c.loop-i.invariant.whole (λ k below. c.loop-i.invariant.written k (omega arith))

pub returns-clause-seeds : goal.returns-clause-seeds
returns-clause-seeds c = All-from_get_or (λ seed. seed ≤ 2147483646) c.loop-i.seeds 0 (λ k below. c.loop-i.invariant.range k)
