use Rattle.std.proofs.Common.{arith}
use Rattle.std.proofs.lemmas.List.FromFn.{fill_by_all}
use Rattle.gw_step.specs.Job.{seed_at}
use Rattle.gw_scan.proofs.spec.streams_of.Goals as goal

pub returns : goal.returns
returns c = fill_by_all (seed_at c.args.seeds.now) c.loop-i.streams 16 0 c.loop-i.invariant.whole (λ k h. c.loop-i.invariant.written k (omega arith))
