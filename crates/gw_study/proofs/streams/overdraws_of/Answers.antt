use Rattle.std.proofs.Common.{arith}
use Rattle.gw_study.specs.Streams.{overdraws_from}
use Rattle.gw_study.proofs.Looking.{next_overdraw}
use Rattle.gw_study.proofs.streams.overdraws_of.Goals as goal

pub loop-stream-preserved : goal.loop-stream-preserved
loop-stream-preserved c =
    next_overdraw c.args.parts.now c.args.steps c.args.values.now c.loop-stream.stream c.overdraw.result c.loop-stream.all.items c.push.new.all.items
    (overdraws_from c.args.parts.now c.args.steps c.args.values.now 1 16) (omega arith) c.loop-stream.invariant c.overdraw.ensures c.in_ok-push.ensures
