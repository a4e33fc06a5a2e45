use Rattle.std.proofs.Common.{arith, ◌++◌}
use Rattle.gw_study.specs.Streams.{streams_from}
use Rattle.gw_study.proofs.Looking.{next_line}
use Rattle.gw_study.proofs.streams.put_streams.Goals as goal

pub loop-stream-preserved : goal.loop-stream-preserved
loop-stream-preserved c =
    next_line c.args.runs.now c.loop-stream.stream c.greatest_of.result c.loop-stream.out.items c.put_stream.new.out.items
    (c.args.out.now.items ++ streams_from c.args.runs.now 1 16) (omega arith) c.loop-stream.invariant c.greatest_of.ensures c.in_ok-put_stream.ensures
