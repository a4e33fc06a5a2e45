use Rattle.std.proofs.Common.{length, ◌<◌, arith}
use Rattle.gw_machine.proofs.Changes.{raised_is}
use Rattle.gw_machine.proofs.machine.raise.Goals as goal

pub returns : goal.returns
returns c =
    let within : c.args.place < length c.args.counts.now.items = omega arith in
    raised_is c.args.counts.now.items c.args.place c.index_mut.result.now within c.index_mut.ensures.value
