use Rattle.std.proofs.Common.{take, arith}
use Rattle.planner.proofs.Summing.{front_of}
use Rattle.planner.proofs.rows.read_piece.Goals as goal

pub returns-in-Ok-add-clause-read : goal.returns-in-Ok-add-clause-read
returns-in-Ok-add-clause-read g c =
    let read = c.in-Ok.ensures.bytes in (
      take c.in-Ok.count c.read.new.buffer,
      read.0,
      c.in-Ok-add.ensures.read,
      λ none. read.1 none (omega (arith, c.requires.room, c.read.auto.buffer)),
      λ s before readable front so_far. (c.in-Ok-add.ensures.study s before readable front so_far).1,
    )

pub returns-in-Err-add-clause-study : goal.returns-in-Err-add-clause-study
returns-in-Err-add-clause-study g c = λ s before readable on so_far.
    let known = c.args.reader.now.left in
    let left = c.read.new.self.left in
    let front = front_of s known left before (take c.in-Ok.count c.read.new.buffer) c.in-Ok.ensures.bytes.0 on in
    (c.in-Err-add.ensures.study s before readable front so_far).0
