use Rattle.std.proofs.Common.{arith, ◌∙◌}
use Rattle.gpssw.proofs.Entries.{object_read, fault_read, none_read, surplus_read, no_surplus_read, lost_so_far}
use Rattle.gpssw.proofs.framing.read_batch.Goals as goal

pub returns-in_err-bytes-clause-limited : goal.returns-in_err-bytes-clause-limited
returns-in_err-bytes-clause-limited g c =
    lost_so_far c.loop.counter 1048580 _ _ _ _ (omega (arith, c.loop-test.true)) c.loop.invariant.lost c.in_err-bytes.ensures.limited

pub returns-in_err-add-in-Some-Object-clause-limited : goal.returns-in_err-add-in-Some-Object-clause-limited
returns-in_err-add-in-Some-Object-clause-limited g c =
    lost_so_far c.loop.counter 1048580 _ _ _ _ (omega (arith, c.loop-test.true)) c.loop.invariant.lost c.in_ok-bytes.ensures.limited

pub returns-in_err-add-in-Some-Broken-clause-limited : goal.returns-in_err-add-in-Some-Broken-clause-limited
returns-in_err-add-in-Some-Broken-clause-limited g c =
    lost_so_far c.loop.counter 1048580 _ _ _ _ (omega (arith, c.loop-test.true)) c.loop.invariant.lost c.in_ok-bytes.ensures.limited

pub returns-in-Some-Broken-clause-batch : goal.returns-in-Some-Broken-clause-batch
returns-in-Some-Broken-clause-batch g c =
    let found = c.in-Some-Broken in
    let given = rw (found.is, found.field-0-is) at c.in_ok-bytes.ensures.entry in
    rw c.in_ok-add-in-Some-Broken.ensures.added (fault_read c.loop.counter _ _ _ _ found.fault c.loop-test.true c.loop.invariant.goes_on given)

pub returns-in-Some-Broken-clause-limited : goal.returns-in-Some-Broken-clause-limited
returns-in-Some-Broken-clause-limited g c =
    lost_so_far c.loop.counter 1048580 _ _ _ _ (omega (arith, c.loop-test.true)) c.loop.invariant.lost c.in_ok-bytes.ensures.limited

pub returns-in-None-clause-batch : goal.returns-in-None-clause-batch
returns-in-None-clause-batch g c =
    let given = rw c.in-None.is at c.in_ok-bytes.ensures.entry in
    none_read c.loop.counter _ _ _ _ c.loop-test.true c.loop.invariant.goes_on given

pub returns-in-None-clause-limited : goal.returns-in-None-clause-limited
returns-in-None-clause-limited g c =
    lost_so_far c.loop.counter 1048580 _ _ _ _ (omega (arith, c.loop-test.true)) c.loop.invariant.lost c.in_ok-bytes.ensures.limited

pub loop-preserved : goal.loop-preserved
loop-preserved g c =
    let found = c.in-Some-Object in
    let given = rw (found.is, found.field-0-is) at c.in_ok-bytes.ensures.entry in
    record {
      goes_on = rw c.in_ok-add-in-Some-Object.ensures.added (object_read c.loop.counter _ _ _ _ found.bytes c.loop-test.true c.loop.invariant.goes_on given);
      lost = lost_so_far c.loop.counter 1048580 _ _ _ _ (omega arith) c.loop.invariant.lost c.in_ok-bytes.ensures.limited;
      unfailed = c.in_ok-bytes.ensures.told ∙ c.loop.invariant.unfailed;
    }

pub returns-in_err-read_surplus-clause-limited : goal.returns-in_err-read_surplus-clause-limited
returns-in_err-read_surplus-clause-limited g c =
    lost_so_far c.loop.counter 1 _ _ _ _ (omega (arith, c.loop.auto.counter-end)) c.loop.invariant.lost c.in_err-read_surplus.ensures.limited

pub returns-then-not-branch-clause-batch : goal.returns-then-not-branch-clause-batch
returns-then-not-branch-clause-batch g c =
    no_surplus_read c.loop.counter _ _ _ _ c.in_ok-read_surplus.field-0 c.loop-test.false c.if-not-branch.true c.loop.invariant.goes_on
    c.in_ok-read_surplus.ensures.entry

pub returns-in_err-add-clause-limited : goal.returns-in_err-add-clause-limited
returns-in_err-add-clause-limited g c =
    lost_so_far c.loop.counter 1 _ _ _ _ (omega (arith, c.loop.auto.counter-end)) c.loop.invariant.lost c.in_ok-read_surplus.ensures.limited

pub returns-clause-batch : goal.returns-clause-batch
returns-clause-batch g c =
    rw (c.in_ok-add.ensures.added, c.broken.ensures)
    (surplus_read c.loop.counter _ _ _ _ c.in_ok-read_surplus.field-0 c.loop-test.false c.if-not-branch.false c.loop.invariant.goes_on
    c.in_ok-read_surplus.ensures.entry)

pub returns-clause-limited : goal.returns-clause-limited
returns-clause-limited g c =
    lost_so_far c.loop.counter 1 _ _ _ _ (omega (arith, c.loop.auto.counter-end)) c.loop.invariant.lost c.in_ok-read_surplus.ensures.limited
