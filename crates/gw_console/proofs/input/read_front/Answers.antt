use Rattle.std.proofs.Common.{arith}
use Rattle.gw_console.proofs.Bytes.{filled, last_read, lost_more}
use Rattle.gw_console.proofs.input.read_front.Goals as goal

pub returns-then-branch-eq0-clause-front : goal.returns-then-branch-eq0-clause-front
returns-then-branch-eq0-clause-front g c =
    last_read _ _ c.args.most _ _ _ _ _ c.in_ok-read_some.ensures.taken c.if-branch-eq0.true c.loop-input.invariant.within c.loop-input.invariant.taken

pub returns-clause-front : goal.returns-clause-front
returns-clause-front g c = filled c.args.most _ _ c.loop-input.input.items (omega arith) c.loop-input.invariant.taken

pub returns-in_err-read_some-clause-limited : goal.returns-in_err-read_some-clause-limited
returns-in_err-read_some-clause-limited g c =
    lost_more c.args.most _ c.loop-input.input.items _ _ _ (omega arith) c.loop-input.invariant.taken c.in_err-read_some.ensures.limited
