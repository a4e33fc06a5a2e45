use Rattle.std.proofs.Common.{rules}
use Rattle.gw_machine.proofs.machine.Machine.drawn_time.Goals as goal

pub returns-in_err-mean : goal.returns-in_err-mean
returns-in_err-mean c = rw c.in_err-mean.ensures (search rules)

pub returns-in_err-half : goal.returns-in_err-half
returns-in_err-half c = rw (c.in_ok-mean.ensures, c.in_err-half.ensures) (search rules)
