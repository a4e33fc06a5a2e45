use Rattle.gw_settle.proofs.Stopping.{stops_amount}
use Rattle.gw_settle.proofs.written.units_written.Goals as goal

pub returns-then-amount-clause-stops : goal.returns-then-amount-clause-stops
returns-then-amount-clause-stops c = stops_amount c.args.units.now c.loop-amount.amount-index _ c.loop-amount-test.true c.if-amount.true
