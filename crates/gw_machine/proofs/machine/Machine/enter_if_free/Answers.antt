use Rattle.gw_machine.specs.View.{state_of}
use Rattle.gw_machine.proofs.Knowing.{called-there}
use Rattle.gw_machine.proofs.machine.Machine.enter_if_free.Goals as goal

pub enter_admitted-requires-clause-called : goal.enter_admitted-requires-clause-called
enter_admitted-requires-clause-called c = called-there c.args.units.entity c.args.tx.number _ (state_of c.call_current.new.self) c.call_current.ensures.state
