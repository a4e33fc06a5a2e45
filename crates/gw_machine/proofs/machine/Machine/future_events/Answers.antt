use Rattle.gw_machine.specs.Shown.{configuration_of}
use Rattle.gw_machine.proofs.AtRest.{few-events}
use Rattle.gw_machine.proofs.machine.Machine.future_events.Goals as goal

pub returns-clause-few : goal.returns-clause-few
returns-clause-few c = few-events (configuration_of c.self.inside) c.self.invariant.0
