use Rattle.std.proofs.Common.{arith}
use Rattle.gw_machine.proofs.AtRest.{few-retry}
use Rattle.gw_machine.specs.Shown.{configuration_of}
use Rattle.gw_machine.proofs.machine.Machine.reserve_rest.Goals as goal

pub overflow_add-retrying : goal.overflow_add-retrying
overflow_add-retrying c = omega (arith, few-retry (configuration_of c.self.inside) c.self.invariant.0)
