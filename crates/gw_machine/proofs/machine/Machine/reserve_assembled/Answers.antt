use Rattle.std.proofs.Common.{arith}
use Rattle.gw_machine.proofs.AtRest.{few-retry}
use Rattle.gw_machine.specs.Shown.{configuration_of}
use Rattle.gw_machine.proofs.machine.Machine.reserve_assembled.Goals as goal

pub overflow_add-retry_len : goal.overflow_add-retry_len
overflow_add-retry_len c = omega (arith, few-retry (configuration_of c.self.inside) c.self.invariant.0)
