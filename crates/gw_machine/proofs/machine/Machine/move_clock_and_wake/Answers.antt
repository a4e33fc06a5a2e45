use Rattle.std.proofs.Common.{arith}
use Rattle.gw_machine.specs.Shown.{configuration_of}
use Rattle.gw_machine.proofs.AtRest.{few-retry, few-events}
use Rattle.gw_machine.proofs.machine.Machine.move_clock_and_wake.Goals as goal

pub overflow_add-due : goal.overflow_add-due
overflow_add-due c =
    let m = configuration_of c.self.inside in
    omega (arith, few-retry m c.self.invariant.0, few-events m c.self.invariant.0)
