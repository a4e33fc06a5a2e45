use Rattle.std.proofs.Common.{rules}
use Rattle.gw_machine.specs.Admission.{AllAskInVain}
use Rattle.gw_machine.specs.View.{state_of}
use Rattle.gw_machine.proofs.Lessening.{vain-nobody}
use Rattle.gw_machine.proofs.machine.Machine.may_admit.Goals as goal

pub returns-in-Some-clause-vain : goal.returns-in-Some-clause-vain
returns-in-Some-clause-vain c none =
    let all : AllAskInVain c.args.blocks.now c.args.e (state_of c.args.self.now) = search rules in
    vain-nobody c.args.blocks.now c.args.e (state_of c.args.self.now) all
