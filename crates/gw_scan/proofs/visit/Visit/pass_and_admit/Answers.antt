use Rattle.gw_scan.proofs.Entering.{steady-passed}
use Rattle.gw_scan.proofs.visit.Visit.pass_and_admit.Goals as goal

pub admit-requires-clause-steady : goal.admit-requires-clause-steady
admit-requires-clause-steady c =
    rw c.blocks_of.ensures (steady-passed c.args.self.now c.args.machine.now c.enter_as_found.new.self c.requires.entering
    c.enter_as_found.ensures.state c.enter_as_found.ensures.frame)
