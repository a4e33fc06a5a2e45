use Rattle.gw_scan.proofs.Entering.{steady-passed}
use Rattle.gw_scan.proofs.visit.Visit.pass_and_hand_over.Goals as goal

pub hand_over-requires-clause-steady : goal.hand_over-requires-clause-steady
hand_over-requires-clause-steady c =
    rw c.blocks_of.ensures (steady-passed c.args.self.now c.args.machine.now c.enter_as_found.new.self c.requires.entering
    c.enter_as_found.ensures.state c.enter_as_found.ensures.frame)
