use Rattle.gw_machine.proofs.Steady.{passing-given_back}
use Rattle.gw_scan.proofs.visit.Visit.leave.Goals as goal

pub pass_and_admit-requires-clause-entering : goal.pass_and_admit-requires-clause-entering
pass_and_admit-requires-clause-entering c =
    let r = c.in_ok-reserve_current.ensures in
    let e = c.give_back.ensures in
    passing-given_back c.args.self.now.verified.now.blocks c.args.machine.now c.reserve_current.new.self c.give_back.new.self
    c.args.self.now.tx c.args.self.now.transaction c.args.u c.requires.visit c.requires.operands.entity r.state r.frame e.state e.frame e.others
