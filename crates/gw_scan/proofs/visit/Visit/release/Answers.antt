use Rattle.std.proofs.Common.{◌∙◌, ap}
use Rattle.gw_entities.specs.Facility.{is_idle}
use Rattle.gw_step.specs.State.{State}
use Rattle.gw_step.specs.Changes.{facility}
use Rattle.gw_step.proofs.Owning.{idle-released}
use Rattle.gw_machine.proofs.Steady.{passing-released}
use Rattle.gw_machine.specs.View.{state_of}
use Rattle.gw_scan.proofs.visit.Visit.release.Goals as goal

pub pass_and_hand_over-requires-clause-entering : goal.pass_and_hand_over-requires-clause-entering
pass_and_hand_over-requires-clause-entering c =
    let r = c.in_ok-reserve_current.ensures in
    let e = c.release_facility.ensures in
    passing-released c.args.self.now.verified.now.blocks c.args.machine.now c.reserve_current.new.self c.release_facility.new.self
    c.args.self.now.tx c.args.self.now.transaction c.args.f c.requires.visit c.requires.operands r.state r.frame e.state e.frame e.table

pub pass_and_hand_over-requires-clause-idle : goal.pass_and_hand_over-requires-clause-idle
pass_and_hand_over-requires-clause-idle c =
    ap (λ (s : State). is_idle (facility c.args.f s)) c.release_facility.ensures.state
    ∙ idle-released c.args.f (state_of c.reserve_current.new.self)
