use Rattle.std.proofs.Common.{rules}
use Rattle.gw_machine.specs.View.{state_of}
use Rattle.gw_step.specs.Operands.{MayDraw}
use Rattle.gw_step.specs.Times.{environment_of_next}
use Rattle.gw_scan.proofs.Meeting.{time_may}
use Rattle.gw_scan.proofs.visit.Visit.generate.Goals as goal

pub drawn_moment-requires-clause-spread : goal.drawn_moment-requires-clause-spread
drawn_moment-requires-clause-spread c =
    let p = c.args.self.now.verified.now in
    let g = c.args.g in
    let may : MayDraw p (environment_of_next g.priority (state_of c.args.machine.now)) g.interval = time_may p _ g.interval c.requires.values in
    search (rules, may)
