use Rattle.std.proofs.Common.{rules, ◌≡◌, []}
use Rattle.gw_step.specs.Blocks.{act, effect, admission}
use Rattle.gw_step.specs.State.{delay_list}
use Rattle.gw_machine.specs.View.{state_of}
use Rattle.gw_scan.proofs.Waiting.{nobody_waits}
use Rattle.gw_scan.proofs.visit.Visit.leave_alone.Goals as goal

pub returns : goal.returns
unfolding act effect admission
returns c =
    let nobody : delay_list c.args.u.entity (state_of c.args.machine.now) ≡ [] = nobody_waits c.args.machine.now c.args.u.entity c.requires.nobody in
    search (rules, nobody)
