use Rattle.std.proofs.Common.{ap, ◌∙◌}
use Rattle.gw_step.specs.State.{State}
use Rattle.gw_step.specs.Blocks.{assembly_at}
use Rattle.gw_step.proofs.Copying.{found-own}
use Rattle.gw_machine.specs.View.{state_of, assembly_of}
use Rattle.gw_scan.proofs.visit.Visit.pass_and_join.Goals as goal

pub join_assembly-requires-clause-there : goal.join_assembly-requires-clause-there
join_assembly-requires-clause-there c =
    let a = c.args.assembly in
    let same = c.in_ok-reserve_assembled.ensures.state ∙ c.in_ok-reserve_rest.ensures.state in
    ap (λ (s : State). assembly_at a.block a.set s) c.enter_as_found.ensures.state
    ∙ ap (λ (s : State). assembly_at a.block a.set s) same
    ∙ found-own c.args.self.now.transaction.next c.args.self.now.transaction.set (state_of c.args.machine.now).lists.assemblies (assembly_of a) c.requires.there
