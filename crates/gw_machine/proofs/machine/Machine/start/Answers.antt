use Rattle.std.proofs.Common.{◌≡◌, ◌≤◌, ◌∙◌, ap, sym, subst, length}
use Rattle.gw_object.specs.declared.parts.Parts.{Parts}
use Rattle.gw_step.specs.Start.{nothing}
use Rattle.gw_step.specs.Operands.{BlocksFit}
use Rattle.gw_machine.specs.View.{state_of}
use Rattle.gw_machine.specs.Slots.{greatest_set}
use Rattle.gw_machine.proofs.Greatest.{greatest-few}
use Rattle.gw_machine.proofs.Beginning.{nothing-own, nothing-blocks, nothing-few}
use Rattle.gw_machine.proofs.machine.Machine.start.Goals as goal
use Rattle.gw_machine.proofs.machine.Machine.start.Goals.{In_ok-machine}

is_nothing : (c : In_ok-machine) → state_of c.in_ok-machine.machine ≡ nothing c.args.verified.now c.args.count c.args.streams
is_nothing c = c.in_ok-machine.ensures.state ∙ ap (λ (p : Parts). nothing p c.args.count c.args.streams) c.object.ensures.value

pub first_arrivals-requires-clause-own : goal.first_arrivals-requires-clause-own
first_arrivals-requires-clause-own c =
    nothing-own c.args.verified.now c.args.count c.args.streams c.in_ok-machine.machine
    (is_nothing (goal.at.first_arrivals-requires-clause-own c).In_ok-machine)

pub first_arrivals-requires-clause-blocks : goal.first_arrivals-requires-clause-blocks
first_arrivals-requires-clause-blocks c =
    nothing-blocks c.args.verified.now c.args.count c.args.streams c.in_ok-machine.machine
    (is_nothing (goal.at.first_arrivals-requires-clause-blocks c).In_ok-machine)

pub first_arrivals-requires-clause-few : goal.first_arrivals-requires-clause-few
first_arrivals-requires-clause-few c =
    nothing-few c.args.verified.now c.args.count c.args.streams c.in_ok-machine.machine
    (is_nothing (goal.at.first_arrivals-requires-clause-few c).In_ok-machine)

few_slots : (p : Parts) → BlocksFit (length p.entities) p.blocks → greatest_set p.blocks ≤ 64
few_slots p fit = greatest-few (length p.entities) p.blocks fit

pub nothing-requires-clause-slots : goal.nothing-requires-clause-slots
nothing-requires-clause-slots c = subst (λ (p : Parts). greatest_set p.blocks ≤ 64) (sym c.object.ensures.value) (few_slots c.args.verified.now c.requires.fit)
