use Rattle.std.proofs.Common.{◌≡◌, ◌∙◌, false, sym, subst}
use Rattle.gw_step.specs.Residence.{occurrences}
use Rattle.gw_machine.specs.View.{state_of}
use Rattle.gw_machine.specs.Wants.{IsLeast, nexts}
use Rattle.gw_machine.proofs.Lessening.{nobody-asks, least-refused}
use Rattle.gw_machine.proofs.machine.Machine.is_least_free.Goals as goal

pub returns-in-Nobody : goal.returns-in-Nobody
returns-in-Nobody c none =
    let s = state_of c.args.self.now in
    nobody-asks c.args.blocks.now c.args.e s
    (subst (IsLeast c.args.blocks.now c.args.e (λ b. occurrences b (nexts c.args.e s))) c.in-Nobody.is c.least_want.ensures)

pub returns-in-Units : goal.returns-in-Units
returns-in-Units c none =
    let s = state_of c.args.self.now in
    let refused : c.has_free.result ≡ false = cc in
    least-refused c.args.blocks.now c.args.e s c.in-Units.number
    (subst (IsLeast c.args.blocks.now c.args.e (λ b. occurrences b (nexts c.args.e s))) c.in-Units.is c.least_want.ensures)
    (sym c.has_free.ensures ∙ refused)
