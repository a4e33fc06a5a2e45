use Rattle.std.proofs.Common.{rules, ◌<◌, length, subst, sym}
use Rattle.gw_step.specs.Residence.{occurrences}
use Rattle.gw_machine.specs.Shown.{configuration_of}
use Rattle.gw_machine.specs.View.{state_of}
use Rattle.gw_machine.specs.Wants.{AreTold, IsKnown, nexts, want_count}
use Rattle.gw_machine.proofs.Knowing.{counted-of}
use Rattle.gw_machine.proofs.Lessening.{least-by}
use Rattle.gw_machine.proofs.machine.Machine.least_want.Goals as goal

pub returns : goal.returns
returns c =
    let s = state_of (configuration_of c.self.inside) in
    let ws = c.of-wants.result.now in
    let some : 0 < length ws = search rules in
    let told : AreTold s.entries ws = search rules in
    let known = subst (λ ws. IsKnown ws c.args.e s) (sym c.of-wants.ensures) (c.self.invariant.1 c.args.e) in
    rw (← c.self.view_is) (least-by c.args.blocks.now c.args.e (λ b. want_count b ws) (λ b. occurrences b (nexts c.args.e s))
    ((counted-of ws c.args.e s some known).counted told) c.least_of.result c.least_of.ensures)
