use Rattle.std.proofs.Common.{rules, ◌≡◌, Some, length, sym, subst}
use Rattle.gw_object.specs.declared.parts.Parts.{Parts}
use Rattle.gw_step.specs.Operands.{BlocksFit}
use Rattle.gw_step.specs.Job.{start_of}
use Rattle.gw_machine.specs.View.{state_of}
use Rattle.gw_step.proofs.Operands.{blocks_fit}
use Rattle.gw_step.proofs.Reached.{reached_first}
use Rattle.gw_scan.proofs.sim.Sim.start.Goals as goal

pub start-requires-clause-fit : goal.start-requires-clause-fit
start-requires-clause-fit c =
    let fits = c.verified_object.ensures.fits in
    subst (λ (p : Parts). BlocksFit (length p.entities) p.blocks) (sym c.verified_object.ensures.value) (blocks_fit c.args.spec.parts fits.checked fits.spelled)

pub invariant_of-result : goal.invariant_of-result
invariant_of-result c =
    let is_start : start_of c.args.spec ≡ Some (state_of c.in-Ok.machine) = search rules in
    record {
      reached = reached_first c.args.spec (state_of c.in-Ok.machine) c.verified_object.ensures.fits is_start;
      slots = search rules;
    }
