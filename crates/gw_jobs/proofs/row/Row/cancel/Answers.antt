use Rattle.std.proofs.Common.{sym, subst}
use Rattle.gw_jobs.specs.Holding.{HoldsFor}
use Rattle.gw_jobs.proofs.row.Row.cancel.Goals as goal

pub invariant_of-self : goal.invariant_of-self
invariant_of-self c = record {
  holds = subst (λ s. HoldsFor c.self.inside.spec c.self.inside.steps s) (sym c.replace.ensures.after)
      (c.in-Some.ensures.holds c.self.inside.spec c.self.inside.steps);
  steps = c.self.invariant.steps;
}
