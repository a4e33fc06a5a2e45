use Rattle.std.proofs.Common.{rules, ◌≡◌, ℕ, ap, sym, subst, ◌∙◌}
use Rattle.gw_step.specs.Job.{Job}
use Rattle.gw_service.specs.Rows.{Row, returned_row, standing_back}
use Rattle.gw_jobs.specs.Holding.{HoldsFor, row_of, standing_of}
use Rattle.gw_jobs.proofs.row.Row.put_back.Goals as goal

pub invariant_of-self : goal.invariant_of-self
invariant_of-self c =
    let s = c.replace.new.dest in
    let held = subst (λ t. HoldsFor c.args.sim.job c.args.sim.state.steps t) (sym c.replace.ensures.after) c.standing_back-standing.ensures.holds in
    let job : c.args.sim.job ≡ c.self.inside.spec = c.requires.job ∙ ap (λ (r : Row). r.job) (sym c.self.view_is) in
    let at = subst (λ (n : ℕ). HoldsFor c.args.sim.job n s) (sym c.steps-steps.ensures) held in
    record { holds = subst (λ (j : Job). HoldsFor j c.steps-steps.result s) job at; steps = search rules }

pub returns : goal.returns
returns c =
    let r = c.self.inside in
    let n = c.args.sim.state.steps in
    let job : c.args.sim.job ≡ r.spec = c.requires.job ∙ ap (λ (q : Row). q.job) (sym c.self.view_is) in
    let stands : standing_of c.replace.new.dest ≡ standing_back r.spec n (standing_of r.standing) =
    ap standing_of c.replace.ensures.after ∙ c.standing_back-standing.ensures.standing ∙ ap (λ (j : Job). standing_back j n (standing_of r.standing)) job in
    let same : row_of (record { user = r.user; spec = r.spec; steps = c.steps-steps.result; standing = c.replace.new.dest }) ≡ returned_row n (row_of r) =
    λ i. record { user = r.user; job = r.spec; steps = c.steps-steps.ensures i; standing = stands i } in
    same ∙ ap (returned_row n) c.self.view_is
