use Rattle.std.proofs.Common.{◌<◌, ◌∙◌, sym, ap, subst, length}
use Rattle.gw_step.specs.State.{delay_list}
use Rattle.gw_step.specs.Job.{Progress}
use Rattle.gw_scan.proofs.Running.{waiting-of}
use Rattle.gw_scan.proofs.sim.Sim.waiting_len.Goals as goal

pub returns : goal.returns
returns c =
    let e = c.args.entity in
    let below = subst (λ (p : Progress). e < length p.job.parts.entities) (sym c.self.view_is) c.requires in
    c.waiting_len.ensures ∙ waiting-of c.self.inside.spec c.self.inside.machine e c.self.invariant.reached below
    ∙ ap (λ (p : Progress). length (delay_list e p.state)) c.self.view_is
