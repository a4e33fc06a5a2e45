use Rattle.std.proofs.Common.{arith, ◌≡◌, ◌<◌, ◌∙◌, sym, ap, subst, length}
use Rattle.gw_step.specs.State.{user_chain}
use Rattle.gw_step.specs.Job.{Progress}
use Rattle.gw_scan.proofs.sim.Sim.members.Goals as goal

pub members-requires : goal.members-requires
members-requires c =
    let below = subst (λ (p : Progress). c.args.chain < length p.job.parts.entities) (sym c.self.view_is) c.requires in
    let entities : length c.self.inside.machine.entities.facilities.values ≡ length c.self.inside.spec.parts.entities =
    c.self.invariant.reached.bounded.numbers.whole.entity_tables.facilities in
    omega (arith, below, entities)

pub returns : goal.returns
returns c = c.members.ensures.value ∙ ap (λ (p : Progress). length (user_chain c.args.chain p.state)) c.self.view_is
