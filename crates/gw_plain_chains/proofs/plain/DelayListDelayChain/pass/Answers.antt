use Rattle.std.proofs.Common.{List, ap, sym, subst}
use Rattle.gw_members.specs.declared.tx.Member.{Member}
use Rattle.gw_plain_chains.specs.Orders.{IsByPriority}
use Rattle.gw_plain_chains.specs.DelayCalls.{past_member}
use Rattle.gw_plain_chains.proofs.Turning.{walk_passes}
use Rattle.gw_plain_chains.proofs.plain.DelayListDelayChain.pass.Goals as goal

pub invariant_of-self : goal.invariant_of-self
invariant_of-self c =
    let after = walk_passes c.self.inside.ring c.pop_front.new.self c.self.inside.passed (rw (← c.self.view_is) at c.requires)
    c.in-Some.member c.push_back_reserved.new.self c.in-Some.ensures.items c.push_back_reserved.ensures.items in
    (after.0, subst (IsByPriority (λ (m : Member). m.priority)) (sym after.1) c.self.invariant.1)

pub returns-clause-state : goal.returns-clause-state
returns-clause-state c =
    let after = walk_passes c.self.inside.ring c.pop_front.new.self c.self.inside.passed (rw (← c.self.view_is) at c.requires)
    c.in-Some.member c.push_back_reserved.new.self c.in-Some.ensures.items c.push_back_reserved.ensures.items in
    rw (← c.self.view_is) (ap (λ (xs : List Member). past_member record { members = xs; place = c.self.inside.passed }) after.1)
