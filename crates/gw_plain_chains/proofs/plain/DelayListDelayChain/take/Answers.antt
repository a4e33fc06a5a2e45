use Rattle.std.proofs.Common.{◌≤ℤ◌, ◌-◌, ℕ, List, ap, sym, subst}
use Rattle.std.proofs.lemmas.List.Quantifiers.{all_pairs_remove}
use Rattle.gw_members.specs.declared.tx.Member.{Member}
use Rattle.gw_plain_chains.specs.Rings.{rotation}
use Rattle.gw_plain_chains.specs.Orders.{IsByPriority}
use Rattle.gw_plain_chains.specs.Calling.{BodyState}
use Rattle.gw_plain_chains.proofs.Turning.{walk_takes}
use Rattle.gw_plain_chains.proofs.plain.DelayListDelayChain.take.Goals as goal

pub invariant_of-self : goal.invariant_of-self
invariant_of-self c =
    let before = rw (← c.self.view_is) at c.requires in
    let after = walk_takes c.self.inside.ring c.pop_front.new.self c.self.inside.passed before c.pop_front.ensures.rest in (
      after.0,
      subst (IsByPriority (λ (m : Member). m.priority)) (sym after.1)
          (all_pairs_remove (λ (x y : Member). y.priority ≤ℤ x.priority)
          (rotation (c.self.inside.ring.len - c.self.inside.passed) c.self.inside.ring.items) c.self.inside.passed before c.self.invariant.1),
    )

-- a walk at a place of a list
abbrev walk_at : ℕ → List Member → BodyState Member
walk_at place xs = record { members = xs; place = place }

pub returns-clause-state : goal.returns-clause-state
returns-clause-state c =
    rw (← c.self.view_is) (ap (walk_at c.self.inside.passed)
    (walk_takes c.self.inside.ring c.pop_front.new.self c.self.inside.passed (rw (← c.self.view_is) at c.requires) c.pop_front.ensures.rest).1)
