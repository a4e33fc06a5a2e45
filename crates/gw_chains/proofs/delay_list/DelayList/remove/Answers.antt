use Rattle.std.proofs.Common.{length, ap, arith, neg_ℤ, inr}
use Rattle.std.proofs.lemmas.List.Edits.{length-remove}
use Rattle.slab.specs.Slab.{get}
use Rattle.gw_chains.specs.Buckets.{members_of}
use Rattle.gw_chains.specs.Waiting.{Walked}
use Rattle.gw_members.specs.declared.tx.Member.{Member}
use Rattle.gw_chains.proofs.Spotting.{place_start}
use Rattle.gw_chains.proofs.Counting.{counted_fewer}
use Rattle.gw_chains.proofs.delay_list.DelayList.remove.Goals as goal

pub remove_member-requires-clause-there : goal.remove_member-requires-clause-there
remove_member-requires-clause-there c =
    let asked = rw (← c.self.view_is) at c.requires in
    omega (arith, asked, c.self.invariant.0.1, c.self.invariant.0.2)

pub overflow_sub-self : goal.overflow_sub-self
overflow_sub-self c = omega (arith, c.remove_member.ensures.total, c.self.invariant.0.2)

pub invariant_of-self : goal.invariant_of-self
invariant_of-self c =
    let asked = rw (← c.self.view_is) at c.requires in (
      counted_fewer (λ (m : Member). neg_ℤ m.priority) _ _ _ _ _ _ c.self.invariant.0 asked c.remove_member.ensures.members
          c.remove_member.ensures.buckets c.remove_member.ensures.total,
      inr c.walk_to_begin-self-inside.ensures,
    )

pub returns-clause-len : goal.returns-clause-len
returns-clause-len c =
    let asked = rw (← c.self.view_is) at c.requires in
    let fewer = length-remove (members_of (get c.self.inside.links) c.self.inside.buckets.items) c.args.place asked in
    omega (arith, ap length c.remove_member.ensures.members, fewer, ap (λ (v : Walked). length v.members) c.self.view_is)

pub returns-clause-place : goal.returns-clause-place
returns-clause-place c =
    place_start c.remove_member.new.row.items c.walk_to_begin-self-inside.result.spot c.walk_to_begin-self-inside.ensures.0
    c.walk_to_begin-self-inside.ensures.1
