use Rattle.std.proofs.Common.{◌+◌, length, ap, arith, neg_ℤ, inr}
use Rattle.slab.specs.Slab.{get}
use Rattle.gw_chains.specs.Waiting.{Walked}
use Rattle.gw_chains.specs.Buckets.{AreCounted}
use Rattle.gw_members.specs.declared.tx.Member.{Member}
use Rattle.gw_chains.proofs.Spotting.{place_start}
use Rattle.gw_chains.proofs.Counting.{counted_more}
use Rattle.gw_chains.proofs.delay_list.DelayList.insert_behind.Goals as goal

-- the members, and how many they are then
counted : (c : goal.After-self-2-1)
    → AreCounted (λ (m : Member). neg_ℤ m.priority) (get c.insert_behind.new.links) c.insert_behind.new.row.items (c.self.inside.count + 1)
counted c = counted_more (λ (m : Member). neg_ℤ m.priority) _ _ _ _ _ _ _ c.self.invariant.0 c.insert_behind.ensures.gain
    (omega (arith, ap (λ (v : Walked). v.room) c.self.view_is, c.requires))

pub invariant_of-self : goal.invariant_of-self
invariant_of-self c = (counted c, inr c.walk_to_begin-self-inside.ensures)

pub returns-clause-len : goal.returns-clause-len
returns-clause-len c = omega (arith, (counted c).1, c.self.invariant.0.1, ap (λ (v : Walked). length v.members) c.self.view_is)

pub returns-clause-place : goal.returns-clause-place
returns-clause-place c =
    place_start c.insert_behind.new.row.items c.walk_to_begin-self-inside.result.spot c.walk_to_begin-self-inside.ensures.0
    c.walk_to_begin-self-inside.ensures.1
