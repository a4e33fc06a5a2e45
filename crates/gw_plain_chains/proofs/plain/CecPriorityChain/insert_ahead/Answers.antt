use Rattle.std.proofs.Common.{rules, List, ◌≡◌, ◌∙◌, ap, ◌≤ℤ◌}
use Rattle.std.specs.Prelude.{int_lt, insert, AllPairs}
use Rattle.std.proofs.lemmas.List.Sorted.{IsPartitionPoint-from_clause}
use Rattle.gw_plain_chains.specs.Calling.{BodyState}
use Rattle.gw_members.specs.Chain.{Chain, ahead, placed_behind}
use Rattle.gw_members.specs.declared.tx.Member.{Member}
use Rattle.gw_chains.proofs.Places.{in_order, ranks_ahead}
use Rattle.gw_plain_chains.proofs.plain.CecPriorityChain.insert_ahead.Goals as goal

inserted : (c : goal.After-insert_reserved) → c.insert_reserved.new.queue.items
    ≡ insert c.self.inside.members.items c.partition_point-place.result c.args.member
inserted c = c.insert_reserved.ensures.items

-- the newcomer is at its place, and the order is kept
placed : (c : goal.After-insert_reserved) → AllPairs (λ (x y : Member). y.priority ≤ℤ x.priority) c.insert_reserved.new.queue.items
    × (c.insert_reserved.new.queue.items ≡ placed_behind (λ (y : Member). int_lt c.args.member.priority y.priority) c.args.member c.self.inside.members.items)
placed c =
    in_order _ _ _ _ _ c.partition_point-place.result (ranks_ahead (λ (y : Member). y.priority) c.args.member) c.self.invariant
    (search rules) (λ parts. IsPartitionPoint-from_clause (λ (y : Member). int_lt c.args.member.priority y.priority)
    c.self.inside.members.items c.partition_point-place.result c.partition_point-place.ensures.partitioned parts (λ a r q k. search rules)) (inserted c)

pub invariant_of-self : goal.invariant_of-self
invariant_of-self c = (placed c).0

-- a chain of these members, over which nobody walks
abbrev chain_of : List Member → BodyState Member
chain_of xs = record { members = xs; place = 0 }

pub returns-clause-state : goal.returns-clause-state
returns-clause-state c = ap chain_of ((placed c).1 ∙ ap (λ (v : Chain Member). ahead (λ (y : Member). y.priority) c.args.member v.items) c.self.view_is)
