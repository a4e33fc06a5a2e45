use Rattle.std.proofs.Common.{rules, ◌≡◌}
use Rattle.std.specs.Prelude.{int_le, insert, true, false}
use Rattle.std.specs.List.Sorted.{IsPartitionPoint}
use Rattle.std.proofs.lemmas.Int.{to_z-of_z}
use Rattle.gw_plain_chains.specs.Orders.{IsByPriority}
use Rattle.gw_members.specs.Chain.{placed_behind}
use Rattle.gw_members.specs.declared.tx.Member.{Member}
use Rattle.gw_chains.proofs.Places.{in_order, ranks_behind}
use Rattle.gw_plain_chains.proofs.queue.join_behind.Goals as goal

-- the newcomer is at its place, and the order is kept
placed : (c : goal.After-insert_reserved) → IsByPriority (λ (m : Member). m.priority) c.insert_reserved.new.queue.items
    × (c.insert_reserved.new.queue.items
    ≡ placed_behind (λ (m : Member). int_le c.args.priority m.priority) record { tx = c.args.tx; priority = c.args.priority } c.args.queue.now.items)
placed c =
    let fits = c.ranges.priority in
    let point : IsPartitionPoint (λ (m : Member). int_le c.args.priority m.priority ≡ true)
    (λ (m : Member). int_le c.args.priority m.priority ≡ false) c.args.queue.now.items c.place_behind-place.result =
    simp to_z-of_z at c.place_behind-place.ensures.place in
    let inserted : c.insert_reserved.new.queue.items
    ≡ insert c.args.queue.now.items c.place_behind-place.result record { tx = c.args.tx; priority = c.args.priority } =
    simp to_z-of_z at c.insert_reserved.ensures.items in
    in_order _ _ _ _ _ c.place_behind-place.result
    (ranks_behind (λ (m : Member). m.priority) record { tx = c.args.tx; priority = c.args.priority }) c.requires.order (search rules)
    (λ parts. point) inserted

pub returns-clause-items : goal.returns-clause-items
returns-clause-items c = (placed c).1

pub returns-clause-order : goal.returns-clause-order
returns-clause-order c = (placed c).0
