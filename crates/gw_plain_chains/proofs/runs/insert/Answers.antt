use Rattle.std.proofs.Common.{rules, ◌≡◌, ◌∙◌, ap, ◌≤ℤ◌}
use Rattle.std.specs.Prelude.{int_le, AllPairs}
use Rattle.std.proofs.lemmas.List.Sorted.{IsPartitionPoint-from_clause}
use Rattle.gw_members.specs.Chain.{in_time}
use Rattle.gw_plain_chains.specs.Runs.{merge_by_time}
use Rattle.gw_members.specs.declared.tx.Event.{Event}
use Rattle.gw_plain_chains.proofs.Merging.{merged_newcomer}
use Rattle.gw_chains.proofs.Places.{in_order, ranks_in_time}
use Rattle.gw_plain_chains.proofs.runs.insert.Goals as goal

-- the newcomer is at its place in its run, and the order is kept
placed : (c : goal.After-insert_reserved) → AllPairs (λ (x y : Event). x.time ≤ℤ y.time) c.insert_reserved.new.queue.items
    × (c.insert_reserved.new.queue.items ≡ in_time (λ (e : Event). e.time) c.args.event c.make_way.new.recent.items)
placed c =
    let recent = c.make_way.new.recent.items in
    in_order _ _ _ _ _ c.partition_point-place.result (ranks_in_time (λ (e : Event). e.time) c.args.event) c.make_way.ensures.ordered
    (search rules) (λ parts. IsPartitionPoint-from_clause (λ (y : Event). int_le y.time c.args.event.time) recent
    c.partition_point-place.result c.partition_point-place.ensures.partitioned parts (λ a r q k. search rules)) c.insert_reserved.ensures.items

pub returns-clause-items : goal.returns-clause-items
returns-clause-items c =
    ap (merge_by_time (λ (e : Event). e.time) c.make_way.new.settled.items) (placed c).1
    ∙ merged_newcomer (λ (e : Event). e.time) c.args.event c.make_way.new.settled.items c.make_way.new.recent.items c.make_way.ensures.ordered
    ∙ ap (in_time (λ (e : Event). e.time) c.args.event) c.make_way.ensures.items

pub returns-clause-ordered : goal.returns-clause-ordered
returns-clause-ordered c = (placed c).0
