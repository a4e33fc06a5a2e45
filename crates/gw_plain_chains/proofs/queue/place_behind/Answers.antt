use Rattle.std.proofs.Common.{rules, ◌≡◌, ◌<◌, ◌-◌, length, get_or, true, refl, arith}
use Rattle.std.specs.Prelude.{int_le}
use Rattle.std.proofs.lemmas.List.Sorted.{IsPartitionPoint-from_clause}
use Rattle.gw_members.specs.declared.tx.Member.{Member}
use Rattle.gw_chains.proofs.Places.{partitioned, ranks_behind, all_pass}
use Rattle.gw_plain_chains.proofs.queue.place_behind.Goals as goal

pub returns-then-priority-last-clause-place : goal.returns-then-priority-last-clause-place
returns-then-priority-last-clause-place c =
    let some : 0 < length c.args.queue.now.items = omega (arith, c.args.queue.now.ok.0, c.in-Some.ensures.variant.0 refl) in
    let last : c.in-Some.last.now ≡ get_or c.args.queue.now.items (length c.args.queue.now.items - 1) c.in-Some.last.now =
    rw (c.args.queue.now.ok.0) at c.in-Some.ensures.lookup in
    let passes : int_le c.args.priority c.in-Some.last.now.priority ≡ true = search rules in
    rw (c.len.ensures, c.args.queue.now.ok.0)
    (all_pass (λ (m : Member). int_le c.args.priority m.priority) c.args.queue.now.items c.in-Some.last.now some last passes
    (partitioned _ _ _ _ (ranks_behind (λ (m : Member). m.priority) (record { tx = record { place = 0; number = 0 }; priority = c.args.priority })) c.requires))

pub returns-clause-place : goal.returns-clause-place
returns-clause-place c =
    let priority = c.args.priority in
    IsPartitionPoint-from_clause (λ (m : Member). int_le c.args.priority m.priority) c.args.queue.now.items c.partition_point.result
    c.partition_point.ensures.partitioned
    (partitioned _ _ _ _ (ranks_behind (λ (m : Member). m.priority)
    (record { tx = record { place = 0; number = 0 }; priority = c.args.priority })) c.requires) (λ a r q k. search rules)
