use Rattle.std.proofs.Common.{rules, arith}
use Rattle.std.proofs.lemmas.List.Sorted.{IsPartitionPoint-from_clause}
use Rattle.gw_chains.proofs.Chunking.{parted_front, parted_back}
use Rattle.gw_chains.proofs.Slices.{place_in_front, place_in_back}
use Rattle.gw_chains.proofs.chunks.place_on.Goals as goal

pub returns-then-place-front-clause-place : goal.returns-then-place-front-clause-place
returns-then-place-front-clause-place g c =
    let p = λ (y : g.row.T.Denot). g.T.Placed.goes_first y c.args.newcomer in
    place_in_front p c.args.front.now c.args.back.now c.partition_point-place.result c.requires.order (omega (arith, c.if-place-front.true))
    (IsPartitionPoint-from_clause p c.args.front.now c.partition_point-place.result c.partition_point-place.ensures.partitioned
    (parted_front p c.args.front.now c.args.back.now c.requires.order) (λ a r q k. search rules))

pub overflow_add-result : goal.overflow_add-result
overflow_add-result g c = omega (arith, c.requires.few, c.partition_point-place.ensures.bound, c.partition_point.ensures.bound)

pub returns-clause-place : goal.returns-clause-place
returns-clause-place g c =
    let p = λ (y : g.row.T.Denot). g.T.Placed.goes_first y c.args.newcomer in
    place_in_back p c.args.front.now c.args.back.now c.partition_point-place.result c.partition_point.result
    (omega (arith, c.partition_point-place.ensures.bound, c.if-place-front.false))
    (IsPartitionPoint-from_clause p c.args.front.now c.partition_point-place.result c.partition_point-place.ensures.partitioned
    (parted_front p c.args.front.now c.args.back.now c.requires.order) (λ a r q k. search rules))
    (IsPartitionPoint-from_clause p c.args.back.now c.partition_point.result c.partition_point.ensures.partitioned
    (parted_back p c.args.front.now c.args.back.now c.requires.order) (λ a r q k. search rules))
