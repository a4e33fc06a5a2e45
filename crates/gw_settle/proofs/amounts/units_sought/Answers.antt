use Rattle.std.proofs.Common.{rules, nat_lt, arith}
use Rattle.std.proofs.lemmas.List.Sorted.{IsPartitionPoint-from_clause}
use Rattle.gw_flow.specs.declared.abstract_state.Amount.{Amount}
use Rattle.gw_settle.proofs.Seeking.{parted, IsPlaceFor, units_there, units_nowhere}
use Rattle.gw_settle.proofs.amounts.units_sought.Goals.{else-place-units-via-then-place-units+else-units-place, else-place-units-via-else-place-units}
use Rattle.gw_settle.proofs.amounts.units_sought.Goals as goal

abbrev none : Amount
none = record { entity = 0; number = 0 }

pub returns-then-units-place : goal.returns-then-units-place
returns-then-units-place c =
    units_there c.args.units.now c.partition_point-place.result c.args.entity none c.requires c.if-place-units.true c.if-units-place.true

pub returns : goal.returns
returns c =
    let point : IsPlaceFor c.args.entity c.args.units.now c.partition_point-place.result =
    IsPartitionPoint-from_clause (λ (a : Amount). nat_lt a.entity c.args.entity) c.args.units.now c.partition_point-place.result
    c.partition_point-place.ensures.partitioned (parted c.args.units.now c.args.entity c.requires) (λ a r q k. search rules) in
    units_nowhere c.args.units.now c.partition_point-place.result c.args.entity none c.requires point
    (elim c.else-place-units.branch [
      | else-place-units-via-then-place-units+else-units-place w ↦ λ within. w.if-units-place.false
      | else-place-units-via-else-place-units w ↦ λ within q. omega (arith, within, w.if-place-units.false)
    ])
