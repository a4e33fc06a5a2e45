use Rattle.std.proofs.Common.{rules}
use Rattle.std.proofs.lemmas.List.Sorted.{IsPartitionPoint-from_clause}
use Rattle.gw_chains.specs.Buckets.{below}
use Rattle.gw_chains.proofs.Heading.{parted_below}
use Rattle.gw_chains.proofs.row.place_ahead.Goals as goal

pub returns-clause-place : goal.returns-clause-place
returns-clause-place c =
    IsPartitionPoint-from_clause (λ b. below b c.args.newcomer) c.args.row.now.items c.partition_point.result
    c.partition_point.ensures.partitioned (parted_below c.args.newcomer c.args.row.now.items c.requires) (λ a r q k. search rules)
