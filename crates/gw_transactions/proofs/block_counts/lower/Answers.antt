use Rattle.std.proofs.Common.{refl, arith}
use Rattle.std.proofs.lemmas.List.{length-set, get_or_default}
use Rattle.gw_num.proofs.Tables.{at-get_or}
use Rattle.gw_transactions.proofs.Counts.{counted_within, count-fallen}
use Rattle.gw_transactions.proofs.block_counts.lower.Goals as goal

pub bounds-counts-block : goal.bounds-counts-block
bounds-counts-block c = counted_within _ _ refl c.args.block c.requires

pub bounds-counts-block-2 : goal.bounds-counts-block-2
bounds-counts-block-2 c = counted_within _ _ refl c.args.block c.requires

pub overflow_sub-counts : goal.overflow_sub-counts
overflow_sub-counts c = omega (arith, at-get_or 0 c.args.counts.now c.args.block, c.requires)

pub returns-clause-counts : goal.returns-clause-counts
returns-clause-counts c =
    let there = counted_within _ _ refl c.args.block c.requires in
    count-fallen _ _ refl c.args.block there _ (get_or_default c.args.counts.now c.args.block _ _ there) c.requires

pub returns-clause-len : goal.returns-clause-len
returns-clause-len c = length-set _ c.args.block _
