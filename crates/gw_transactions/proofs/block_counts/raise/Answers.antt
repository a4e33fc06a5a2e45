use Rattle.std.proofs.Common.{refl, arith}
use Rattle.std.proofs.lemmas.List.{length-set, get_or_default}
use Rattle.gw_num.proofs.Tables.{at-get_or}
use Rattle.gw_transactions.proofs.Counts.{count-risen}
use Rattle.gw_transactions.proofs.block_counts.raise.Goals as goal

pub overflow_add-counts : goal.overflow_add-counts
overflow_add-counts c = omega (arith, at-get_or 0 c.args.counts.now c.args.block, c.requires.few)

pub returns-clause-counts : goal.returns-clause-counts
returns-clause-counts c = count-risen _ _ refl c.args.block c.requires.there _ (get_or_default c.args.counts.now c.args.block _ _ c.requires.there)

pub returns-clause-len : goal.returns-clause-len
returns-clause-len c = length-set _ c.args.block _
