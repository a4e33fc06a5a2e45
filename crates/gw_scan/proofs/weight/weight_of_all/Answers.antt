use Rattle.std.proofs.Common.{length, ap, arith}
use Rattle.std.specs.Prelude.{sum_by}
use Rattle.gw_scan.proofs.Weighing.{listed_weight, all_weigh}
use Rattle.gw_scan.proofs.weight.weight_of_all.Goals as goal

pub loop-transaction-init : goal.loop-transaction-init
loop-transaction-init c =
    let is = c.into_iter-transaction-iterator.ensures.into_iter_gives in
    let all = all_weigh c.args.parts.now c.args.transactions.now.txs c.iter-transaction-items.result c.iter-transaction-items.ensures.listed in
    record {
      sum = omega (arith, all, ap (sum_by (listed_weight c.args.parts.now)) is);
      bound = omega (arith, c.iter-transaction-items.ensures.len, c.requires.live, ap length is);
    }
