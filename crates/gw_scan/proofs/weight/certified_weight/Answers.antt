use Rattle.std.proofs.Common.{◌≡◌, ◌+◌, ◌≤◌, length, ap, subst, sym, arith}
use Rattle.std.specs.Prelude.{sum, sum_by}
use Rattle.gw_num.specs.Table.{tabulate}
use Rattle.gw_transactions.specs.Transactions.{Population, live_count}
use Rattle.gw_step.specs.Weight.{weight, weight_in}
use Rattle.gw_machine.specs.View.{state_of}
use Rattle.gw_scan.specs.Weighing.{owed_weight, later_weights}
use Rattle.gw_scan.proofs.Weighing.{machine_weight-is}
use Rattle.gw_scan.proofs.weight.certified_weight.Goals as goal

pub weight_of_all-all-requires-clause-live : goal.weight_of_all-all-requires-clause-live
weight_of_all-all-requires-clause-live c =
    subst (λ (ts : Population). live_count ts.txs ≤ 65536) (sym c.transactions.ensures.transactions) c.requires.live

-- what it weighs, and what is left out, is all that was added
weight-is : (c : goal.After-weight_owed-owed) → weight c.args.parts.now (state_of c.args.machine.now)
    + later_weights c.args.parts.now c.args.machine.now ≡ c.weight_of_all-all.result + c.weight_owed-owed.result
weight-is c =
    let p = c.args.parts.now in
    let m = c.args.machine.now in
    omega (
      arith,
      machine_weight-is p m c.transactions.ensures.resides c.requires.whole,
      c.weight_of_all-all.ensures.value,
      c.weight_owed-owed.ensures.value,
      ap (λ scheduled. sum (tabulate (owed_weight p scheduled) (length scheduled))) c.arrivals.ensures,
      ap (λ (ts : Population). sum_by (weight_in p) ts.txs) c.transactions.ensures.transactions,
    )

pub weight_of_later-requires-clause-bound : goal.weight_of_later-requires-clause-bound
weight_of_later-requires-clause-bound c =
    omega (arith, weight-is c, c.weight_of_all-all.ensures.bound, c.weight_owed-owed.ensures.bound)

pub overflow_sub-result : goal.overflow_sub-result
overflow_sub-result c = omega (arith, weight-is c.before, c.weight_of_later.ensures)

pub returns-clause-value : goal.returns-clause-value
returns-clause-value c = omega (arith, weight-is c.before, c.weight_of_later.ensures)

pub returns-clause-range : goal.returns-clause-range
returns-clause-range c =
    omega (arith, c.weight_of_all-all.ensures.bound, c.weight_owed-owed.ensures.bound)
