use Rattle.std.proofs.Common.{◌*◌, ◌+◌, ◌^◌, ◌≤◌, ◌≡◌, ◌∙◌, ℕ, add-one, ap, arith}
use Rattle.std.specs.Prelude.{sum}
use Rattle.gw_num.specs.Table.{tabulate}
use Rattle.gw_num.proofs.Tables.{at-get_or}
use Rattle.gw_object.specs.Limits.{greatest_weight}
use Rattle.gw_rules.specs.Kinds.{block_at}
use Rattle.gw_rules.specs.Weights.{weight_at}
use Rattle.gw_step.specs.Weight.{owed_by}
use Rattle.gw_step.proofs.Sums.{sum-more}
use Rattle.gw_scan.specs.Weighing.{owed_weight}
use Rattle.gw_scan.proofs.Weighing.{owed_less}
use Rattle.gw_scan.proofs.weight.weight_owed.Goals as goal

pub loop-number-preserved : goal.loop-number-preserved
loop-number-preserved c =
    let p = c.args.parts.now in
    let b = c.loop-number.number in
    let here = ap (λ (n : ℕ). owed_by (block_at p.blocks b) n * weight_at p.weights b) (at-get_or 0 c.args.scheduled.now b) in
    let owed = owed_weight p c.args.scheduled.now in
    let few : owed b ≤ 2 ^ 32 * greatest_weight = omega (arith, c.owed_at.ensures.value, c.owed_at.ensures.bound, here) in
    let more : sum (tabulate owed (b + 1)) ≡ sum (tabulate owed b) + owed b = ap (λ n. sum (tabulate owed n)) (add-one b) ∙ sum-more owed b in
    record {
      sum = omega (arith, c.loop-number.invariant.sum, c.owed_at.ensures.value, here, more);
      bound = omega (
        arith,
        c.loop-number.invariant.bound,
        c.owed_at.ensures.value,
        here,
        few,
        owed_less p c.args.scheduled.now b (2 ^ 32 * greatest_weight) few,
      );
    }
