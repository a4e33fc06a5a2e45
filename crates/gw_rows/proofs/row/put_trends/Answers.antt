use Rattle.std.proofs.Common.{◌≡◌, arith, subst, true}
use Rattle.std.proofs.lemmas.Grind.{common_steps}
use Rattle.gw_figures.specs.Labels.{label_of}
use Rattle.gw_rows.specs.Names.{has_trend}
use Rattle.gw_rows.specs.Reading.{IsAmount}
use Rattle.gw_rows.specs.Rows.{trend_fields}
use Rattle.gw_rows.proofs.InRange.{changes_from_here}
use Rattle.gw_rows.proofs.row.put_trends.Goals as goal

pub loop-i-preserved : goal.loop-i-preserved
unfolding trend_fields
loop-i-preserved c =
    let figure = c.index-figures-i.result in
    let told = subst (λ t. has_trend (label_of figure) ≡ true → IsAmount t) c.value_at.ensures c.in_ok-put_trend.ensures.range in
    record {
      fields = grind (arith, common_steps);
      range = λ more. c.loop-i.invariant.range
          (changes_from_here c.args.figures.now c.args.trends.now c.loop-i.i figure c.loop-i-test.true c.index-figures-i.is told more);
    }
