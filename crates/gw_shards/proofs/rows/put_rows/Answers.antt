use Rattle.std.proofs.Common.{arith, subst}
use Rattle.std.proofs.lemmas.Grind.{common_steps}
use Rattle.std.proofs.lemmas.List.Elements.{All-more}
use Rattle.gw_figures.specs.Labels.{labels as labels_of}
use Rattle.gw_rows.specs.Reading.{MayBeInRange}
use Rattle.gw_rows.proofs.InRange.{all_of}
use Rattle.gw_shards.proofs.rows.put_rows.Goals as goal

pub loop-i-preserved : goal.loop-i-preserved
loop-i-preserved c =
    let run = c.index-runs-i.result in
    let may = MayBeInRange (labels_of c.args.figures.now) in
    record {
      rows = grind (arith, common_steps);
      range = All-more may c.args.runs.now c.loop-i.i run c.loop-i-test.true c.loop-i.invariant.range
          (subst may c.index-runs-i.is c.in_ok-put_row.ensures.range);
    }

pub returns-clause-range : goal.returns-clause-range
returns-clause-range c =
    all_of (MayBeInRange (labels_of c.args.figures.now)) c.args.runs.now c.loop-i.i (omega (arith, c.loop-i-test.false)) c.loop-i.invariant.range
