use Rattle.std.proofs.Common.{arith}
use Rattle.std.proofs.lemmas.Grind.{common_steps}
use Rattle.std.proofs.lemmas.List.Elements.{All-more}
use Rattle.gw_rows.specs.Reading.{IsAmount}
use Rattle.gw_rows.proofs.InRange.{all_of}
use Rattle.gw_rows.proofs.row.put_values.Goals as goal

pub loop-i-preserved : goal.loop-i-preserved
loop-i-preserved c = record {
  fields = grind (arith, common_steps);
  range = All-more IsAmount c.args.values.now c.loop-i.i _ c.loop-i-test.true c.loop-i.invariant.range c.in_ok-amount_field.ensures.range;
}

pub returns-clause-range : goal.returns-clause-range
returns-clause-range c = all_of IsAmount c.args.values.now c.loop-i.i (omega (arith, c.loop-i-test.false)) c.loop-i.invariant.range
