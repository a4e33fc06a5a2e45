use Rattle.std.proofs.Common.{arith}
use Rattle.std.proofs.lemmas.Grind.{common_steps}
use Rattle.std.proofs.lemmas.List.Elements.{All-more}
use Rattle.gw_rows.specs.Reading.{IsStreamInRange}
use Rattle.gw_rows.specs.Rows.{overdraws_text}
use Rattle.gw_rows.proofs.InRange.{all_of}
use Rattle.gw_rows.proofs.overdraws.overdraws_field.Goals as goal

pub loop-i-preserved : goal.loop-i-preserved
unfolding overdraws_text
loop-i-preserved c = record {
  field = grind (arith, common_steps);
  range = All-more IsStreamInRange c.args.overdraws.now c.loop-i.i _ c.loop-i-test.true c.loop-i.invariant.range c.in_ok-put_overdraw.ensures.range;
}

pub returns-clause-range : goal.returns-clause-range
returns-clause-range c = all_of IsStreamInRange c.args.overdraws.now c.loop-i.i (omega (arith, c.loop-i-test.false)) c.loop-i.invariant.range
