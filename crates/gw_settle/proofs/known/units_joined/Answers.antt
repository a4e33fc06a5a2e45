use Rattle.std.proofs.Common.{min, rules}
use Rattle.gw_flow.specs.declared.abstract_state.Amount.{Amount}
use Rattle.gw_settle.proofs.Keeping.{units_more}
use Rattle.gw_settle.proofs.known.units_joined.Goals as goal

pub loop-i-preserved : goal.loop-i-preserved
loop-i-preserved c =
    let none : Amount = record { entity = 0; number = 0 } in
    units_more min c.args.units.now c.args.state.now c.loop-i.all.items c.push_units.new.all.items c.loop-i.i none c.requires.units
    c.loop-i-test.true (search rules) c.loop-i.invariant
