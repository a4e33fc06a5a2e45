use Rattle.gw_settle.proofs.Seeking.{units_there}
use Rattle.gw_settle.proofs.amounts.units_near.Goals as goal

pub returns-then-units-place : goal.returns-then-units-place
returns-then-units-place c =
    units_there c.args.units.now c.args.place c.args.entity (record { entity = 0; number = 0 }) c.requires c.if-place-units.true c.if-units-place.true
