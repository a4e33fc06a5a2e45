use Rattle.std.proofs.Common.{rules}
use Rattle.gw_settle.proofs.Keeping.{amounts_ascend}
use Rattle.gw_settle.proofs.known.Known.units_near.Goals as goal

pub units_near-requires : goal.units_near-requires
units_near-requires c = amounts_ascend c.as_slice.result.now c.self.inside.lists.value.units (search rules) c.self.invariant.units
