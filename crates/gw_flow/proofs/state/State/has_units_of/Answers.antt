use Rattle.gw_flow.proofs.Ordered.{units_from_viewed, amounts_from_viewed}
use Rattle.gw_flow.proofs.state.State.has_units_of.Goals as goal

pub has_units-requires-clause-held : goal.has_units-requires-clause-held
has_units-requires-clause-held c = rw c.as_slice.ensures (units_from_viewed c.self.inside.params c.self.inside.facilities c.self.inside.units c.self.invariant)

pub has_units-requires-clause-asked : goal.has_units-requires-clause-asked
has_units-requires-clause-asked c = rw c.as_slice-2.ensures (units_from_viewed c.row.inside.params c.row.inside.facilities c.row.inside.units c.row.invariant)

pub has_units-requires-clause-amounts : goal.has_units-requires-clause-amounts
has_units-requires-clause-amounts c =
    rw c.as_slice-2.ensures (amounts_from_viewed c.row.inside.params c.row.inside.facilities c.row.inside.units c.row.invariant)
