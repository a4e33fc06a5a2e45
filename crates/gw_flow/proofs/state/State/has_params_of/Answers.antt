use Rattle.gw_flow.proofs.Ordered.{params_from_viewed, returns_from_viewed}
use Rattle.gw_flow.proofs.state.State.has_params_of.Goals as goal

pub has_params-requires-clause-held : goal.has_params-requires-clause-held
has_params-requires-clause-held c =
    rw c.as_slice.ensures (params_from_viewed c.self.inside.params c.self.inside.facilities c.self.inside.units c.self.invariant)

pub has_params-requires-clause-asked : goal.has_params-requires-clause-asked
has_params-requires-clause-asked c = rw c.as_slice-2.ensures (params_from_viewed c.row.inside.params c.row.inside.facilities c.row.inside.units c.row.invariant)

pub has_params-requires-clause-each_held : goal.has_params-requires-clause-each_held
has_params-requires-clause-each_held c =
    rw c.as_slice.ensures (returns_from_viewed c.self.inside.params c.self.inside.facilities c.self.inside.units c.self.invariant)

pub has_params-requires-clause-each_asked : goal.has_params-requires-clause-each_asked
has_params-requires-clause-each_asked c =
    rw c.as_slice-2.ensures (returns_from_viewed c.row.inside.params c.row.inside.facilities c.row.inside.units c.row.invariant)
