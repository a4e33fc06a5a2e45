use Rattle.gw_flow.proofs.Ordered.{units_from_viewed, amounts_from_viewed}
use Rattle.gw_flow.proofs.state.State.in_numbers_of.Goals as goal

pub of-requires : goal.of-requires
of-requires c =
    let i = c.self.inside in
    record {
      parameters = rw c.in_ok-copy_of.ensures c.requires;
      facilities = rw c.in_ok-copy_of-2.ensures c.self.invariant.facilities;
      units = rw c.in_ok-copy_of-3.ensures (units_from_viewed i.params i.facilities i.units c.self.invariant);
      amounts = rw c.in_ok-copy_of-3.ensures (amounts_from_viewed i.params i.facilities i.units c.self.invariant);
    }
