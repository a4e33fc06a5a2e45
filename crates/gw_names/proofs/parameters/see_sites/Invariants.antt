use Rattle.std.proofs.Common.{◌≡◌, map, drop}
use Rattle.gw_name_uses.specs.Sites.{mention_at}
use Rattle.gw_names.specs.Ledger.{with_notes}
use Rattle.gw_names.specs.Sights.{parameters_after, parameter_limits_after}
use Rattle.gw_names.specs.Sighting.{HaveNumbers, names_of}
use Rattle.gw_names.proofs.parameters.see_sites.Given as goal

-- the uses that are left are still to be seen
abbrev pub invariant-loop-i : goal.invariant-loop-i
invariant-loop-i l = record {
  given : HaveNumbers l.free l.parameters;
  names : parameters_after l.free (names_of l.fn.parameters) (map mention_at l.sites)
      ≡ parameters_after l.free (names_of l.parameters) (map mention_at (drop l.i l.sites));
  ledger : with_notes l.fn.ledger.least (parameter_limits_after l.free (names_of l.fn.parameters) (map mention_at l.sites))
      ≡ with_notes l.ledger.least (parameter_limits_after l.free (names_of l.parameters) (map mention_at (drop l.i l.sites)));
}
