use Rattle.std.proofs.Common.{◌≡◌, map, drop}
use Rattle.gw_name_uses.specs.Sites.{mention_at}
use Rattle.gw_names.specs.Ledger.{with_notes}
use Rattle.gw_names.specs.Sights.{entities_after, entity_limits_after}
use Rattle.gw_names.specs.Sighting.{IsSighted, keys_of}
use Rattle.gw_names.proofs.sights.see_sites.Given as goal

-- the uses that are left are still to be seen
abbrev pub invariant-loop-i : goal.invariant-loop-i
invariant-loop-i l = record {
  sighted : IsSighted l.declarations l.entities l.sighted.items;
  keys : entities_after (keys_of l.fn.sighted.items) (map mention_at l.sites) ≡ entities_after (keys_of l.sighted.items) (map mention_at (drop l.i l.sites));
  ledger : with_notes l.fn.ledger.least (entity_limits_after (keys_of l.fn.sighted.items) (map mention_at l.sites))
      ≡ with_notes l.ledger.least (entity_limits_after (keys_of l.sighted.items) (map mention_at (drop l.i l.sites)));
}
