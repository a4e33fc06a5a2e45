use Rattle.std.proofs.Common.{◌≡◌, map}
use Rattle.gw_name_uses.specs.Sites.{mention_at}
use Rattle.gw_names.specs.Sights.{free_up_to}
use Rattle.gw_names.proofs.parameters.free_numbers.Given as goal

-- the free numbers so far
abbrev pub invariant-loop-below : goal.invariant-loop-below
invariant-loop-below l = l.free.items ≡ free_up_to (map mention_at l.sites) l.below
