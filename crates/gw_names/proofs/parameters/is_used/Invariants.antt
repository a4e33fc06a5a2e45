use Rattle.std.proofs.Common.{◌≡◌, map, drop}
use Rattle.gw_name_uses.specs.Sites.{mention_at}
use Rattle.gw_names.specs.Sights as model
use Rattle.gw_names.proofs.parameters.is_used.Given as goal

-- those so far don't use it
abbrev pub invariant-loop-i : goal.invariant-loop-i
invariant-loop-i l = model.is_used (map mention_at l.sites) l.number ≡ model.is_used (map mention_at (drop l.i l.sites)) l.number
