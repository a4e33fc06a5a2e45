use Rattle.std.proofs.Common.{◌≡◌, map, drop}
use Rattle.gw_name_uses.specs.Sites.{mention_at}
use Rattle.gw_names.specs.Sighting.{key_of}
use Rattle.gw_source_lines.specs.Lines as model
use Rattle.gw_source_lines.proofs.lines.first_line.Given as goal

-- the mentions so far are of others
abbrev pub invariant-loop-i : goal.invariant-loop-i
invariant-loop-i l = model.first_line (key_of l.entity) (map mention_at l.sites) ≡ model.first_line (key_of l.entity) (map mention_at (drop l.i l.sites))
