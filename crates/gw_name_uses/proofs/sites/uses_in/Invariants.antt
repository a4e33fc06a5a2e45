use Rattle.std.proofs.Common.{◌≡◌, ◌++◌, map, drop}
use Rattle.gw_name_uses.specs.Sites.{mention_at, mentioned_from, mentioned_in}
use Rattle.gw_name_uses.proofs.sites.uses_in.Given as goal

-- the statements that are left are still to come
abbrev pub invariant-loop-i : goal.invariant-loop-i
invariant-loop-i l = mentioned_in l.statements ≡ map mention_at l.sites.items ++ mentioned_from l.i (drop l.i l.statements)
