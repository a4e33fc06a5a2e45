use Rattle.std.proofs.Common.{◌≡◌, ◌++◌, map, drop}
use Rattle.gw_name_uses.specs.Mentions.{mentions}
use Rattle.gw_name_uses.specs.Sites.{mention_at, all_at}
use Rattle.gw_name_uses.proofs.sites.put_sites.Given as goal

-- the uses that are left are still to come
abbrev pub invariant-loop-i : goal.invariant-loop-i
invariant-loop-i l = map mention_at l.fn.sites.items ++ all_at l.statement l.line (mentions l.uses) ≡ map mention_at l.sites.items
    ++ all_at l.statement l.line (mentions (drop l.i l.uses))
