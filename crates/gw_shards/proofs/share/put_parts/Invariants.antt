-- what the points that are left add is what all add
use Rattle.std.proofs.Common.{ℕ, List, drop}
use Rattle.gw_shards.specs.Rows.{view}
use Rattle.gw_shards.specs.Shares.{AddsParts}
use Rattle.gw_shards.proofs.share.put_parts.Given as goal

abbrev pub invariant-loop-i : goal.invariant-loop-i
invariant-loop-i g l =
    (new : List ℕ) → AddsParts (view l.common) l.share l.runs l.i l.last.items (drop l.i l.points) l.out.items new
    → AddsParts (view l.common) l.share l.runs 0 l.initial.last.items l.points l.initial.out.items new
