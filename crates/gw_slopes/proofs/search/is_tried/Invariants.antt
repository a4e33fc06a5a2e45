use Rattle.std.proofs.Common.{◌≡◌, ◌+◌, drop}
use Rattle.gw_rules.specs.Flow.{own_row}
use Rattle.gw_slopes.specs.Found.{uses, is_tried}
use Rattle.gw_slopes.proofs.search.is_tried.Given as goal

-- one of the blocks that are left uses it where one of all does
abbrev pub invariant-loop-i : goal.invariant-loop-i
invariant-loop-i l = uses (own_row l.parts) l.parameter (l.i + 1) (drop l.i l.blocks) ≡ is_tried l.parts l.parameter
