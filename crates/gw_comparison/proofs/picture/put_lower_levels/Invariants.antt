-- the level lines of the steps before this one stand behind what was there
use Rattle.gw_drawing.proofs.Series.{HasUpto}
use Rattle.gw_comparison.specs.Pictures.{level_at}
use Rattle.gw_comparison.proofs.picture.put_lower_levels.Given as goal

abbrev pub invariant-loop-i : goal.invariant-loop-i
invariant-loop-i l = HasUpto (level_at l.frame) l.i l.initial.out.items l.out.items
