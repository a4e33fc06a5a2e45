use Rattle.std.proofs.Common.{take}
use Rattle.std.specs.Prelude.{All}
use Rattle.gw_settle.specs.Drafts.{HeldFallOn}
use Rattle.gw_settle.proofs.falls.units_fall_on.Given as goal

-- the amounts so far fall on
abbrev pub invariant-loop-i : goal.invariant-loop-i
invariant-loop-i l = All (HeldFallOn l.times l.next l.second l.last) (take l.i l.units)
