use Rattle.std.proofs.Common.{◌≡◌, map, take}
use Rattle.gw_convert.specs.Pieces.{AddsPieces}
use Rattle.gw_convert.proofs.converting.put_lines.Given as goal

-- those that were gone through became pieces
abbrev pub invariant-loop-at : goal.invariant-loop-at
invariant-loop-at l = AddsPieces (take l.at (map (λ s. s.now) l.lines)) l.fn.out.items l.out.items
