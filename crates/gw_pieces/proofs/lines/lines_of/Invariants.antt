use Rattle.std.proofs.Common.{◌≡◌, map, take}
use Rattle.gw_pieces.specs.Lines.{line_of_origin}
use Rattle.gw_pieces.proofs.lines.lines_of.Given as goal

-- the lines so far are those of the origins so far
abbrev pub invariant-loop-i : goal.invariant-loop-i
invariant-loop-i l = l.lines.items ≡ map (line_of_origin l.text.statements.items) (take l.i l.order)
