use Rattle.std.proofs.Common.{◌≡◌, map, take}
use Rattle.gw_source_lines.specs.Lines.{sighted_line}
use Rattle.gw_source_lines.proofs.lines.lines_of.Given as goal

-- the lines so far are those of the entities so far
abbrev pub invariant-loop-i : goal.invariant-loop-i
invariant-loop-i l = l.lines.items ≡ map (sighted_line l.statements) (take l.i l.entities)
