use Rattle.std.proofs.Common.{◌≡◌, ◌++◌, drop}
use Rattle.std.specs.List.{flat_map}
use Rattle.gw_source_lines.specs.Lines.{block_line}
use Rattle.gw_source_lines.proofs.lines.block_lines.Given as goal

-- the lines of the blocks that are left are still to come
abbrev pub invariant-loop-i : goal.invariant-loop-i
invariant-loop-i l = l.lines.items ++ flat_map block_line (drop l.i l.statements) ≡ flat_map block_line l.statements
