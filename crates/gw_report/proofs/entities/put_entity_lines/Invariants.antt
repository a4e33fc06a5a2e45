use Rattle.std.proofs.Common.{◌≡◌, ◌++◌, drop}
use Rattle.gw_report.specs.Report.{entity_lines}
use Rattle.gw_report.proofs.entities.put_entity_lines.Given as goal

-- what is written, and the lines that are left, are what was there and all lines
abbrev pub invariant-loop-i : goal.invariant-loop-i
invariant-loop-i l = l.out.items ++ entity_lines l.figures l.i (drop l.i l.entities) ≡ l.fn.out.items ++ entity_lines l.fn.figures 0 l.fn.entities
