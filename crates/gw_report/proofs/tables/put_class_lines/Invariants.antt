use Rattle.std.proofs.Common.{◌≡◌, ◌++◌, drop}
use Rattle.gw_report.specs.Report.{class_lines}
use Rattle.gw_report.proofs.tables.put_class_lines.Given as goal

-- what is written, and the lines that are left, are what was there and all lines
abbrev pub invariant-loop-i : goal.invariant-loop-i
invariant-loop-i l = l.out.items ++ class_lines l.i (drop l.i l.classes) ≡ l.fn.out.items ++ class_lines 0 l.fn.classes
