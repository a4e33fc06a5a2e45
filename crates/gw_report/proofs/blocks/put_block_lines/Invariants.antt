use Rattle.std.proofs.Common.{◌≡◌, ◌++◌, drop}
use Rattle.gw_report.specs.Report.{block_lines}
use Rattle.gw_report.proofs.blocks.put_block_lines.Given as goal

-- what is written, and the lines that are left, are what was there and all lines
abbrev pub invariant-loop-i : goal.invariant-loop-i
invariant-loop-i l = l.out.items ++ block_lines l.figures l.i (drop l.i l.blocks) ≡ l.fn.out.items ++ block_lines l.fn.figures 0 l.fn.blocks
