-- what is written, and what is left, is all
use Rattle.std.proofs.Common.{◌≡◌, ◌++◌, drop}
use Rattle.gw_rows.specs.Refusals.{in_one_line as line_of}
use Rattle.gw_rows.proofs.refusal.in_one_line.Given as goal

abbrev pub invariant-loop-i : goal.invariant-loop-i
invariant-loop-i l = l.out.items ++ line_of (drop l.i l.text) ≡ line_of l.text
