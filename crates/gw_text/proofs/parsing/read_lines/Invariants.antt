-- what is read of the lines before this one, and what is known of it
use Rattle.std.proofs.Common.{map}
use Rattle.gw_text.specs.Knowing.{Knows}
use Rattle.gw_text.proofs.ReadLines.{Reads}
use Rattle.gw_text.proofs.parsing.read_lines.Given as goal

abbrev pub invariant-loop-i : goal.invariant-loop-i
invariant-loop-i l = Knows l.reader l.statements.items × Reads (map (λ x. x.now) l.lines) l.i l.next l.statements.items
