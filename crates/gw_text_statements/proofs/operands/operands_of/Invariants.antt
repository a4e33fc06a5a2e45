-- the names stay
use Rattle.gw_text_expressions.specs.Reading.{KeepsNames}
use Rattle.gw_text_statements.proofs.operands.operands_of.Given as goal

abbrev pub invariant-loop-i : goal.invariant-loop-i
invariant-loop-i l = KeepsNames l.fn.reader l.reader
