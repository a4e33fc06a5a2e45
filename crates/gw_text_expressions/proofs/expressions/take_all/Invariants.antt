-- the names stay
use Rattle.gw_text_expressions.specs.Reading.{KeepsNames}
use Rattle.gw_text_expressions.proofs.expressions.take_all.Given as goal

abbrev pub invariant-loop-token : goal.invariant-loop-token
invariant-loop-token l = KeepsNames l.fn.reader l.reader
