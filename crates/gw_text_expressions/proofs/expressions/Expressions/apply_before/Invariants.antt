-- the names stay
use Rattle.gw_text_expressions.specs.Reading.{KeepsNames}
use Rattle.gw_text_expressions.proofs.expressions.Expressions.apply_before.Given as goal

abbrev pub invariant-loop-operator : goal.invariant-loop-operator
invariant-loop-operator l = KeepsNames l.fn.self l.self
