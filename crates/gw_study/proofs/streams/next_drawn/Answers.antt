use Rattle.std.proofs.Common.{◌∙◌, sym, arith}
use Rattle.gw_study.proofs.Looking.{found, passed}
use Rattle.gw_study.proofs.streams.next_drawn.Goals as goal

pub returns-then-draws-clause-value : goal.returns-then-draws-clause-value
returns-then-draws-clause-value c =
    sym (found c.args.parts.now c.args.stream c.loop-d.d (omega arith) (sym c.draws.ensures ∙ c.if-draws.true)) ∙ c.loop-d.invariant

pub loop-d-preserved : goal.loop-d-preserved
loop-d-preserved c =
    sym (passed c.args.parts.now c.args.stream c.loop-d.d (omega arith) (sym c.draws.ensures ∙ c.if-draws.false)) ∙ c.loop-d.invariant
