use Rattle.gw_flow.proofs.Unfit.{lowered_so_far}
use Rattle.gw_flow.proofs.rules.first_unfit.Goals as goal

pub loop-operand-preserved : goal.loop-operand-preserved
loop-operand-preserved g c =
    lowered_so_far (g.S.Lookups.known c.args.state.now) c.args.parts.now c.args.operands.now c.loop-operand.operand-index _
    c.loop-operand-test.true c.loop-operand.least c.lowest_asked-least.result
    c.loop-operand.invariant c.lowest_asked-least.ensures
