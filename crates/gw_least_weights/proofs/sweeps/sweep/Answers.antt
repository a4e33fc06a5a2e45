use Rattle.gw_least_weights.proofs.Raised.{raised_none, raised_both}
use Rattle.gw_least_weights.proofs.sweeps.sweep.Goals as goal

pub loop-i-init : goal.loop-i-init
loop-i-init c = raised_none _ _

pub loop-i-preserved : goal.loop-i-preserved
loop-i-preserved c = raised_both _ _ c.loop-i.weights _ c.loop-i.invariant c.raise_noting-raised.ensures.raised
