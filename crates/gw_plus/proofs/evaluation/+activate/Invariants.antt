use Rattle.gw_plus.specs.Activation.{frame_of}
use Rattle.gw_plus.specs.Reading.{environment_of}
use Rattle.gw_plus.proofs.Runs.{Standing, left}
use Rattle.gw_plus.proofs.evaluation.+activate.Given as goal

abbrev pub decreases-activate : goal.decreases-activate
decreases-activate l = l.number

abbrev pub invariant-loop-called : goal.invariant-loop-called
invariant-loop-called l =
    Standing l.parts (environment_of l.env) l.number l.code l.fn.locals.items (frame_of l.activation)

abbrev pub decreases-loop-called : goal.decreases-loop-called
decreases-loop-called l = left l.parts l.code (frame_of l.activation)
