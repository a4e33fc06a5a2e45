use Rattle.std.proofs.Common.{length}
use Rattle.std.proofs.lemmas.List.{get_or_default}
use Rattle.gw_least_weights.proofs.Gathered.{begins, goes_on}
use Rattle.gw_least_weights.proofs.rounds.raise_in_round.Goals as goal

pub loop-i-init : goal.loop-i-init
loop-i-init c = begins c.args.rules.now c.args.counted (length c.args.weights.now) c.requires.order c.args.weights.now

pub loop-i-preserved : goal.loop-i-preserved
loop-i-preserved c =
    let rules = c.args.rules.now in
    let done = c.raise_for-raised.ensures in
    goes_on rules c.args.counted (length c.args.weights.now) c.requires.order c.args.weights.now c.loop-i.weights _ c.loop-i.raised
    c.raise_for-raised.result c.loop-i.i _ c.loop-i.invariant c.loop-i-test.true
    (λ d. get_or_default rules c.loop-i.i d _ c.loop-i-test.true) done.raised done.still
