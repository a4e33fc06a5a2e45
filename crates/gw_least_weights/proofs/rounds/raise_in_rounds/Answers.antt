use Rattle.std.proofs.Common.{◌+◌, ◌-◌, length, refl, arith}
use Rattle.gw_least_weights.proofs.Reached.{rounds_begin, rounds_go_on, all_reached, still_least, near_under, near_is}
use Rattle.gw_least_weights.proofs.rounds.raise_in_rounds.Goals as goal

pub loop-init : goal.loop-init
loop-init c =
    let n = length c.args.weights.now in
    near_is c.args.rules.now c.args.counted n c.args.counted (c.args.counted + 1 - 0) c.args.weights.now (omega arith)
    (rounds_begin c.args.rules.now c.args.counted n c.args.weights.now refl c.requires.ones c.requires.order)

pub returns-then-not-raise_in_round-clause-least : goal.returns-then-not-raise_in_round-clause-least
returns-then-not-raise_in_round-clause-least c =
    let rules = c.args.rules.now in
    let n = length c.args.weights.now in
    let near = c.loop.invariant in
    still_least rules c.args.counted n c.loop.weights c.raise_in_round.new.weights near.many near.range
    (near_under rules c.args.counted n _ c.loop.weights near) c.raise_in_round.ensures.round
    (c.raise_in_round.ensures.still c.if-not-raise_in_round.true)

pub returns-then-not-raise_in_round-clause-range : goal.returns-then-not-raise_in_round-clause-range
returns-then-not-raise_in_round-clause-range c = c.raise_in_round.ensures.round.raised.range c.loop.invariant.range

pub loop-preserved : goal.loop-preserved
loop-preserved c =
    let n = length c.args.weights.now in
    let left = c.args.counted + 1 - (c.loop.counter + 1) in
    let near = near_is c.args.rules.now c.args.counted n (c.args.counted + 1 - c.loop.counter) (left + 1) c.loop.weights
    (omega (arith, c.loop-test.true)) c.loop.invariant in
    rounds_go_on c.args.rules.now c.args.counted n c.requires.order left c.loop.weights c.raise_in_round.new.weights near c.raise_in_round.ensures.round

pub returns-clause-least : goal.returns-clause-least
returns-clause-least c =
    let n = length c.args.weights.now in
    all_reached c.args.rules.now c.args.counted n c.requires.order c.loop.weights
    (near_is c.args.rules.now c.args.counted n (c.args.counted + 1 - c.loop.counter) 0 c.loop.weights (omega (arith, c.loop-test.false)) c.loop.invariant)

pub returns-clause-range : goal.returns-clause-range
returns-clause-range c = c.loop.invariant.range
