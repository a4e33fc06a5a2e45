use Rattle.std.proofs.Common.{rules, length, sym}
use Rattle.std.proofs.lemmas.Bool.{not-true}
use Rattle.gw_least_weights.specs.Circles.{KeepNone}
use Rattle.gw_least_weights.proofs.Raised.{raised_both}
use Rattle.gw_least_weights.proofs.Reached.{raised_under, still_least, none_least}
use Rattle.gw_least_weights.proofs.sweeps.settle_along.Goals as goal

pub loop-preserved : goal.loop-preserved
loop-preserved c = raised_both _ _ c.loop.weights _ c.loop.invariant c.sweep.ensures.raised

pub returns-then-not-sweep-clause-least : goal.returns-then-not-sweep-clause-least
returns-then-not-sweep-clause-least c =
    let rules = c.args.rules.now in
    let n = length c.args.weights.now in
    let raised = raised_both _ _ c.loop.weights _ c.loop.invariant c.sweep.ensures.raised in
    let under = raised_under rules c.args.counted n _ c.sweep.new.weights c.requires.under raised in
    λ settled. still_least rules c.args.counted n c.sweep.new.weights c.raise_in_round.new.weights (sym raised.grown.many) under.range
    under.below c.raise_in_round.ensures.round
    (c.raise_in_round.ensures.still (not-true c.raise_in_round.result settled))

pub returns-then-not-sweep-clause-range : goal.returns-then-not-sweep-clause-range
returns-then-not-sweep-clause-range c =
    let raised = raised_both _ _ c.loop.weights _ c.loop.invariant c.sweep.ensures.raised in
    c.raise_in_round.ensures.round.raised.range (raised.range c.requires.under.range)

pub returns-in_err-show_none-clause-range : goal.returns-in_err-show_none-clause-range
returns-in_err-show_none-clause-range c = (raised_both _ _ c.loop.weights _ c.loop.invariant c.sweep.ensures.raised).range c.requires.under.range

pub returns-then-branch-clause-least : goal.returns-then-branch-clause-least
returns-then-branch-clause-least c =
    let raised = raised_both _ _ c.loop.weights _ c.loop.invariant c.sweep.ensures.raised in
    let under = raised_under c.args.rules.now c.args.counted (length c.args.weights.now) _ c.sweep.new.weights c.requires.under raised in
    let none : KeepNone c.args.rules.now c.sweep.new.weights = search rules in
    λ same. none_least c.args.rules.now c.args.counted (length c.args.weights.now) c.sweep.new.weights under none

pub returns-then-branch-clause-range : goal.returns-then-branch-clause-range
returns-then-branch-clause-range c = (raised_both _ _ c.loop.weights _ c.loop.invariant c.sweep.ensures.raised).range c.requires.under.range
