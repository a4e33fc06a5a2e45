use Rattle.std.proofs.Common.{length, refl, sym, ◌∙◌}
use Rattle.std.proofs.lemmas.Bool.{not-true}
use Rattle.gw_least_weights.proofs.Reached.{rounds_begin, still_least, near_under}
use Rattle.gw_least_weights.proofs.rounds.settles_along.Goals as goal

pub returns-clause-least : goal.returns-clause-least
returns-clause-least c =
    let rules = c.args.rules.now in
    let n = length c.args.weights.now in
    let begins = rounds_begin rules c.args.counted n c.args.weights.now refl c.requires.ones c.requires.order in
    let raised = c.raise_along.ensures.raised in
    λ settled. still_least rules c.args.counted n c.raise_along.new.weights c.raise_in_round.new.weights (sym raised.grown.many) (raised.range begins.range)
    (λ u certificate. raised.below u certificate.keeps (near_under rules c.args.counted n _ c.args.weights.now begins u certificate))
    c.raise_in_round.ensures.round
    (c.raise_in_round.ensures.still (not-true c.raise_in_round.result settled))

pub returns-clause-range : goal.returns-clause-range
returns-clause-range c =
    let n = length c.args.weights.now in
    let begins = rounds_begin c.args.rules.now c.args.counted n c.args.weights.now refl c.requires.ones c.requires.order in
    c.raise_in_round.ensures.round.raised.range (c.raise_along.ensures.raised.range begins.range)

pub returns-clause-many : goal.returns-clause-many
returns-clause-many c = sym c.raise_in_round.ensures.round.raised.grown.many ∙ sym c.raise_along.ensures.raised.grown.many
