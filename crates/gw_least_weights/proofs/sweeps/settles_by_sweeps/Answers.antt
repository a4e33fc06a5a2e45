use Rattle.std.proofs.Common.{length, refl}
use Rattle.gw_least_weights.proofs.Reached.{ones_under, none_least}
use Rattle.gw_least_weights.proofs.sweeps.settles_by_sweeps.Goals as goal

pub returns-in-Circle-clause-least : goal.returns-in-Circle-clause-least
returns-in-Circle-clause-least c =
    let rules = c.args.rules.now in
    let n = length c.args.weights.now in
    let under = ones_under rules c.args.counted n c.args.weights.now refl c.requires.ones c.requires.order in
    λ shows. none_least rules c.args.counted n c.args.weights.now under (c.shows_none.ensures shows)
