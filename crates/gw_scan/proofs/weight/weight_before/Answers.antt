use Rattle.std.proofs.Common.{◌≡◌, IfSome, arith, rules, sym, subst}
use Rattle.gw_object.specs.Grammar.{SlopeFits}
use Rattle.gw_rules.specs.Weights.{weight_at, slope_at}
use Rattle.gw_scan.proofs.Weighing.{block_weighs, slope_fits}
use Rattle.gw_scan.proofs.weight.weight_before.Goals as goal

pub added-requires : goal.added-requires
added-requires c =
    let is : c.slope_at-slope.result ≡ slope_at c.args.parts.now.slopes c.args.number = search rules in
    subst (λ slope. IfSome slope SlopeFits) (sym is) (slope_fits c.args.parts.now c.requires c.args.number)

pub returns-clause-bound : goal.returns-clause-bound
returns-clause-bound c =
    let is : c.weight_at-weight.result ≡ weight_at c.args.parts.now.weights c.args.number = search rules in
    omega (arith, is, block_weighs c.args.parts.now c.requires c.args.number)
