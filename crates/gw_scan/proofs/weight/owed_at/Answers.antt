use Rattle.std.proofs.Common.{◌≡◌, ◌≤◌, ◌^◌, arith, rules}
use Rattle.std.proofs.lemmas.Nat.{mul-le}
use Rattle.gw_object.specs.Limits.{greatest_weight}
use Rattle.gw_rules.specs.Weights.{weight_at}
use Rattle.gw_scan.proofs.Weighing.{block_weighs}
use Rattle.gw_scan.proofs.weight.owed_at.Goals as goal

pub returns-clause-bound : goal.returns-clause-bound
returns-clause-bound c =
    let is : c.weight_at.result ≡ weight_at c.args.parts.now.weights c.args.number = search rules in
    let light : c.weight_at.result ≤ greatest_weight = omega (arith, is, block_weighs c.args.parts.now c.requires c.args.number) in
    omega (arith, mul-le c.owed_by-owed.result c.weight_at.result (2 ^ 32) greatest_weight (omega arith) light)
