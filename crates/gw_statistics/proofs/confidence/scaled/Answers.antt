use Rattle.std.proofs.Common.{◌%◌, arith}
use Rattle.gw_statistics.proofs.Least.{whole_part, rest_part}
use Rattle.gw_statistics.proofs.confidence.scaled.Goals as goal

pub overflow_add-result : goal.overflow_add-result
overflow_add-result c =
    let whole = whole_part c.args.square c.args.dispersion c.args.scale c.requires.square c.requires.dispersion c.requires.scale.0 in
    let rest = rest_part c.args.square (c.args.dispersion % c.args.scale) c.args.scale c.requires.square (omega arith) c.requires.scale.1 in
    omega (arith, whole, rest)

pub returns-clause-range : goal.returns-clause-range
returns-clause-range c =
    let whole = whole_part c.args.square c.args.dispersion c.args.scale c.requires.square c.requires.dispersion c.requires.scale.0 in
    let rest = rest_part c.args.square (c.args.dispersion % c.args.scale) c.args.scale c.requires.square (omega arith) c.requires.scale.1 in
    omega (arith, whole, rest)
