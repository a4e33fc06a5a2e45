use Rattle.std.proofs.Common.{◌≡◌, ◌+◌, ◌-◌, ◌*◌, ◌/◌, ◌%◌, ◌<◌, min, length, arith, subst}
use Rattle.gw_statistics.specs.Quantiles.{quantile}
use Rattle.gw_statistics.specs.Summaries.{dispersion, scale, IsRoot}
use Rattle.gw_statistics.proofs.Least.{is_half_width}
use Rattle.gw_statistics.proofs.confidence.half_width.Goals as goal

pub returns : goal.returns
returns c =
    let n = length c.args.values.now in
    let t = quantile (n - 1) in
    let d = dispersion c.args.from.now c.args.values.now in
    let some : 0 < scale n = subst (λ s. 0 < s) c.scale_of.ensures.value (omega (arith, c.scale_of.ensures.some)) in
    let sum : c.scaled.result ≡ t * t * (d / scale n) + (t * t * (d % scale n) / scale n + min 1 (t * t * (d % scale n) % scale n)) = cc in
    is_half_width t n d c.root.result some (subst (λ s. IsRoot s c.root.result) sum c.root.ensures.root)
