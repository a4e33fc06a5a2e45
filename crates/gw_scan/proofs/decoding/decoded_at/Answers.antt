use Rattle.std.proofs.Common.{◌≡◌, ◌+◌, ◌-◌, ◌<◌, ◌∙◌, length, option_map, refl, sym, ap, arith}
use Rattle.std.proofs.lemmas.List.{get_or_default}
use Rattle.std.proofs.lemmas.Option.{slice_get_read}
use Rattle.gw_scan.proofs.Origins.{origin_at}
use Rattle.gw_scan.specs.Origins.{origin}
use Rattle.gw_scan.proofs.decoding.decoded_at.Goals as goal

pub returns : goal.returns
returns c =
    let ds = c.args.table.now in
    let n = c.args.number in
    let first : n ≡ n - 1 + 1 = omega (arith, c.requires.0) in
    let within : n - 1 < length ds = omega (arith, c.requires.0, c.requires.1) in
    sym (origin_at ds n (n - 1) first) ∙ ap (option_map origin) (slice_get_read ds (length ds) (n - 1) _ refl within (get_or_default ds (n - 1) _ _ within))
