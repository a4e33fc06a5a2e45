use Rattle.std.proofs.Common.{◌≤◌, refl, ap, ◌∙◌, length, arith}
use Rattle.std.specs.List.{flat_map, zip}
use Rattle.std.proofs.lemmas.List.{take_all}
use Rattle.std.proofs.lemmas.Slice.Zip.{length-zip}
use Rattle.gw_field_bytes.specs.Receivers.{with_bytes}
use Rattle.gw_object.specs.Grammar.{sloped_weight}
use Rattle.gw_object_bytes.proofs.CertificateLaws.{one_more_weight}
use Rattle.gw_object_bytes.proofs.certificate.put_certificate.Goals as goal

pub loop-i-preserved : goal.loop-i-preserved
loop-i-preserved g c =
    one_more_weight c.args.version c.args.weights.now c.args.slopes.now c.loop-i.i _ _ _ _ _
    (omega (arith, c.loop-i-test.true, c.min-i-end.ensures)) refl refl c.loop-i.invariant c.in_ok-put_weight.ensures

pub returns : goal.returns
returns g c =
    let pairs = zip c.args.weights.now c.args.slopes.now in
    let done : length pairs ≤ c.loop-i.i = omega (arith, length-zip c.args.weights.now c.args.slopes.now, c.min-i-end.ensures, c.loop-i-test.false) in
    c.loop-i.invariant ∙ ap (λ xs. with_bytes (flat_map (sloped_weight c.args.version).spell xs) (g.R.Receiver.content c.args.to.now))
    (take_all c.loop-i.i pairs done)
