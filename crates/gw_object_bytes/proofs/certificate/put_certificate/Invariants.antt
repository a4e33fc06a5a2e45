use Rattle.std.proofs.Common.{◌≡◌, take}
use Rattle.std.specs.List.{flat_map, zip}
use Rattle.gw_field_bytes.specs.Receivers.{with_bytes}
use Rattle.gw_object.specs.Grammar.{sloped_weight}
use Rattle.gw_object_bytes.proofs.certificate.put_certificate.Given as goal

abbrev pub invariant-loop-i : goal.invariant-loop-i
invariant-loop-i g l =
    g.R.Receiver.content l.to ≡ with_bytes (flat_map (sloped_weight l.version).spell (take l.i (zip l.weights l.slopes))) (g.R.Receiver.content l.fn.to)
