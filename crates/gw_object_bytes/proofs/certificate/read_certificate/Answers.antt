use Rattle.std.proofs.Common.{refl}
use Rattle.gw_object_bytes.proofs.certificate.read_certificate.Goals as goal

pub returns : goal.returns
returns c =
    rw (
      c.in_ok-sloped.ensures,
      c.from_vec.ensures,
      c.from_vec-2.ensures,
      c.in_ok-weights.ensures,
      c.in_ok-slopes.ensures,
      c.as_slice.ensures.value,
      c.as_slice-2.ensures.value,
    ) refl
