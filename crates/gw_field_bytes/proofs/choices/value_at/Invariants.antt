use Rattle.std.proofs.Common.{◌≡◌, drop}
use Rattle.gw_fields.specs.Fields.{value_of}
use Rattle.gw_field_bytes.proofs.choices.value_at.Given as goal

abbrev pub invariant-loop-i : goal.invariant-loop-i
invariant-loop-i g l =
    value_of g.T.OneByte.byte_of g.T.OneByte.values l.byte ≡ value_of g.T.OneByte.byte_of (drop l.i l.values) l.byte
