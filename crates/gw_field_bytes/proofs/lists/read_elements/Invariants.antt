use Rattle.std.proofs.Common.{◌≡◌, ◌-◌, []}
use Rattle.gw_fields.specs.Fields.{elements_read}
use Rattle.gw_field_bytes.proofs.lists.read_elements.Given as goal

abbrev pub invariant-loop-i : goal.invariant-loop-i
invariant-loop-i g l =
    elements_read g.L.Elements.reading (l.n - l.i) l.items.items l.rest ≡ elements_read g.L.Elements.reading l.n [] l.bytes
