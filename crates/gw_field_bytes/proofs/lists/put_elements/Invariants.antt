use Rattle.std.proofs.Common.{◌≡◌, take}
use Rattle.std.specs.List.{flat_map}
use Rattle.gw_field_bytes.specs.Receivers.{with_bytes}
use Rattle.gw_field_bytes.proofs.lists.put_elements.Given as goal

abbrev pub invariant-loop-element : goal.invariant-loop-element
invariant-loop-element g l =
    g.R.Receiver.content l.to ≡ with_bytes (flat_map g.T.Put.spelling (take l.element-index l.elements)) (g.R.Receiver.content l.fn.to)
