use Rattle.gw_field_bytes.proofs.Ascending.{AscendBelow, nat_order}
use Rattle.gw_field_bytes.proofs.keys.keys_ascend.Given as goal

abbrev pub invariant-loop-i : goal.invariant-loop-i
invariant-loop-i g l = AscendBelow nat_order g.T.Keyed.key_of l.elements l.i
