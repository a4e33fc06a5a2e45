use Rattle.std.proofs.Common.{arith}
use Rattle.gw_object_bytes.proofs.ObjectLaws.{whole_spelled, whole_within}
use Rattle.gw_object_bytes.proofs.reading.read_object.Goals as goal

pub of-requires : goal.of-requires
of-requires c =
    (whole_spelled c.args.bytes.now c.in-Ok.parts (λ i. omega (arith, c.type_inv.bytes i)) (omega arith) c.in-Ok.ensures).fits

pub placed_fault-requires-clause-within : goal.placed_fault-requires-clause-within
placed_fault-requires-clause-within c =
    whole_within c.args.bytes.now c.in-Err-Wrong.fault (λ i. omega (arith, c.type_inv.bytes i)) (rw c.in-Err-Wrong.field-0-is at c.in-Err-Wrong.ensures)
