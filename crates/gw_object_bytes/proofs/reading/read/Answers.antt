use Rattle.std.proofs.Common.{arith}
use Rattle.gw_object_bytes.proofs.ObjectLaws.{found_or, only_or}
use Rattle.gw_object_bytes.proofs.reading.read.Goals as goal

pub returns-clause-found : goal.returns-clause-found
returns-clause-found c =
    found_or c.args.bytes.now c.read_object.result (λ i. omega (arith, c.type_inv.bytes i)) c.read_object.ensures.exact

pub returns-clause-only : goal.returns-clause-only
returns-clause-only c = only_or c.args.bytes.now c.read_object.result c.read_object.ensures.exact
