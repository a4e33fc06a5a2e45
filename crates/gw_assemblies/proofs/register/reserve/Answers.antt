use Rattle.std.proofs.Common.{arith}
use Rattle.gw_assemblies.proofs.register.reserve.Goals as goal

pub returns-clause-len : goal.returns-clause-len
returns-clause-len c = omega (arith, c.sweep.ensures.fewer, c.reserve.ensures.len)
