use Rattle.std.proofs.Common.{arith}
use Rattle.gw_pool.proofs.Booked.{few_out, few_steps}
use Rattle.gw_pool.proofs.shared.Shared.audit.Goals as goal

pub returns-clause-few_steps : goal.returns-clause-few_steps
returns-clause-few_steps g c = omega (arith, c.steps-steps.ensures.value, few_steps _ c.steps-steps.ensures.kept)

pub returns-clause-few_rows : goal.returns-clause-few_rows
returns-clause-few_rows g c = omega (arith, c.out-out.ensures, few_out _ c.steps-steps.ensures.kept)
