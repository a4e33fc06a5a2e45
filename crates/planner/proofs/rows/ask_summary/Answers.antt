use Rattle.gw_console.proofs.Outputs.{delivers}
use Rattle.planner.proofs.Endings.{summed_ends}
use Rattle.planner.proofs.rows.ask_summary.Goals as goal

pub returns : goal.returns
returns g c = delivers _ (summed_ends c.args.summing) _ _ _ _ c.read_and_sum.result c.read_and_sum.ensures.answer c.deliver.ensures.bytes
