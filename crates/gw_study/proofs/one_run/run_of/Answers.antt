use Rattle.gw_step.proofs.Rests.{start_steps}
use Rattle.gw_study.proofs.one_run.run_of.Goals as goal

pub run_through-run-requires-clause-starts : goal.run_through-run-requires-clause-starts
run_through-run-requires-clause-starts c = start_steps c.args.spec c.in-Ok.sim.state c.in-Ok.ensures.started.1
