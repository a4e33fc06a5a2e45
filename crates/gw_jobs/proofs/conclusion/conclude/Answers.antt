use Rattle.std.proofs.Common.{rules}
use Rattle.gw_jobs.proofs.conclusion.conclude.Goals as goal

pub returns : goal.returns
returns c = record {
  state = c.args.sim.now.state;
  alone = c.requires.reached.alone;
  ended = c.requires.ended;
  report = search rules;
}
