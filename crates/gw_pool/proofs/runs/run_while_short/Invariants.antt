use Rattle.std.proofs.Common.{◌≡◌, ◌+◌, ◌-◌, ◌*◌, ◌≤◌}
use Rattle.gw_pool.specs.Workers.{most_steps, AreEnded, CountsAlike}
use Rattle.gw_pool.proofs.runs.run_while_short.Given as goal

abbrev pub invariant-loop-made : goal.invariant-loop-made
invariant-loop-made g l = record {
  board : l.crew.board ≡ l.fn.service;
  steps : l.totals.steps ≤ l.crew.steps;
  few : l.crew.steps ≤ most_steps;
  counted : CountsAlike l.fn.crew l.crew l.fn.totals l.totals;
  workers : AreEnded l.n l.totals;
}

-- a run that makes steps leaves fewer to be made; one that makes none is the last
abbrev pub decreases-loop-made : goal.decreases-loop-made
decreases-loop-made g l = 2 * (most_steps - l.crew.steps) + l.made
