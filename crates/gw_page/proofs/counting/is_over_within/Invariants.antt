-- the run of the job has made no more than so many steps, of which fewer and fewer are left
use Rattle.std.proofs.Common.{◌≡◌, ◌≤◌, ℕ, ◌-◌}
use Rattle.gw_page.proofs.counting.is_over_within.Given as goal

abbrev pub invariant-loop-sim : goal.invariant-loop-sim
invariant-loop-sim l = (l.sim.job ≡ l.fn.sim.job) × (l.sim.state.steps ≤ l.most)

abbrev pub decreases-loop-sim : goal.decreases-loop-sim
decreases-loop-sim l = l.most - l.sim.state.steps
