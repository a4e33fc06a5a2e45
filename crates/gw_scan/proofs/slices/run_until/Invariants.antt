use Rattle.std.proofs.Common.{◌≡◌, ◌≤◌, ◌-◌, None}
use Rattle.gw_step.specs.Job.{IsReached}
use Rattle.gw_step.specs.Step.{within_budget}
use Rattle.gw_machine.specs.View.{state_of}
use Rattle.gw_scan.proofs.slices.run_until.Given as goal

-- no named end stands; where the budget is used up the job's end is still to come
abbrev pub invariant-loop-verified : goal.invariant-loop-verified
invariant-loop-verified l =
    IsReached (record { job = l.spec; state = within_budget l.spec.budget (state_of l.machine) })
    × (l.machine.last ≡ l.fn.machine.last) × (l.fn.machine.steps ≤ l.machine.steps) × (l.machine.steps ≤ l.until)
    × (l.machine.ended ≡ None)

abbrev pub decreases-loop-verified : goal.decreases-loop-verified
decreases-loop-verified l = l.until - l.machine.steps
