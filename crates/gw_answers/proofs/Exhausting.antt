-- A slice of as many steps as a job's budget brings it to its end.
use Rattle.std.proofs.Common.{◌≡◌, ◌≢◌, ℕ, ◌<◌, ◌≤◌, Option, Some, None, IsTrue, is_some, refl, arith}
use Rattle.gw_step.specs.declared.ends.End.{End}
use Rattle.gw_step.specs.Job.{Progress, IsReached, IsFinal}
use Rattle.gw_scan.specs.declared.slices.Slice.{Slice}
use Rattle.gw_scan.specs.Answers.{IsSlice}

-- by the end that stands
ends : (o : Option End) (budget steps : ℕ) (slice : Slice) → (o ≡ None → steps < budget) → IsSlice budget slice → slice.ended ≡ is_some o
    → slice.made ≤ steps → IsTrue (is_some o)
ends (Some end) budget steps slice runs all is made = refl
ends None budget steps slice runs all is made =
    let fewer : slice.made < budget = omega (arith, runs refl, made) in
    let differs : slice.made ≢ budget = λ same. omega (arith, fewer, same) in
    let ended = all.all differs in
    absurd cc

pub exhausts : (p : Progress) (slice : Slice) → IsReached p → IsSlice p.job.budget slice → slice.ended ≡ is_some p.state.ended → slice.made
    ≤ p.state.steps → IsFinal p.state
exhausts p slice reached all is made = ends p.state.ended p.job.budget p.state.steps slice reached.bounded.runs all is made
