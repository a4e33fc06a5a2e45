-- What a row holds, by whether a named end stands.
use Rattle.std.proofs.Common.{◌≡◌, ◌≤◌, ◌∙◌, ℕ, Option, Some, None, refl, ap, arith}
use Rattle.std.specs.Prelude.{is_some, ◌^◌, true}
use Rattle.gw_step.specs.declared.ends.End.{End}
use Rattle.gw_step.specs.Job.{Job, Progress, IsReached}
use Rattle.gw_scan.specs.declared.sim.Status.TheVariants as statuses
use Rattle.gw_scan.specs.Answers.{status_at}
use Rattle.gw_service.specs.Rows.{is_final, is_over, standing_at}
use Rattle.gw_jobs.specs.declared.row.Standing.{Standing}
use Rattle.gw_jobs.specs.declared.row.Standing.TheVariants as standings
use Rattle.gw_jobs.specs.declared.conclusion.Conclusion.{Conclusion}
use Rattle.gw_jobs.specs.Holding.{standing_of, HoldsFor, Concludes}

-- the lone run is over at a reached state exactly where a named end stands in it
pub over_is : (p : Progress) → IsReached p → is_over p.job p.state.steps ≡ is_some p.state.ended
over_is p h = ap is_final h.alone

-- this standing has the state, and is the one that its job asks for
pub record StandsWith (t : Standing) (p : Progress) : Type 0 where
  pub holds : HoldsFor p.job p.state.steps t
  pub standing : standing_of t ≡ standing_at p.job p.state.steps

by_end : (o : Option End) (p : Progress) (end : End) → is_over p.job p.state.steps ≡ is_some o → statuses.Ended end ≡ status_at o
    → StandsWith (standings.Ended p) p
by_end None p end over is = absurd cc
by_end (Some e) p end over is = record { holds = (record { job = refl; steps = refl }, over); standing = rw over refl }

pub stands_ended : (p : Progress) (end : End) → IsReached p → statuses.Ended end ≡ status_at p.state.ended → StandsWith (standings.Ended p) p
stands_ended p end h is = by_end p.state.ended p end (over_is p h) is

by_running : (o : Option End) (p : Progress) → is_over p.job p.state.steps ≡ is_some o → statuses.Running ≡ status_at o → StandsWith (standings.Ready p) p
by_running None p over is = record { holds = (record { job = refl; steps = refl }, over); standing = rw over refl }
by_running (Some e) p over is = absurd cc

pub stands_ready : (p : Progress) → IsReached p → statuses.Running ≡ status_at p.state.ended → StandsWith (standings.Ready p) p
stands_ready p h is = by_running p.state.ended p (over_is p h) is

-- the lone run is over where a conclusion tells it
over_told : (j : Job) (n : ℕ) (c : Conclusion) → Concludes j n c → is_over j n ≡ true
over_told j n c h = ap is_final h.alone ∙ ap is_some h.ended

pub stands_concluded : (p : Progress) (c : Conclusion) → Concludes p.job p.state.steps c → StandsWith (standings.Concluded c) p
stands_concluded p c h =
    let over = over_told p.job p.state.steps c h in
    record { holds = h; standing = rw over refl }

-- the steps of a reached state are within every budget
pub few_steps : (p : Progress) → IsReached p → p.state.steps ≤ 2 ^ 40
few_steps p h = omega (arith, h.bounded.steps, h.fits.budget_most)
