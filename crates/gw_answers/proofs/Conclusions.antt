-- Each job of a checked object comes to a named end, and so to a report.
use Rattle.std.proofs.Common.{◌<◌, ℕ, List, refl}
use Rattle.gw_rules.specs.Accepted.{Checked}
use Rattle.gw_step.specs.Job.{Job}
use Rattle.gw_step.proofs.Safe.{all_jobs_end}
use Rattle.gw_report.specs.Report.{report_of}
use Rattle.gw_answers.specs.Status.{end_status}
use Rattle.gw_answers.specs.Answer.{Concludes}

abbrev pub Conclusion : Job → Type 0
Conclusion j = (text : List ℕ) × (status : ℕ) × Concludes j text status

pub job_concludes : (j : Job) → Checked j.parts → 0 < j.budget → Conclusion j
job_concludes j checked some =
    let end = all_jobs_end j checked some in (
      report_of (record { job = j; state = end.state }),
      end_status,
      (refl, record { steps = end.steps; state = end.state; alone = end.alone; final = end.final; report = refl }),
    )
