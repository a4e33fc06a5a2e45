-- A reply to a pass has the report of the final state of its job.
use Rattle.std.proofs.Common.{Result, Ok, Err, IfOk, refl}
use Rattle.gw_step.specs.Job.{Job}
use Rattle.gw_service.specs.declared.faults.JobFault.{JobFault}
use Rattle.gw_service.specs.Rows.{Row}
use Rattle.gw_jobs.specs.declared.replies.Reply.{Reply}
use Rattle.gw_jobs.specs.Answers.{IsCollected}
use Rattle.gw_report.specs.Report.{Ends}

collected : (j : Job) (row : Result Row JobFault) (reply : Reply) → IsCollected j row reply → Ends j reply.report.items
collected j (Err fault) reply h = absurd h
collected j (Ok row) reply h = record { steps = row.steps; state = h.state; alone = h.alone; final = rw h.ended refl; report = h.report }

pub all_collected : (j : Job) (row : Result Row JobFault) (answer : Result Reply JobFault) → IfOk answer (IsCollected j row)
    → IfOk answer (λ reply. Ends j reply.report.items)
all_collected j row (Ok reply) h = collected j row reply h
all_collected j row (Err fault) h = tt
