-- Equal rows are told alike.
use Rattle.std.proofs.Common.{◌≡◌, ℕ, Some, sym, ap, ◌∙◌, subst}
use Rattle.std.specs.Prelude.{Result, Ok, Err}
use Rattle.gw_step.specs.declared.ends.End.{End}
use Rattle.gw_step.specs.State.{State}
use Rattle.gw_step.specs.Job.{Job}
use Rattle.gw_step.proofs.Slices.{one_state}
use Rattle.gw_report.specs.Report.{report_of}
use Rattle.gw_service.specs.declared.faults.JobFault.{JobFault}
use Rattle.gw_service.specs.Rows.{Standing, Ready, Out, Ended, Cancelled, CancelledOut, Row}
use Rattle.gw_service.specs.Journal.{Service}
use Rattle.gw_service.specs.Calls.{Pass, if_ended, ended_row, row_for, collect_reply}
use Rattle.gw_service.proofs.Passes.{passes_lead_to_own_rows}
use Rattle.gw_jobs.specs.declared.replies.Reply.{Reply}
use Rattle.gw_jobs.specs.Answers.{IsReplyOf, IsCollected, TellTheSame, EqualRowsAreToldAlike}
use Rattle.gw_jobs.proofs.Kept.{same_is}

-- the row that is collected is the one of the pass
same_row : (x r : Row) (t : Standing) → if_ended x t ≡ Ok r → x ≡ r
same_row x r Ready h = absurd cc
same_row x r Out h = absurd cc
same_row x r Ended h = cc
same_row x r Cancelled h = absurd cc
same_row x r CancelledOut h = absurd cc

found_row : (o : Result Row JobFault) (r : Row) → ended_row o ≡ Ok r → o ≡ Ok r
found_row (Err fault) r h = absurd cc
found_row (Ok x) r h = ap Ok (same_row x r x.standing h)

-- and has its job
job_is : (p : Pass) (s : Service) (r : Row) → collect_reply p s ≡ Ok r → p.job ≡ r.job
job_is p s r h = same_is r.job p.job (passes_lead_to_own_rows p s r (found_row (row_for p s) r h)).job

-- a reply of that row
reply_of_row : (p : Pass) (s : Service) (r : Row) (a : Reply) → collect_reply p s ≡ Ok r → IsCollected p.job (collect_reply p s) a → IsReplyOf r.job r.steps a
reply_of_row p s r a is h = subst (λ j. IsReplyOf j r.steps a) (job_is p s r is) (subst (λ o. IsCollected p.job o a) is h)

some_end : (a b : End) → Some a ≡ Some b → a ≡ b
some_end a b h = cc

told_alike : (j : Job) (n : ℕ) (a b : Reply) → IsReplyOf j n a → IsReplyOf j n b → TellTheSame a b
told_alike j n a b h k =
    let same : h.state ≡ k.state = one_state j n h.state k.state h.alone k.alone in
    record {
      spec = h.spec ∙ sym k.spec;
      steps = h.steps ∙ sym k.steps;
      end = some_end a.end b.end (sym h.ended ∙ ap (λ (s : State). s.ended) same ∙ k.ended);
      report = h.report ∙ ap (λ (s : State). report_of (record { job = j; state = s })) same ∙ sym k.report;
    }

pub equal_rows_are_told_alike : EqualRowsAreToldAlike
equal_rows_are_told_alike p q s t r a b is so h k = told_alike r.job r.steps a b (reply_of_row p s r a is h) (reply_of_row q t r b so k)
