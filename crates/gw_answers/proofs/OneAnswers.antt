-- Bytes, a seed and a count have at most one answer.
use Rattle.std.proofs.Common.{◌≡◌, ℕ, List, Result, Ok, Err, MatchResult, sym, ap, ◌∙◌}
use Rattle.gw_object.specs.declared.fault.Fault.{Fault}
use Rattle.gw_step.specs.State.{State}
use Rattle.gw_step.specs.Job.{Job, Progress, start_of}
use Rattle.gw_report.specs.Report.{report_of}
use Rattle.gw_answers.specs.Status.{refusal_status}
use Rattle.gw_answers.specs.Refusal.{refusal_line}
use Rattle.gw_answers.specs.Answer.{Concludes, job_of}
use Rattle.gw_report.specs.Report.{Ends}
use Rattle.gw_answers.specs.Laws.{OneAnswer}
use Rattle.gw_answers.proofs.Endings.{one_ending, final_has_no_step}

abbrev reached : Job → State → Progress
reached j s = record { job = j; state = s }

one_end : (j : Job) (text other : List ℕ) → Ends j text → Ends j other → text ≡ other
one_end j text other e f =
    let same = one_ending j (start_of j) e.state f.state e.steps f.steps e.alone (final_has_no_step j e.state e.final) f.alone
    (final_has_no_step j f.state f.final) in
    e.report ∙ ap (λ s. report_of (reached j s)) same ∙ sym f.report

one_conclusion : (j : Job) (text other : List ℕ) (status otherwise : ℕ) → Concludes j text status → Concludes j other otherwise
    → (text ≡ other) × (status ≡ otherwise)
one_conclusion j text other status otherwise h k = (one_end j text other h.1 k.1, h.0 ∙ sym k.0)

by_job : (r : Result Job Fault) (text other : List ℕ) (status otherwise : ℕ)
    → MatchResult r (λ j. Concludes j text status) (λ fault. (status ≡ refusal_status) × (text ≡ refusal_line fault))
    → MatchResult r (λ j. Concludes j other otherwise) (λ fault. (otherwise ≡ refusal_status) × (other ≡ refusal_line fault))
    → (text ≡ other) × (status ≡ otherwise)
by_job (Ok j) text other status otherwise h k = one_conclusion j text other status otherwise h k
by_job (Err fault) text other status otherwise h k = (h.1 ∙ sym k.1, h.0 ∙ sym k.0)

pub one_answer : OneAnswer
one_answer seed count bytes text other status otherwise h k = by_job (job_of seed count bytes) text other status otherwise h k
