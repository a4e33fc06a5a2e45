-- The job of a text with a count.
use Rattle.std.proofs.Common.{◌≡◌, ℕ, List, Result, Ok, Err, inl, inr}
use Rattle.gw_step.specs.Job.{Job}
use Rattle.gw_answers.specs.declared.answer.NoJob.{NoJob}
use Rattle.gw_answers.specs.declared.answer.NoJob.TheVariants.{Refused, OutOfMemory}
use Rattle.gw_answers.specs.ModelJobs.{Finds, OnRefusal, IsJobOf, IsRefusalOf}
use Rattle.gw_study.specs.Study.{with_count, IsCountedJob, IsCountRefusal, IsStudyRefusal}

-- what is found of the count is found of the text
pub counted_found : (bytes : List ℕ) (count : ℕ) (j : Job) (found : Result Job NoJob) → IsJobOf bytes j
    → Finds found (λ i. i ≡ with_count j count) (IsCountRefusal count) → Finds found (IsCountedJob bytes count) (IsStudyRefusal bytes count)
counted_found bytes count j (Ok i) job is = (j, job, is)
counted_found bytes count j (Err (Refused refusal)) job h = inr h
counted_found bytes count j (Err OutOfMemory) job h = tt

-- a refusal of the text is one
pub refused_text : (bytes : List ℕ) (count : ℕ) (none : NoJob) → OnRefusal none (IsRefusalOf bytes) → OnRefusal none (IsStudyRefusal bytes count)
refused_text bytes count (Refused refusal) h = inl h
refused_text bytes count OutOfMemory h = tt
