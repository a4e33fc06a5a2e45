-- What `pool` writes: a part for each entry of the batch, in order.
use Rattle.std.specs.Prelude.{◌≡◌, ◌⊎◌, ℕ, ◌+◌, List, [], ◌∷◌, ◌++◌, codes, Bool, true, false, ◌||◌, MatchResult, MatchOption, if◌then◌else◌}
use Rattle.std.specs.Fmt.{decimal}
use Rattle.gw_object.specs.declared.fault.Fault.{Fault}
use Rattle.gw_object.specs.Codes.{memory}
use Rattle.gw_step.specs.Job.{Job}
use Rattle.gw_service.specs.declared.faults.JobFault.{JobFault}
use Rattle.gw_answers.specs.Refusal.{refusal_line}
use Rattle.gw_answers.specs.Status.{end_status, refusal_status}
use Rattle.gw_answers.specs.Answer.{job_of}
use Rattle.gw_report.specs.Report.{Ends}
use Rattle.gw_batch.specs.Codes.{words_fault}
use Rattle.gw_answers.specs.Service.{nowhere, job_refusal}
use Rattle.gw_batch.specs.Batch.{Entry, Object, Broken, entries, most_objects}

-- THE PARTS

-- the line above what is told of the entry with this number, from 0
abbrev pub job_line : ℕ → List ℕ
job_line i = codes "JOB " ++ decimal i ++ codes "\n"

-- the line of a refusal by the service
abbrev pub IsServiceLine : List ℕ → Type 0
IsServiceLine text = (fault : JobFault) × (text ≡ refusal_line (job_refusal fault))

-- what is told of a job: the report of the final state of its lone run, or a refusal by the service
abbrev pub IsJobTold : Job → List ℕ → Bool → Type 0
IsJobTold j text refused = ((refused ≡ false) × Ends j text) ⊎ ((refused ≡ true) × IsServiceLine text)

-- what is told of an object that has no job: its refusal, or want of memory
abbrev pub IsRefusalTold : Fault → List ℕ → Bool → Type 0
IsRefusalTold fault text refused = (refused ≡ true) × ((text ≡ refusal_line fault) ⊎ (text ≡ refusal_line (nowhere memory)))

-- what is told of an entry: of an object, what is told of the job with its own seeds and its own count
abbrev pub IsTold : Entry → List ℕ → Bool → Type 0
IsTold (Object bytes) text refused = MatchResult (job_of 0 0 bytes) (λ j. IsJobTold j text refused) (λ fault. IsRefusalTold fault text refused)
IsTold (Broken fault) text refused = (refused ≡ true) × (text ≡ refusal_line fault)

-- the part of the entry with this number: its line, and what is told of it
abbrev pub IsPart : ℕ → Entry → List ℕ → Bool → Type 0
IsPart i e text refused = (told : List ℕ) × (text ≡ job_line i ++ told) × IsTold e told refused

-- the parts of entries, of which the first has this number; whether one of them is refused
abbrev pub AreParts : ℕ → List Entry → List ℕ → Bool → Type 0
AreParts i [] text refused = (text ≡ []) × (refused ≡ false)
AreParts i (e ∷ es) text refused =
    (part : List ℕ) × (rest : List ℕ) × (one : Bool) × (other : Bool)
    × IsPart i e part one × AreParts (i + 1) es rest other × (text ≡ part ++ rest) × (refused ≡ one || other)

-- THE WHOLE

-- the status, where something was refused or nothing was
abbrev pub status_if : Bool → ℕ
status_if refused = if refused then refusal_status else end_status

-- the text and the status of a batch
abbrev pub IsBatchTold : List Entry → List ℕ → ℕ → Type 0
IsBatchTold es text status = (refused : Bool) × AreParts 0 es text refused × (status ≡ status_if refused)

-- the text and the status for these bytes: of their entries; or, where the words are out of range, the refusal line and the status of a refusal
abbrev pub IsPool : ℕ → ℕ → List ℕ → List ℕ → ℕ → Type 0
IsPool workers slice bytes text status =
    MatchOption (words_fault workers slice) (IsBatchTold (entries most_objects bytes) text status)
    (λ fault. (status ≡ refusal_status) × (text ≡ refusal_line fault))
