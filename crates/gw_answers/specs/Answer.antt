-- What checking and running an object come to: a text and a status.
use Rattle.std.specs.Prelude.{◌≡◌, ℕ, List, [], ◌∷◌, ◌++◌, length, codes, Option, Some, None, Result, Ok, Err, MatchResult, ◌==◌, if◌then◌else◌}
use Rattle.std.specs.Option.{option_map}
use Rattle.gw_object.specs.declared.fault.Fault.{Fault}
use Rattle.gw_object.specs.declared.parts.Parts.{Parts}
use Rattle.gw_object.specs.Reading.{first_fault}
use Rattle.gw_rules.specs.Accepted.{fault_of, heaviest}
use Rattle.gw_step.specs.Job.{Job}
use Rattle.gw_scan.specs.Making.{spec_fault, job_from}
use Rattle.gw_report.specs.Report.{Ends}
use Rattle.gw_answers.specs.Status.{end_status, refusal_status, run_budget}
use Rattle.gw_answers.specs.Acceptance.{accepted_text}
use Rattle.gw_answers.specs.Refusal.{refusal_line, start_refusal}

-- the seed list that a seed stands for: 0 means the object's own
abbrev pub seeds_given : ℕ → List ℕ
seeds_given seed = if seed == 0 then [] else seed ∷ []

-- goes on, or keeps the refusal
infixl 10 ◌>>=◌
abbrev pub ◌>>=◌ : {A B : Type 0} → Result A Fault → (A → Result B Fault) → Result B Fault
(Ok x) >>= f = f x
(Err fault) >>= f = Err fault

-- this, unless there is a fault
abbrev pub unless : {A : Type 0} → Option Fault → A → Result A Fault
unless None x = Ok x
unless (Some fault) x = Err fault

abbrev pub verdict_of : Parts → Result Parts Fault
verdict_of parts = unless (fault_of parts) parts

-- the job that is made of an object with this seed and this count, or the refusal of the two
abbrev pub job_made : ℕ → ℕ → Parts → Result Job Fault
job_made seed count parts =
    unless (option_map start_refusal (spec_fault (seeds_given seed) count run_budget)) (job_from parts (seeds_given seed) count run_budget)

-- the job of the object that these bytes spell; or the refusal of the first that refuses: reading, verifying, making a job
unfoldable pub job_of : ℕ → ℕ → List ℕ → Result Job Fault
job_of seed count bytes = first_fault bytes >>= verdict_of >>= job_made seed count

-- the text and the status of a job
abbrev pub Concludes : Job → List ℕ → ℕ → Type 0
Concludes j text status = (status ≡ end_status) × Ends j text

-- the text and the status for these bytes, this seed and this count: of the job's end, or the refusal line and the status of a refusal
abbrev pub IsAnswer : ℕ → ℕ → List ℕ → List ℕ → ℕ → Type 0
IsAnswer seed count bytes text status =
    MatchResult (job_of seed count bytes) (λ j. Concludes j text status) (λ fault. (status ≡ refusal_status) × (text ≡ refusal_line fault))

-- the line of an accepted object
abbrev pub accepted_line : Parts → List ℕ
accepted_line p = accepted_text (length p.blocks) (length p.procedures) (heaviest p.weights) ++ codes "\n"

-- the accepted object that these bytes spell; or the refusal of the first that refuses: reading or verifying
unfoldable pub object_of : List ℕ → Result Parts Fault
object_of bytes = first_fault bytes >>= verdict_of

-- the text and the status for these bytes where they are checked: the line of the accepted object, or the refusal line and the status of a refusal
abbrev pub IsCheck : List ℕ → List ℕ → ℕ → Type 0
IsCheck bytes text status =
    MatchResult (object_of bytes) (λ p. (status ≡ end_status) × (text ≡ accepted_line p)) (λ fault. (status ≡ refusal_status) × (text ≡ refusal_line fault))
