-- The job of a model, a text or an object, and what answers the model where something of the job is shown.
use Rattle.std.specs.Prelude.{◌≡◌, ◌⊎◌, ℕ, List, Result, Ok, Err, MatchBool, false}
use Rattle.gw_object.specs.declared.fault.Fault.{Fault}
use Rattle.gw_object.specs.declared.parts.Parts.{Parts}
use Rattle.gw_text.specs.declared.model.Statement.{Statement}
use Rattle.gw_assemble.specs.Assembly.{Assembles, IsRefusal}
use Rattle.gw_assemble.specs.Completion.{IsAccepted}
use Rattle.gw_step.specs.Job.{Job}
use Rattle.gw_answers.specs.Answer.{job_made, job_of}
use Rattle.gw_answers.specs.Inputs.{is_object}
use Rattle.gw_answers.specs.Refusal.{refusal_line}
use Rattle.gw_answers.specs.Status.{end_status, refusal_status}
use Rattle.gw_answers.specs.Assembly.{HasStatements, IsAssembly, IsPrinted, IsRefusedText}
use Rattle.gw_answers.specs.declared.answer.NoJob.{NoJob}
use Rattle.gw_answers.specs.declared.answer.NoJob.TheVariants.{Refused, OutOfMemory}

-- WHAT IS FOUND OF A JOB

-- what is said of why there is no job, by what is said of a refusal; where memory ran out, nothing
abbrev pub OnRefusal : NoJob → (Fault → Type 0) → Type 0
OnRefusal (Refused refusal) Said = Said refusal.0
OnRefusal OutOfMemory Said = Unit {0}

-- what is said of a job that was found, or of why there is none
abbrev pub Finds : Result Job NoJob → (Job → Type 0) → (Fault → Type 0) → Type 0
Finds (Ok j) Found Said = Found j
Finds (Err none) Found Said = OnRefusal none Said

-- THE JOB OF STATEMENTS

-- making a job of the accepted object that statements become, with this seed and this count, comes to this
pub record Makes (seed count : ℕ) (statements : List Statement) (made : Result Job Fault) : Type 0 where
  pub object : Parts
  pub assembled : Assembles statements object
  pub accepted : IsAccepted object
  pub is : job_made seed count object ≡ made

-- a refusal of statements that is printed: they become no object, or the seed or the count is refused
abbrev pub IsRefusalIn : ℕ → ℕ → List Statement → Fault → Type 0
IsRefusalIn seed count statements fault = Makes seed count statements (Err fault) ⊎ (IsRefusal statements fault × IsPrinted fault)

-- what was found of the job of statements: the job, or why there is none
abbrev pub FindsJobIn : ℕ → ℕ → List Statement → Result Job NoJob → Type 0
FindsJobIn seed count statements found =
    Finds found (λ j. Makes seed count statements (Ok j)) (IsRefusalIn seed count statements)

-- THE JOB OF A MODEL

-- the object of a model: the model itself, or that which its text becomes
abbrev pub IsObjectOf : List ℕ → List ℕ → Type 0
IsObjectOf bytes object = MatchBool (is_object bytes) (object ≡ bytes) (IsAssembly bytes object end_status)

-- the job of a model's object with this seed and this count, of which 0 means its own; or the refusal of one of the three
abbrev pub Comes : ℕ → ℕ → List ℕ → Result Job Fault → Type 0
Comes seed count bytes made = (object : List ℕ) × IsObjectOf bytes object × (job_of seed count object ≡ made)

-- the job of a model with this seed and this count
abbrev pub IsJobWith : ℕ → ℕ → List ℕ → Job → Type 0
IsJobWith seed count bytes j = Comes seed count bytes (Ok j)

-- a refusal of a model: of a text, which is no object, or of what its object comes to
abbrev pub IsRefusalWith : ℕ → ℕ → List ℕ → Fault → Type 0
IsRefusalWith seed count bytes fault =
    Comes seed count bytes (Err fault) ⊎ ((is_object bytes ≡ false) × IsAssembly bytes (refusal_line fault) refusal_status)

-- the job of a model with its own seeds and count, and a refusal of that
abbrev pub IsJobOf : List ℕ → Job → Type 0
IsJobOf bytes j = IsJobWith 0 0 bytes j

abbrev pub IsRefusalOf : List ℕ → Fault → Type 0
IsRefusalOf bytes fault = IsRefusalWith 0 0 bytes fault

-- what was found of the job of a model: the job, or why there is none
abbrev pub FindsJobOf : ℕ → ℕ → List ℕ → Result Job NoJob → Type 0
FindsJobOf seed count bytes found = Finds found (IsJobWith seed count bytes) (IsRefusalWith seed count bytes)

-- WHAT ANSWERS A MODEL

-- the text and the status for a model with a seed and a count: what is shown of its job, or the line of its refusal
abbrev pub AnswersWith : ℕ → ℕ → (Job → List ℕ → Type 0) → List ℕ → List ℕ → ℕ → Type 0
AnswersWith seed count Shows bytes text status =
    ((status ≡ end_status) × ((j : Job) × IsJobWith seed count bytes j × Shows j text))
    ⊎ ((status ≡ refusal_status) × ((fault : Fault) × IsRefusalWith seed count bytes fault × (text ≡ refusal_line fault)))

-- the same with the model's own seeds and count
abbrev pub AnswersModel : (Job → List ℕ → Type 0) → List ℕ → List ℕ → ℕ → Type 0
AnswersModel Shows bytes text status = AnswersWith 0 0 Shows bytes text status
