-- What is found of the job of a model.
use Rattle.std.proofs.Common.{◌≡◌, ◌∙◌, ℕ, List, Result, Ok, Err, None, Bool, true, false, refl, sym, subst, inl, inr}
use Rattle.std.specs.Prelude.{MatchBool}
use Rattle.gw_object.specs.declared.fault.Fault.{Fault}
use Rattle.gw_object.specs.declared.parts.Parts.{Parts}
use Rattle.gw_object.specs.Grammar.{spelling}
use Rattle.gw_object.specs.Reading.{first_fault}
use Rattle.gw_object_bytes.proofs.ObjectLaws.{only}
use Rattle.gw_rules.specs.Accepted.{fault_of}
use Rattle.gw_text.specs.declared.model.Statement.{Statement}
use Rattle.gw_assemble.specs.Assembly.{Assembles, IsRefusal}
use Rattle.gw_assemble.specs.Completion.{IsAccepted}
use Rattle.gw_step.specs.Job.{Job}
use Rattle.gw_answers.specs.Answer.{job_made, job_of}
use Rattle.gw_answers.specs.Assembly.{HasStatements, IsAssembly, IsPrinted, IsRefusedText, IsSpelling}
use Rattle.gw_answers.specs.Inputs.{is_object}
use Rattle.gw_answers.specs.Finding.{FindsJob}
use Rattle.gw_answers.specs.Status.{end_status}
use Rattle.gw_answers.specs.declared.answer.NoJob.{NoJob}
use Rattle.gw_answers.specs.declared.answer.NoJob.TheVariants.{Refused, OutOfMemory}
use Rattle.gw_answers.specs.ModelJobs.{OnRefusal, Finds, Makes, Comes, IsObjectOf, IsRefusalIn, IsRefusalWith, FindsJobIn, FindsJobOf}

-- what is said of a fault that is printed is said of its refusal
pub refusal_told : (none : NoJob) (fault : Fault) (Said : Fault → Type 0) → OnRefusal none (λ said. (said ≡ fault) × IsPrinted said)
    → (IsPrinted fault → Said fault) → OnRefusal none Said
refusal_told (Refused refusal) fault Said is h = subst Said (sym is.0) (h (subst IsPrinted is.0 is.1))
refusal_told OutOfMemory fault Said is h = tt

-- what making the job of an accepted object comes to is found of the statements that become it
pub found_of_making : (statements : List Statement) (object : Parts) (seed count : ℕ) (found : Result Job NoJob) → Assembles statements object
    → IsAccepted object → FindsJob found (job_made seed count object) → FindsJobIn seed count statements found
found_of_making statements object seed count (Ok j) assembled accepted h =
    record { object = object; assembled = assembled; accepted = accepted; is = h }
found_of_making statements object seed count (Err (Refused refusal)) assembled accepted h =
    inl (record { object = object; assembled = assembled; accepted = accepted; is = h })
found_of_making statements object seed count (Err OutOfMemory) assembled accepted h = tt

-- a refusal of statements is one where their job is asked for
pub refusal_in : (statements : List Statement) (seed count : ℕ) (none : NoJob) (fault : Fault)
    → OnRefusal none (λ said. (said ≡ fault) × IsPrinted said) → IsRefusal statements fault
    → OnRefusal none (IsRefusalIn seed count statements)
refusal_in statements seed count none fault is h =
    refusal_told none fault (IsRefusalIn seed count statements) is (λ printed. inr (h, printed))

-- an accepted object is read from its spelling
spelled_job : (seed count : ℕ) (p : Parts) → IsAccepted p → job_of seed count (spelling p) ≡ job_made seed count p
unfolding job_of
spelled_job seed count p h =
    let read : first_fault (spelling p) ≡ Ok p = only (spelling p) p (record { fits = h.spelled; is = refl }) in
    let passes : fault_of p ≡ None = h.accepted in
    rw (read, passes, job_of) refl

-- the object that a text's statements become is the text's
object_of_text : (bytes : List ℕ) (statements : List Statement) (seed count : ℕ) (made : Result Job Fault) → is_object bytes ≡ false
    → HasStatements bytes statements → (h : Makes seed count statements made) → IsObjectOf bytes (spelling h.object)
object_of_text bytes statements seed count made isnt read h =
    let spelled : IsSpelling statements (spelling h.object) = record { object = h.object; assembled = h.assembled; accepted = h.accepted; spelled = refl } in
    let assembly : IsAssembly bytes (spelling h.object) end_status = inl (statements, read, inl (refl, spelled)) in
    subst (λ b. MatchBool b (spelling h.object ≡ bytes) (IsAssembly bytes (spelling h.object) end_status)) (sym isnt) assembly

come_of_text : (bytes : List ℕ) (statements : List Statement) (seed count : ℕ) (made : Result Job Fault) → is_object bytes ≡ false
    → HasStatements bytes statements → Makes seed count statements made → Comes seed count bytes made
come_of_text bytes statements seed count made isnt read h =
    (spelling h.object, object_of_text bytes statements seed count made isnt read h, spelled_job seed count h.object h.accepted ∙ h.is)

refusal_of_text : (bytes : List ℕ) (statements : List Statement) (seed count : ℕ) (fault : Fault) → is_object bytes ≡ false
    → HasStatements bytes statements → IsRefusalIn seed count statements fault → IsRefusalWith seed count bytes fault
refusal_of_text bytes statements seed count fault isnt read (inl h) = inl (come_of_text bytes statements seed count (Err fault) isnt read h)
refusal_of_text bytes statements seed count fault isnt read (inr h) = inr (isnt, inl (statements, read, inr (refl, (fault, h.0, h.1, refl))))

none_of_text : (bytes : List ℕ) (statements : List Statement) (seed count : ℕ) (none : NoJob) → is_object bytes ≡ false
    → HasStatements bytes statements → OnRefusal none (IsRefusalIn seed count statements) → OnRefusal none (IsRefusalWith seed count bytes)
none_of_text bytes statements seed count (Refused refusal) isnt read h = refusal_of_text bytes statements seed count refusal.0 isnt read h
none_of_text bytes statements seed count OutOfMemory isnt read h = tt

-- what is found of what a text was read as is found of the text
pub found_by_reading : (bytes : List ℕ) (statements : List Statement) (seed count : ℕ) (found : Result Job NoJob) → is_object bytes ≡ false
    → HasStatements bytes statements → FindsJobIn seed count statements found → FindsJobOf seed count bytes found
found_by_reading bytes statements seed count (Ok j) isnt read h = come_of_text bytes statements seed count (Ok j) isnt read h
found_by_reading bytes statements seed count (Err none) isnt read h = none_of_text bytes statements seed count none isnt read h

-- a refusal of the text is one
pub refused_text : (bytes : List ℕ) (seed count : ℕ) (none : NoJob) (fault : Fault) → is_object bytes ≡ false
    → OnRefusal none (λ said. (said ≡ fault) × IsPrinted said) → IsRefusedText bytes fault → OnRefusal none (IsRefusalWith seed count bytes)
refused_text bytes seed count none fault isnt is h =
    refusal_told none fault (IsRefusalWith seed count bytes) is (λ printed. inr (isnt, inr (refl, (fault, h, printed, refl))))

-- what comes of an object comes of the model
pub come_of_object : (bytes : List ℕ) (seed count : ℕ) (made : Result Job Fault) → is_object bytes ≡ true → job_of seed count bytes ≡ made
    → Comes seed count bytes made
come_of_object bytes seed count made is h =
    (bytes, subst (λ b. MatchBool b (bytes ≡ bytes) (IsAssembly bytes bytes end_status)) (sym is) refl, h)

pub found_of_object : (bytes : List ℕ) (seed count : ℕ) (found : Result Job NoJob) → is_object bytes ≡ true → FindsJob found (job_of seed count bytes)
    → FindsJobOf seed count bytes found
found_of_object bytes seed count (Ok j) is h = come_of_object bytes seed count (Ok j) is h
found_of_object bytes seed count (Err (Refused refusal)) is h = inl (come_of_object bytes seed count (Err refusal.0) is h)
found_of_object bytes seed count (Err OutOfMemory) is h = tt
