-- What is told of a ticket is what is told of its entry.
use Rattle.std.proofs.Common.{◌≡◌, ◌⊎◌, ℕ, List, Bool, true, Result, Ok, Err, MatchResult, inl, inr, arith, refl, sym, ap, ◌∙◌}
use Rattle.std.proofs.lemmas.Fmt.{decimal_digit}
use Rattle.gw_object.specs.declared.fault.Fault.{Fault}
use Rattle.gw_object.specs.Codes.{memory}
use Rattle.gw_step.specs.Job.{Job}
use Rattle.gw_service.specs.declared.faults.JobFault.{JobFault}
use Rattle.gw_service.specs.declared.faults.JobFault.TheVariants.{Memory}
use Rattle.gw_answers.specs.Refusal.{refusal_line}
use Rattle.gw_answers.specs.Answer.{job_of}
use Rattle.gw_answers.specs.Service.{nowhere, job_refusal}
use Rattle.gw_console.specs.Output.{memory_line}
use Rattle.gw_batch.specs.declared.ticket.Ticket.{Ticket}
use Rattle.gw_batch.specs.declared.ticket.Ticket.TheVariants as tickets
use Rattle.gw_batch.specs.Batch.{Entry, Object, Broken}
use Rattle.gw_batch.specs.Parts.{IsJobTold, IsRefusalTold, IsTold}
use Rattle.gw_batch.specs.Tickets.{IsRefused, IsTicket, IsTicketFor, TellsTicket}

-- the line on want of memory is that of its refusal
pub line_of_memory : memory_line ≡ refusal_line (nowhere memory)
line_of_memory = rw (decimal_digit memory (omega arith)) refl

-- the line of a refusal that is another's, or want of memory
either_line : (refusal fault : Fault) (text : List ℕ) → text ≡ refusal_line refusal → (refusal ≡ fault) ⊎ (refusal ≡ nowhere memory)
    → (text ≡ refusal_line fault) ⊎ (text ≡ refusal_line (nowhere memory))
either_line refusal fault text line (inl same) = inl (line ∙ ap refusal_line same)
either_line refusal fault text line (inr same) = inr (line ∙ ap refusal_line same)

-- what is told of an object that was refused
refused_object : (r : Result Job Fault) (refusal : Fault) (text : List ℕ) (refused : Bool)
    → MatchResult r (λ j. (fault : JobFault) × (refusal ≡ job_refusal fault)) (λ fault. (refusal ≡ fault) ⊎ (refusal ≡ nowhere memory))
    → IsRefusalTold refusal text refused
    → MatchResult r (λ j. IsJobTold j text refused) (λ fault. IsRefusalTold fault text refused)
refused_object (Ok j) refusal text refused why (is, inl line) = inr (is, (why.0, line ∙ ap refusal_line why.1))
refused_object (Ok j) refusal text refused why (is, inr line) = inr (is, (Memory, line))
refused_object (Err fault) refusal text refused why (is, inl line) = (is, either_line refusal fault text line why)
refused_object (Err fault) refusal text refused why (is, inr line) = (is, inr line)

-- what is told of a job that the service refused
pub service_told : (j : Job) (fault : JobFault) (refusal : Fault) (text : List ℕ) (refused : Bool) → refusal ≡ job_refusal fault
    → IsRefusalTold refusal text refused → IsJobTold j text refused
service_told j fault refusal text refused same told = refused_object (Ok j) refusal text refused (fault, same) told

pub told_of : (i : ℕ) (e : Entry) (t : Ticket) (text : List ℕ) (refused : Bool) → IsTicket i e t → TellsTicket t text refused → IsTold e text refused
told_of i (Object bytes) (tickets.Submitted pass) text refused ticket told = rw ticket.1 told
told_of i (Object bytes) (tickets.Refused refusal) text refused ticket told = refused_object (job_of 0 0 bytes) refusal.0 text refused ticket told
told_of i (Object bytes) (tickets.Broken line) text refused ticket told = absurd ticket
told_of i (Broken fault) (tickets.Submitted pass) text refused ticket told = absurd ticket.1
told_of i (Broken fault) (tickets.Refused refusal) text refused ticket told = absurd ticket
told_of i (Broken fault) (tickets.Broken line) text refused ticket told = (told.0, told.1 ∙ ap refusal_line ticket)

-- the ticket of the job of an object
pub object_ticket : (i : ℕ) (bytes : List ℕ) (j : Job) (t : Ticket) → job_of 0 0 bytes ≡ Ok j → IsTicketFor i j t → IsTicket i (Object bytes) t
object_ticket i bytes j (tickets.Submitted pass) has ticket = (ticket.0, has ∙ ap (λ (k : Job). Ok k) (sym ticket.1))
object_ticket i bytes j (tickets.Refused refusal) has ticket = rw has ticket
object_ticket i bytes j (tickets.Broken line) has ticket = absurd ticket

-- the ticket of an object for which memory ran out
memory_refused : (r : Result Job Fault)
    → MatchResult r (λ j. (fault : JobFault) × (nowhere memory ≡ job_refusal fault)) (λ fault. (nowhere memory ≡ fault) ⊎ (nowhere memory ≡ nowhere memory))
memory_refused (Ok j) = (Memory, refl)
memory_refused (Err fault) = inr refl

pub memory_ticket : (i : ℕ) (bytes : List ℕ) (refusal : Fault) → refusal ≡ nowhere memory → IsRefused (Object bytes) refusal
memory_ticket i bytes refusal is = rw is (memory_refused (job_of 0 0 bytes))

-- of each object may be told that memory is wanted
memory_told : (r : Result Job Fault) → MatchResult r (λ j. IsJobTold j memory_line true) (λ fault. IsRefusalTold fault memory_line true)
memory_told (Ok j) = inr (refl, (Memory, line_of_memory))
memory_told (Err fault) = (refl, inr line_of_memory)

pub object_without : (bytes : List ℕ) → IsTold (Object bytes) memory_line true
object_without bytes = memory_told (job_of 0 0 bytes)

-- so something may be told of each entry
pub some_told : (e : Entry) → (text : List ℕ) × IsTold e text true
some_told (Object bytes) = (memory_line, object_without bytes)
some_told (Broken fault) = (refusal_line fault, (refl, refl))
