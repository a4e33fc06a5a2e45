-- What becomes of the entries of a batch before their jobs run: each has a pass for its job, or was refused.
use Rattle.std.specs.Prelude.{◌≡◌, ◌⊎◌, ℕ, ◌+◌, ◌/◌, List, [], ◌∷◌, Bool, true, Ok, MatchResult}
use Rattle.gw_object.specs.declared.fault.Fault.{Fault}
use Rattle.gw_object.specs.Codes.{memory}
use Rattle.gw_step.specs.Job.{Job}
use Rattle.gw_service.specs.declared.faults.JobFault.{JobFault}
use Rattle.gw_service.specs.Calls.{most_running}
use Rattle.gw_answers.specs.Refusal.{refusal_line}
use Rattle.gw_answers.specs.Answer.{job_of}
use Rattle.gw_batch.specs.declared.ticket.Ticket.{Ticket}
use Rattle.gw_batch.specs.declared.ticket.Ticket.TheVariants as tickets
use Rattle.gw_answers.specs.Service.{nowhere, job_refusal}
use Rattle.gw_batch.specs.Batch.{Entry, Object, Broken}
use Rattle.gw_batch.specs.Parts.{IsJobTold, IsRefusalTold}

-- TICKETS

-- an entry has this job
abbrev pub HasJob : Entry → Job → Type 0
HasJob (Object bytes) j = job_of 0 0 bytes ≡ Ok j
HasJob (Broken fault) j = ⊥

-- an object that has a job is refused by the service, another as it has none, or for want of memory
abbrev pub IsRefused : Entry → Fault → Type 0
IsRefused (Object bytes) refusal =
    MatchResult (job_of 0 0 bytes) (λ j. (fault : JobFault) × (refusal ≡ job_refusal fault)) (λ fault. (refusal ≡ fault) ⊎ (refusal ≡ nowhere memory))
IsRefused (Broken fault) refusal = ⊥

-- an entry ended the reading, by this refusal
abbrev pub IsEnding : Entry → Fault → Type 0
IsEnding (Object bytes) refusal = ⊥
IsEnding (Broken fault) refusal = refusal ≡ fault

-- the user of the entry with this number: as many of a user's jobs may run at once as a user has entries
abbrev pub user_of : ℕ → ℕ
user_of i = i / most_running

-- the ticket of the entry with this number
abbrev pub IsTicket : ℕ → Entry → Ticket → Type 0
IsTicket i e (tickets.Submitted pass) = (pass.user ≡ user_of i) × HasJob e pass.job
IsTicket i e (tickets.Refused refusal) = IsRefused e refusal.0
IsTicket i e (tickets.Broken line) = IsEnding e line

-- the ticket of a job, which the entry with this number has
abbrev pub IsTicketFor : ℕ → Job → Ticket → Type 0
IsTicketFor i j (tickets.Submitted pass) = (pass.user ≡ user_of i) × (pass.job ≡ j)
IsTicketFor i j (tickets.Refused refusal) = (fault : JobFault) × (refusal.0 ≡ job_refusal fault)
IsTicketFor i j (tickets.Broken line) = ⊥

-- entries, of which the first has this number, are those of these tickets, and then the rest
abbrev pub StartWith : ℕ → List Entry → List Ticket → List Entry → Type 0
StartWith i es [] rest = es ≡ rest
StartWith i [] (t ∷ ts) rest = ⊥
StartWith i (e ∷ es) (t ∷ ts) rest = IsTicket i e t × StartWith (i + 1) es ts rest

-- WHAT IS TOLD BY TICKETS

-- what is told of a ticket, and whether it is a refusal
abbrev pub TellsTicket : Ticket → List ℕ → Bool → Type 0
TellsTicket (tickets.Submitted pass) text refused = IsJobTold pass.job text refused
TellsTicket (tickets.Refused refusal) text refused = IsRefusalTold refusal.0 text refused
TellsTicket (tickets.Broken line) text refused = (refused ≡ true) × (text ≡ refusal_line line)
