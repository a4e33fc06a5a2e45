-- What a call comes to, by what it answers.
use Rattle.std.proofs.Common.{◌≡◌, ℕ, Option, Some, None, sym, ap, ◌∙◌}
use Rattle.std.specs.Prelude.{Result, Ok}
use Rattle.gw_step.specs.Job.{Job}
use Rattle.gw_service.specs.declared.faults.JobFault.{JobFault}
use Rattle.gw_service.specs.Journal.{Service, Event, Submit, Take, Return, Cancel, with_event}
use Rattle.gw_service.specs.Calls.{Pass, Receipt, submit_fault, cancel_fault, take_reply, give_back_reply}
use Rattle.gw_service.specs.Machine.{Submits, Cancels, Takes, GivesBack, event_unless, take_event, return_event, after_event, next}
use Rattle.gw_service.proofs.Grounds.{fits}

pub next_submit : (u : ℕ) (j : Job) (s : Service) → submit_fault u s ≡ None → next (Submits u j) s ≡ with_event (Submit u j) s
next_submit u j s h = ap (λ (fault : Option JobFault). after_event (event_unless fault (Submit u j)) s) h

pub next_cancel : (p : Pass) (s : Service) → cancel_fault p s ≡ None → next (Cancels p) s ≡ with_event (Cancel p.slot) s
next_cancel p s h = ap (λ (fault : Option JobFault). after_event (event_unless fault (Cancel p.slot)) s) h

pub next_take : (k : ℕ) (s : Service) → take_reply s ≡ Ok (Some k) → next Takes s ≡ with_event (Take k) s
next_take k s h = ap (λ (r : Result (Option ℕ) JobFault). after_event (take_event r) s) h

pub next_give_back : (k : ℕ) (j : Job) (n : ℕ) (s : Service) (x : Receipt) → give_back_reply k j n s ≡ Some x → next (GivesBack k j n) s
    ≡ with_event (Return k n) s
next_give_back k j n s x h =
    ap (λ (o : Option Receipt). after_event (return_event o) s) h
    ∙ ap (λ (e : Event). with_event e s) (sym (fits k j n s (Return x.slot x.steps) (ap return_event h)).event)
