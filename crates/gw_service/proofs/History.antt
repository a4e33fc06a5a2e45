-- The events of a journal may come.
use Rattle.std.proofs.Common.{◌≡◌, ℕ, List, [], ◌∷◌, ◌++◌, Option, Some, None, true, refl, sym, ap, subst}
use Rattle.std.specs.Prelude.{Result, Ok, Err}
use Rattle.std.specs.List.{slice_get}
use Rattle.gw_step.specs.Job.{Job}
use Rattle.gw_service.specs.declared.faults.JobFault.{JobFault}
use Rattle.gw_service.specs.Rows.{Row, Jobs, is_cancellable}
use Rattle.gw_service.specs.Journal.{Service, Event, Submit, Take, Cancel, OfRow, HasState, MayReturn, MayCome, EachMayCome, IsHistory, IsReplayed}
use Rattle.gw_service.specs.Journal.{SubmitsAccepted, AllSubmitAccepted, apply, no_jobs, replay_from, new_service}
use Rattle.gw_service.specs.Calls.{submit_fault, cancel_fault, take_reply}
use Rattle.gw_service.specs.Machine.{Call, Submits, Polls, Collects, Cancels, Takes, GivesBack, event_of, after_event, next, all_next, event_unless, take_event}
use Rattle.gw_service.specs.Keeping.{IsSound, AllSound, EventsMayCome, EveryJournalIsHistory}
use Rattle.gw_service.proofs.Replays.{next_replays}
use Rattle.gw_service.proofs.Grounds.{TakeGrounds, CancelGrounds, Grounds, Fits, fits, grounds}

-- ONE CALL

submit_comes : (fault : Option JobFault) (u : ℕ) (j : Job) (s : Service) (e : Event) → event_unless fault (Submit u j) ≡ Some e → HasState j 0 → MayCome e s.now
submit_comes None u j s e is h =
    let same : Submit u j ≡ e = cc in
    subst (λ (x : Event). MayCome x s.now) same h
submit_comes (Some fault) u j s e is h = absurd cc

cancel_comes : (fault : Option JobFault) (k : ℕ) (s : Service) (e : Event) → event_unless fault (Cancel k) ≡ Some e → Grounds e s → MayCome e s.now
cancel_comes None k s e is =
    let same : Cancel k ≡ e = cc in
    subst (λ (x : Event). Grounds x s → MayCome x s.now) same
    (λ (g : CancelGrounds k s). subst (λ (o : Option Row). OfRow (λ r. is_cancellable r.standing ≡ true) o) (sym g.here) g.live)
cancel_comes (Some fault) k s e is = absurd cc

take_comes : (t : Result (Option ℕ) JobFault) (s : Service) (e : Event) → take_event t ≡ Some e → Grounds e s → MayCome e s.now
take_comes (Err fault) s e is = absurd cc
take_comes (Ok None) s e is = absurd cc
take_comes (Ok (Some k)) s e is =
    let same : Take k ≡ e = cc in
    subst (λ (x : Event). Grounds x s → MayCome x s.now) same (λ (g : TakeGrounds k s). ap (λ (xs : List ℕ). slice_get xs 0) g.first)

return_comes : (k : ℕ) (j : Job) (n : ℕ) (s : Service) (e : Event) → IsSound (GivesBack k j n) → Fits k j n s e → MayCome e s.now
return_comes k j n s e sound f =
    let may : MayReturn n f.row = record { out = f.out; least = f.least; most = sound.0; reached = sound.1 f.row.job f.job } in
    subst (λ (x : Event). MayCome x s.now) f.event (subst (λ (o : Option Row). OfRow (MayReturn n) o) (sym f.here) may)

pub events_may_come : EventsMayCome
events_may_come (Submits u j) s e sound is = submit_comes (submit_fault u s) u j s e is sound
events_may_come (Polls p) s e sound is = absurd cc
events_may_come (Collects p) s e sound is = absurd cc
events_may_come (Cancels p) s e sound is = cancel_comes (cancel_fault p s) p.slot s e is (grounds (Cancels p) s e is)
events_may_come Takes s e sound is = take_comes (take_reply s) s e is (grounds Takes s e is)
events_may_come (GivesBack k j n) s e sound is = return_comes k j n s e sound (fits k j n s e is)

-- ALL CALLS

each-added : (es : List Event) (e : Event) (s : Jobs) → EachMayCome es s → MayCome e (replay_from s es) → EachMayCome (es ++ e ∷ []) s
each-added [] e s h m = (m, tt)
each-added (x ∷ es) e s h m = (h.0, each-added es e (apply x s) h.1 m)

after_history : (o : Option Event) (s : Service) → IsReplayed s → IsHistory s.journal → ((e : Event) → o ≡ Some e → MayCome e s.now)
    → IsHistory (after_event o s).journal
after_history None s r h m = h
after_history (Some e) s r h m = each-added s.journal e no_jobs h (subst (λ (l : Jobs). MayCome e l) (sym r) (m e refl))

-- a sound call keeps it
pub next_history : (c : Call) (s : Service) → IsSound c → IsReplayed s → IsHistory s.journal → IsHistory (next c s).journal
next_history c s sound r h = after_history (event_of c s) s r h (λ e is. events_may_come c s e sound is)

from_history : (cs : List Call) (s : Service) → AllSound cs → IsReplayed s → IsHistory s.journal → IsHistory (all_next cs s).journal
from_history [] s sound r h = h
from_history (c ∷ cs) s sound r h =
    from_history cs (next c s) sound.1 (next_replays c s r) (next_history c s sound.0 r h)

pub all_history : EveryJournalIsHistory
all_history cs sound = from_history cs new_service sound refl tt

-- ACCEPTED OBJECTS

-- one event more that submits no other job
pub accepted-added : (es : List Event) (e : Event) → AllSubmitAccepted es → SubmitsAccepted e → AllSubmitAccepted (es ++ e ∷ [])
accepted-added [] e h more = (more, tt)
accepted-added (x ∷ es) e h more = (h.0, accepted-added es e h.1 more)
