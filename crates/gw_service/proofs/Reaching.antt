-- Each row's steps are those of its job's lone run.
use Rattle.std.proofs.Common.{◌≡◌, ℕ, zero, suc, List, [], ◌∷◌, ◌++◌, Option, Some, None, Bool, true, false, refl, subst, arith}
use Rattle.std.specs.Prelude.{if◌then◌else◌}
use Rattle.std.specs.List.{slice_get}
use Rattle.gw_step.specs.Job.{Job}
use Rattle.gw_service.specs.Rows.{Standing, Ready, Out, Ended, Cancelled, CancelledOut, Row, change_row, new_row, taken_row, returned_row}
use Rattle.gw_service.specs.Rows.{cancelled_row, standing_back, standing_off, is_ready, is_over}
use Rattle.gw_service.specs.Journal.{Service, Event, Submit, Take, Return, Cancel, OfRow, HasState, MayReturn, MayCome, with_event, new_service}
use Rattle.gw_service.specs.Machine.{Call, event_of, after_event, next, all_next}
use Rattle.gw_service.specs.Keeping.{ListsReady, MayStand, IsReachedRow, AreReached, AllSound, NextIsReached, EveryServiceIsReached}
use Rattle.gw_service.proofs.Grounds.{Grounds, grounds}
use Rattle.gw_service.proofs.Listing.{taken_ready, next_lists_ready}
use Rattle.gw_service.proofs.History.{events_may_come}

-- ROWS

reached-changed : (k : ℕ) (f : Row → Row) (rows : List Row) → ((r : Row) → slice_get rows k ≡ Some r → IsReachedRow r → IsReachedRow (f r))
    → AreReached rows → AreReached (change_row k f rows)
reached-changed k f [] keeps h = h
reached-changed zero f (q ∷ rows) keeps h = (keeps q refl h.0, h.1)
reached-changed (suc k) f (q ∷ rows) keeps h = (h.0, reached-changed k f rows keeps h.1)

reached-added : (rows : List Row) (r : Row) → IsReachedRow r → AreReached rows → AreReached (rows ++ r ∷ [])
reached-added [] r h b = (h, b)
reached-added (q ∷ rows) r h b = (b.0, reached-added rows r h b.1)

-- STANDINGS

ready_stands : (over : Bool) (t : Standing) → is_ready t ≡ true → MayStand over t → over ≡ false
ready_stands over Ready h s = s
ready_stands over Out h s = absurd cc
ready_stands over Ended h s = absurd cc
ready_stands over Cancelled h s = absurd cc
ready_stands over CancelledOut h s = absurd cc

off_stands : (over : Bool) (t : Standing) → MayStand over t → MayStand over (standing_off t)
off_stands over Ready s = tt
off_stands over Out s = s
off_stands over Ended s = s
off_stands over Cancelled s = s
off_stands over CancelledOut s = s

rests_stands : (over : Bool) → MayStand over (if over then Ended else Ready)
rests_stands true = refl
rests_stands false = refl

back_stands : (j : Job) (n : ℕ) (t : Standing) → MayStand (is_over j n) (standing_back j n t)
back_stands j n Ready = rests_stands (is_over j n)
back_stands j n Out = rests_stands (is_over j n)
back_stands j n Ended = rests_stands (is_over j n)
back_stands j n Cancelled = tt
back_stands j n CancelledOut = tt

-- EVENTS

new_reached : (u : ℕ) (j : Job) → HasState j 0 → IsReachedRow (new_row u j)
new_reached u j h = record { reached = h; stands = rests_stands (is_over j 0); most = omega arith }

taken_reached : (r : Row) → is_ready r.standing ≡ true → IsReachedRow r → IsReachedRow (taken_row r)
taken_reached r free h = record { reached = h.reached; stands = ready_stands (is_over r.job r.steps) r.standing free h.stands; most = h.most }

cancelled_reached : (r : Row) → IsReachedRow r → IsReachedRow (cancelled_row r)
cancelled_reached r h = record { reached = h.reached; stands = off_stands (is_over r.job r.steps) r.standing h.stands; most = h.most }

returned_reached : (n : ℕ) (r : Row) → MayReturn n r → IsReachedRow (returned_row n r)
returned_reached n r m = record { reached = m.reached; stands = back_stands r.job n r.standing; most = m.most }

here_ready : (o : Option Row) (q r : Row) → o ≡ Some q → o ≡ Some r → is_ready q.standing ≡ true → is_ready r.standing ≡ true
here_ready o q r a b h =
    let same : q ≡ r = cc in
    subst (λ (x : Row). is_ready x.standing ≡ true) same h

here_returns : (o : Option Row) (r : Row) (n : ℕ) → o ≡ Some r → OfRow (MayReturn n) o → MayReturn n r
here_returns o r n is h = subst (λ (x : Option Row). OfRow (MayReturn n) x) is h

event_reached : (s : Service) → ListsReady s.now → AreReached s.now.rows → (e : Event) → Grounds e s → MayCome e s.now → AreReached (with_event e s).now.rows
event_reached s l h (Submit u j) g m = reached-added s.now.rows (new_row u j) (new_reached u j m) h
event_reached s l h (Take k) g m =
    let r = taken_ready k s l g in
    reached-changed k taken_row s.now.rows (λ q is reached. taken_reached q (here_ready (slice_get s.now.rows k) r.row q r.here is r.ready) reached) h
event_reached s l h (Return k n) g m =
    reached-changed k (returned_row n) s.now.rows (λ q is reached. returned_reached n q (here_returns (slice_get s.now.rows k) q n is m)) h
event_reached s l h (Cancel k) g m = reached-changed k cancelled_row s.now.rows (λ q is reached. cancelled_reached q reached) h

-- CALLS

call_reached : (o : Option Event) (s : Service) → AreReached s.now.rows → ((e : Event) → o ≡ Some e → AreReached (with_event e s).now.rows)
    → AreReached (after_event o s).now.rows
call_reached None s h f = h
call_reached (Some e) s h f = f e refl

pub next_reached : NextIsReached
next_reached c s sound l h = call_reached (event_of c s) s h (λ e is. event_reached s l h e (grounds c s e is) (events_may_come c s e sound is))

from_reached : (cs : List Call) (s : Service) → AllSound cs → ListsReady s.now → AreReached s.now.rows → AreReached (all_next cs s).now.rows
from_reached [] s sound l h = h
from_reached (c ∷ cs) s sound l h = from_reached cs (next c s) sound.1 (next_lists_ready c s l) (next_reached c s sound.0 l h)

pub all_reached : EveryServiceIsReached
all_reached cs sound = from_reached cs new_service sound (λ k. refl) tt
