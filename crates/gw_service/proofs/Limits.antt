-- The limits of a service.
use Rattle.std.proofs.Common.{◌≡◌, ℕ, zero, suc, ◌+◌, ◌≤◌, List, [], ◌∷◌, ◌++◌, length, Some, None, Bool, true, false, refl, ap, subst, arith}
use Rattle.std.specs.Prelude.{◌==◌, nat_le, nat_lt, if◌then◌else◌}
use Rattle.std.specs.List.{filter, slice_get}
use Rattle.std.proofs.lemmas.List.{length_push}
use Rattle.std.proofs.lemmas.Bool.Decides.{nat_tests}
use Rattle.gw_step.specs.Job.{Job}
use Rattle.gw_service.specs.declared.faults.JobFault.TheVariants as faults
use Rattle.gw_service.specs.Rows.{Standing, Ready, Out, Ended, Cancelled, CancelledOut, Row, change_row, new_row, taken_row, returned_row}
use Rattle.gw_service.specs.Rows.{cancelled_row, standing_back, standing_off, is_out, is_running, rows_of, running_in}
use Rattle.gw_service.specs.Journal.{Service, Event, Submit, Take, Return, Cancel, with_event, new_service}
use Rattle.gw_service.specs.Calls.{places_of, most_events, most_jobs, most_running, is_journal_full, is_user_full, submit_fault}
use Rattle.gw_service.specs.Keeping.{ListsReady, IsWithinLimits, NextIsWithinLimits, EveryServiceIsWithinLimits}
use Rattle.gw_service.proofs.Standings.{ready_runs, out_runs}
use Rattle.gw_service.proofs.Rows.{are_equal, rows-added, rows-others}
use Rattle.gw_service.proofs.Changing.{one_if, length-changed}
use Rattle.gw_service.proofs.Grounds.{TakeGrounds, ReturnGrounds, CancelGrounds, Grounds, all_keep, call_keeps}
use Rattle.gw_service.proofs.Listing.{one_at_most, ReadyRow, taken_ready, next_lists_ready}
use Rattle.gw_service.proofs.Totals.{submit_out, take_out, return_out, cancel_out}

-- WHO RUNS

abbrev running_rows : List Row → List Row
running_rows rows = filter (λ r. is_running r.standing) rows

filter-length : (b : Bool) (q : Row) (xs : List Row) → length (if b then q ∷ xs else xs) ≡ one_if b + length xs
filter-length true q xs = omega arith
filter-length false q xs = omega arith

running-cons : (b : Bool) (q : Row) (xs : List Row) → running_in (if b then q ∷ xs else xs) ≡ (if b then one_if (is_running q.standing) else 0) + running_in xs
running-cons true q xs = filter-length (is_running q.standing) q (running_rows xs)
running-cons false q xs = omega arith

running-added : (rows : List Row) (r : Row) → running_in (rows ++ r ∷ []) ≤ running_in rows + 1
running-added [] r = omega (arith, running-cons true r [], one_at_most (is_running r.standing))
running-added (q ∷ rows) r = omega (arith, running-added rows r, running-cons true q (rows ++ r ∷ []), running-cons true q rows)

head_le : (b c : Bool) (x y : ℕ) → b ≡ c → x ≤ y → (if b then x else 0) ≤ (if c then y else 0)
head_le true true x y e h = h
head_le true false x y e h = absurd cc
head_le false true x y e h = absurd cc
head_le false false x y e h = omega arith

-- a change that lets nobody run who didn't lets no more run
running-changed : (u k : ℕ) (f : Row → Row) (rows : List Row) (r : Row) → slice_get rows k ≡ Some r → (f r).user ≡ r.user
    → one_if (is_running (f r).standing) ≤ one_if (is_running r.standing)
    → running_in (rows_of u (change_row k f rows)) ≤ running_in (rows_of u rows)
running-changed u k f [] r h user less = absurd cc
running-changed u zero f (q ∷ rows) r h user less =
    let same : r ≡ q = cc in
    subst (λ (x : Row). running_in (rows_of u (f x ∷ rows)) ≤ running_in (rows_of u (x ∷ rows))) same
    (omega (
      arith,
      running-cons ((f r).user == u) (f r) (rows_of u rows),
      running-cons (r.user == u) r (rows_of u rows),
      head_le ((f r).user == u) (r.user == u) (one_if (is_running (f r).standing)) (one_if (is_running r.standing)) (ap (λ (v : ℕ). v == u) user) less,
    ))
running-changed u (suc k) f (q ∷ rows) r h user less =
    omega (
      arith,
      running-changed u k f rows r h user less,
      running-cons (q.user == u) q (rows_of u (change_row k f rows)),
      running-cons (q.user == u) q (rows_of u rows),
    )

off_runs : (t : Standing) → one_if (is_running (standing_off t)) ≤ one_if (is_running t)
off_runs Ready = omega arith
off_runs Out = omega arith
off_runs Ended = omega arith
off_runs Cancelled = omega arith
off_runs CancelledOut = omega arith

back_runs : (j : Job) (n : ℕ) (t : Standing) → is_out t ≡ true → one_if (is_running (standing_back j n t)) ≤ one_if (is_running t)
back_runs j n t h = omega (arith, one_at_most (is_running (standing_back j n t)), ap one_if (out_runs t h))

-- SUBMIT

-- no limit stands against a submit
record HasRoom (u : ℕ) (s : Service) : Type 0 where
  pub user : running_in (rows_of u s.now.rows) + 1 ≤ most_running
  pub jobs : length s.now.rows + 1 ≤ most_jobs
  pub places : places_of s + 1 ≤ most_events

no_fault : (a b c : Bool)
    → (if a then Some faults.UserFull else if b then Some faults.ServiceFull else if c then Some faults.JournalFull else None) ≡ None
    → (a ≡ false) × (b ≡ false) × (c ≡ false)
no_fault true b c h = absurd cc
no_fault false true c h = absurd cc
no_fault false false true h = absurd cc
no_fault false false false h = (refl, refl, refl)

below : (m n : ℕ) → nat_le m n ≡ false → n + 1 ≤ m
below m n h = grind (arith, nat_tests)

at_most : (m n : ℕ) → nat_lt m n ≡ false → n ≤ m
at_most m n h = grind (arith, nat_tests)

has_room : (u : ℕ) (s : Service) → submit_fault u s ≡ None → HasRoom u s
has_room u s h =
    let free = no_fault (is_user_full (rows_of u s.now.rows)) (nat_le most_jobs (length s.now.rows)) (is_journal_full 1 s) h in
    record {
      user = below most_running (running_in (rows_of u s.now.rows)) free.0;
      jobs = below most_jobs (length s.now.rows) free.1;
      places = at_most most_events (places_of s + 1) free.2;
    }

submit_users : (u v : ℕ) (j : Job) (s : Service) (b : Bool) → (v == u) ≡ b → running_in (rows_of v s.now.rows) + 1 ≤ most_running
    → running_in (rows_of u s.now.rows) ≤ most_running
    → running_in (rows_of u (s.now.rows ++ new_row v j ∷ [])) ≤ most_running
submit_users u v j s true e room h =
    let same : v ≡ u = are_equal v u e in
    let mine : running_in (rows_of u s.now.rows) + 1 ≤ most_running = subst (λ (w : ℕ). running_in (rows_of w s.now.rows) + 1 ≤ most_running) same room in
    omega (arith, mine, ap running_in (rows-added u s.now.rows (new_row v j) e), running-added (rows_of u s.now.rows) (new_row v j))
submit_users u v j s false e room h = omega (arith, h, ap running_in (rows-others u s.now.rows (new_row v j) e))

submit_within : (u : ℕ) (j : Job) (s : Service) → HasRoom u s → IsWithinLimits s → IsWithinLimits (with_event (Submit u j) s)
submit_within u j s room h = record {
  jobs = omega (arith, room.jobs, length_push s.now.rows (new_row u j));
  users = λ v. submit_users v u j s (u == v) refl room.user (h.users v);
  places = omega (arith, room.places, length_push s.journal (Submit u j), submit_out u j s.now.rows);
}

-- OTHER EVENTS

take_within : (k : ℕ) (s : Service) → TakeGrounds k s → ReadyRow (slice_get s.now.rows k) → IsWithinLimits s → IsWithinLimits (with_event (Take k) s)
take_within k s g r h = record {
  jobs = omega (arith, h.jobs, length-changed k taken_row s.now.rows);
  users = λ u. omega (
    arith,
    h.users u,
    running-changed u k taken_row s.now.rows r.row r.here refl (omega (arith, ap one_if (ready_runs r.row.standing r.ready))),
  );
  places = omega (arith, at_most most_events (places_of s + 2) g.room, length_push s.journal (Take k), take_out k s r);
}

return_within : (k n : ℕ) (s : Service) → ReturnGrounds k n s → IsWithinLimits s → IsWithinLimits (with_event (Return k n) s)
return_within k n s g h = record {
  jobs = omega (arith, h.jobs, length-changed k (returned_row n) s.now.rows);
  users = λ u. omega (arith, h.users u, running-changed u k (returned_row n) s.now.rows g.row g.here refl (back_runs g.row.job n g.row.standing g.out));
  places = omega (arith, h.places, length_push s.journal (Return k n), return_out k n s g);
}

cancel_within : (k : ℕ) (s : Service) → CancelGrounds k s → IsWithinLimits s → IsWithinLimits (with_event (Cancel k) s)
cancel_within k s g h = record {
  jobs = omega (arith, h.jobs, length-changed k cancelled_row s.now.rows);
  users = λ u. omega (arith, h.users u, running-changed u k cancelled_row s.now.rows g.row g.here refl (off_runs g.row.standing));
  places = omega (arith, at_most most_events (places_of s + 1) g.room, length_push s.journal (Cancel k), cancel_out k s.now.rows);
}

event_within : (s : Service) → ListsReady s.now → IsWithinLimits s → (e : Event) → Grounds e s → IsWithinLimits (with_event e s)
event_within s r h (Submit u j) g = submit_within u j s (has_room u s g) h
event_within s r h (Take k) g = take_within k s g (taken_ready k s r g) h
event_within s r h (Return k n) g = return_within k n s g h
event_within s r h (Cancel k) g = cancel_within k s g h

-- CALLS

pub next_within : NextIsWithinLimits
next_within c s r h = call_keeps IsWithinLimits c s (event_within s r h) h

-- with the ready list
record IsOrderly (s : Service) : Type 0 where
  pub listed : ListsReady s.now
  pub within : IsWithinLimits s

pub new_within : IsWithinLimits new_service
new_within = record { jobs = omega arith; users = λ u. omega arith; places = omega arith }

pub all_within : EveryServiceIsWithinLimits
all_within cs =
    (all_keep IsOrderly (λ c s h. record { listed = next_lists_ready c s h.listed; within = next_within c s h.listed h.within }) cs
    new_service (record { listed = λ k. refl; within = new_within })).within
