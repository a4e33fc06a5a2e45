-- How many rows are out, and how many steps were given back.
use Rattle.std.proofs.Common.{◌≡◌, ℕ, ◌+◌, ◌≤◌, List, [], ◌∷◌, ◌++◌, Option, Some, None, Bool, true, false, refl, ap, arith}
use Rattle.std.specs.Prelude.{if◌then◌else◌}
use Rattle.std.specs.List.{slice_get}
use Rattle.gw_step.specs.Job.{Job}
use Rattle.gw_service.specs.Rows.{Standing, Ready, Out, Ended, Cancelled, CancelledOut, Row, change_row, new_row, taken_row, returned_row}
use Rattle.gw_service.specs.Rows.{cancelled_row, standing_back, standing_off, is_ready, is_out, is_over, out_of, steps_of}
use Rattle.gw_service.specs.Journal.{Service, Event, Submit, Take, Return, Cancel, with_event}
use Rattle.gw_service.specs.Machine.{event_of, after_event}
use Rattle.gw_service.specs.Keeping.{ListsReady, rows_sent, rows_back, steps_sent, steps_back, steps_in, OutFollowsCalls, StepsFollowReturns, StepsNeverFall}
use Rattle.gw_service.proofs.Changing.{one_if, sum-changed, sum-kept, sum-added}
use Rattle.gw_service.proofs.Grounds.{ReturnGrounds, Grounds, grounds}
use Rattle.gw_service.proofs.Listing.{ReadyRow, taken_ready}

-- 1 for a row that is out
abbrev pub counts_out : Row → ℕ
counts_out r = if is_out r.standing then 1 else 0

-- STANDINGS

ready_in : (t : Standing) → is_ready t ≡ true → one_if (is_out t) ≡ 0
ready_in Ready h = refl
ready_in Out h = absurd cc
ready_in Ended h = absurd cc
ready_in Cancelled h = absurd cc
ready_in CancelledOut h = absurd cc

rests_in : (over : Bool) → one_if (is_out (if over then Ended else Ready)) ≡ 0
rests_in true = refl
rests_in false = refl

back_in : (j : Job) (n : ℕ) (t : Standing) → one_if (is_out (standing_back j n t)) ≡ 0
back_in j n Ready = rests_in (is_over j n)
back_in j n Out = rests_in (is_over j n)
back_in j n Ended = rests_in (is_over j n)
back_in j n Cancelled = refl
back_in j n CancelledOut = refl

off_same : (t : Standing) → one_if (is_out (standing_off t)) ≡ one_if (is_out t)
off_same Ready = refl
off_same Out = refl
off_same Ended = refl
off_same Cancelled = refl
off_same CancelledOut = refl

out_one : (b : Bool) → b ≡ true → one_if b ≡ 1
out_one true h = refl
out_one false h = absurd cc

-- OUT

pub submit_out : (u : ℕ) (j : Job) (rows : List Row) → out_of (rows ++ new_row u j ∷ []) ≡ out_of rows
submit_out u j rows = omega (arith, sum-added counts_out rows (new_row u j), rests_in (is_over j 0))

pub take_out : (k : ℕ) (s : Service) → ReadyRow (slice_get s.now.rows k) → out_of (change_row k taken_row s.now.rows) ≡ out_of s.now.rows + 1
take_out k s r = omega (arith, sum-changed counts_out k taken_row s.now.rows r.row r.here, ready_in r.row.standing r.ready)

pub return_out : (k n : ℕ) (s : Service) → ReturnGrounds k n s → out_of (change_row k (returned_row n) s.now.rows) + 1 ≡ out_of s.now.rows
return_out k n s g =
    omega (arith, sum-changed counts_out k (returned_row n) s.now.rows g.row g.here, back_in g.row.job n g.row.standing, out_one (is_out g.row.standing) g.out)

pub cancel_out : (k : ℕ) (rows : List Row) → out_of (change_row k cancelled_row rows) ≡ out_of rows
cancel_out k rows = sum-kept counts_out k cancelled_row rows (λ r. off_same r.standing)

event_out : (s : Service) → ListsReady s.now → (e : Event) → Grounds e s → out_of (with_event e s).now.rows + rows_back (Some e)
    ≡ out_of s.now.rows + rows_sent (Some e)
event_out s h (Submit u j) g = omega (arith, submit_out u j s.now.rows)
event_out s h (Take k) g = omega (arith, take_out k s (taken_ready k s h g))
event_out s h (Return k n) g = omega (arith, return_out k n s g)
event_out s h (Cancel k) g = omega (arith, cancel_out k s.now.rows)

call_out : (o : Option Event) (s : Service) → ListsReady s.now → ((e : Event) → o ≡ Some e → Grounds e s)
    → out_of (after_event o s).now.rows + rows_back o ≡ out_of s.now.rows + rows_sent o
call_out None s h g = refl
call_out (Some e) s h g = event_out s h e (g e refl)

pub out_follows : OutFollowsCalls
out_follows c s h = call_out (event_of c s) s h (grounds c s)

-- STEPS

abbrev pub steps_by : Row → ℕ
steps_by r = r.steps

pub submit_steps : (u : ℕ) (j : Job) (rows : List Row) → steps_of (rows ++ new_row u j ∷ []) ≡ steps_of rows
submit_steps u j rows = omega (arith, sum-added steps_by rows (new_row u j))

pub take_steps : (k : ℕ) (rows : List Row) → steps_of (change_row k taken_row rows) ≡ steps_of rows
take_steps k rows = sum-kept steps_by k taken_row rows (λ r. refl)

pub cancel_steps : (k : ℕ) (rows : List Row) → steps_of (change_row k cancelled_row rows) ≡ steps_of rows
cancel_steps k rows = sum-kept steps_by k cancelled_row rows (λ r. refl)

pub return_steps : (k n : ℕ) (s : Service) → ReturnGrounds k n s → steps_of (change_row k (returned_row n) s.now.rows)
    + steps_in (slice_get s.now.rows k) ≡ steps_of s.now.rows + n
return_steps k n s g = omega (arith, sum-changed steps_by k (returned_row n) s.now.rows g.row g.here, ap steps_in g.here)

event_steps : (s : Service) (e : Event) → Grounds e s → steps_of (with_event e s).now.rows + steps_sent (Some e) s.now.rows
    ≡ steps_of s.now.rows + steps_back (Some e)
event_steps s (Submit u j) g = omega (arith, submit_steps u j s.now.rows)
event_steps s (Take k) g = omega (arith, take_steps k s.now.rows)
event_steps s (Return k n) g = return_steps k n s g
event_steps s (Cancel k) g = omega (arith, cancel_steps k s.now.rows)

call_steps : (o : Option Event) (s : Service) → ((e : Event) → o ≡ Some e → Grounds e s) → steps_of (after_event o s).now.rows
    + steps_sent o s.now.rows ≡ steps_of s.now.rows + steps_back o
call_steps None s g = refl
call_steps (Some e) s g = event_steps s e (g e refl)

pub steps_follow : StepsFollowReturns
steps_follow c s = call_steps (event_of c s) s (grounds c s)

event_rises : (s : Service) (e : Event) → Grounds e s → steps_of s.now.rows ≤ steps_of (with_event e s).now.rows
event_rises s (Submit u j) g = omega (arith, submit_steps u j s.now.rows)
event_rises s (Take k) g = omega (arith, take_steps k s.now.rows)
event_rises s (Return k n) g = omega (arith, return_steps k n s g, ap steps_in g.here, g.least)
event_rises s (Cancel k) g = omega (arith, cancel_steps k s.now.rows)

call_rises : (o : Option Event) (s : Service) → ((e : Event) → o ≡ Some e → Grounds e s) → steps_of s.now.rows ≤ steps_of (after_event o s).now.rows
call_rises None s g = omega arith
call_rises (Some e) s g = event_rises s e (g e refl)

pub steps_never_fall : StepsNeverFall
steps_never_fall c s = call_rises (event_of c s) s (grounds c s)
