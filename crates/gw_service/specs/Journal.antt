-- The service machine: its events, what each makes of rows and ready list, and the journal that tells them.
use Rattle.std.specs.Prelude.{◌≡◌, ℕ, ◌≤◌, ◌^◌, List, [], ◌∷◌, ◌++◌, length, drop, Option, Some, None, true, ◌==◌, not, if◌then◌else◌}
use Rattle.std.specs.List.{filter, slice_get}
use Rattle.gw_step.specs.State.{State}
use Rattle.gw_step.specs.Job.{Job, JobFits, Alone}
use Rattle.gw_service.specs.Rows.{Row, Jobs, is_ready, is_out, is_cancellable, change_row, new_row, taken_row, returned_row, cancelled_row}

-- EVENTS

-- what happens to a service
pub data Event : Type 0 where
  -- a user's job gets the next slot
  Submit : (user : ℕ) (job : Job) → Event
  -- the first of the ready list goes out
  Take : (slot : ℕ) → Event
  -- a row that is out comes back, with so many steps in all
  Return : (slot : ℕ) (steps : ℕ) → Event
  -- a row is cancelled that is ready or out
  Cancel : (slot : ℕ) → Event

-- the slot of a row, where the row is ready
abbrev pub slot_if_ready : ℕ → Option Row → List ℕ
slot_if_ready k None = []
slot_if_ready k (Some r) = if is_ready r.standing then k ∷ [] else []

-- a ready list, without a slot
abbrev pub ready_without : ℕ → List ℕ → List ℕ
ready_without k ready = filter (λ m. not (m == k)) ready

-- what an event makes of rows and ready list: a row that is ready then stands at the end of the ready list
abbrev pub apply : Event → Jobs → Jobs
apply (Submit u j) s = record {
  rows = s.rows ++ new_row u j ∷ [];
  ready = s.ready ++ slot_if_ready (length s.rows) (Some (new_row u j));
}
apply (Take k) s = record { rows = change_row k taken_row s.rows; ready = drop 1 s.ready }
apply (Return k n) s = record {
  rows = change_row k (returned_row n) s.rows;
  ready = s.ready ++ slot_if_ready k (slice_get (change_row k (returned_row n) s.rows) k);
}
apply (Cancel k) s = record { rows = change_row k cancelled_row s.rows; ready = ready_without k s.ready }

-- THE JOURNAL

-- neither rows nor ready list
abbrev pub no_jobs : Jobs
no_jobs = record { rows = []; ready = [] }

-- what events make of rows and ready list, one after the other
abbrev pub replay_from : Jobs → List Event → Jobs
replay_from s [] = s
replay_from s (e ∷ es) = replay_from (apply e s) es

-- what a journal makes, from no rows
abbrev pub replay : List Event → Jobs
replay journal = replay_from no_jobs journal

-- a service: rows and ready list as they are now, and all events so far, in order
pub record Service : Type 0 where
  pub now : Jobs
  pub journal : List Event

-- a service before its first event
abbrev pub new_service : Service
new_service = record { now = no_jobs; journal = [] }

-- the service after one more event
abbrev pub with_event : Event → Service → Service
with_event e s = record { now = apply e s.now; journal = s.journal ++ e ∷ [] }

-- the journal replays to the rows and the ready list
abbrev pub IsReplayed : Service → Type 0
IsReplayed s = replay s.journal ≡ s.now

-- WHICH EVENTS MAY COME

-- there is a row, and this is so of it
abbrev pub OfRow : (Row → Type 0) → Option Row → Type 0
OfRow is None = ⊥
OfRow is (Some r) = is r

-- the lone run of a job has a state after so many steps
pub record HasState (j : Job) (n : ℕ) : Type 0 where
  pub state : State
  pub alone : Alone j n state

-- a row may come back with so many steps: it is out, they are at least those at its take, and its job's lone run has so many
pub record MayReturn (n : ℕ) (r : Row) : Type 0 where
  pub out : is_out r.standing ≡ true
  pub least : r.steps ≤ n
  pub most : n ≤ 2 ^ 40
  pub reached : HasState r.job n

-- an event may come: a submit of a job that has a start, a take of the first slot that is ready, a return of a row that
-- may come back, a cancel of a row that is ready or out and wasn't cancelled
abbrev pub MayCome : Event → Jobs → Type 0
MayCome (Submit u j) s = HasState j 0
MayCome (Take k) s = slice_get s.ready 0 ≡ Some k
MayCome (Return k n) s = OfRow (MayReturn n) (slice_get s.rows k)
MayCome (Cancel k) s = OfRow (λ r. is_cancellable r.standing ≡ true) (slice_get s.rows k)

-- each event of a list may come, after those before it
abbrev pub EachMayCome : List Event → Jobs → Type 0
EachMayCome [] s = Unit {0}
EachMayCome (e ∷ es) s = MayCome e s × EachMayCome es (apply e s)

-- a journal has no event that may not come
abbrev pub IsHistory : List Event → Type 0
IsHistory journal = EachMayCome journal no_jobs

-- ACCEPTED OBJECTS

-- an event submits no other job than one of an accepted object, with seeds, a count and a budget in their ranges
abbrev pub SubmitsAccepted : Event → Type 0
SubmitsAccepted (Submit user job) = JobFits job
SubmitsAccepted (Take slot) = Unit {0}
SubmitsAccepted (Return slot steps) = Unit {0}
SubmitsAccepted (Cancel slot) = Unit {0}

-- so it is of each event of a list
abbrev pub AllSubmitAccepted : List Event → Type 0
AllSubmitAccepted [] = Unit {0}
AllSubmitAccepted (e ∷ es) = SubmitsAccepted e × AllSubmitAccepted es
