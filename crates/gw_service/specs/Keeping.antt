-- What each call keeps: the journal replays, the ready list lists what is ready, limits are kept, totals are right, and
-- each row's steps are those of its job's lone run.
use Rattle.std.specs.Prelude.{◌≡◌, ℕ, ◌+◌, ◌≤◌, ◌^◌, List, [], ◌∷◌, length, Option, Some, None, Ok, Bool, true, false, ◌||◌, if◌then◌else◌}
use Rattle.std.specs.List.{slice_get}
use Rattle.gw_step.specs.Residence.{occurrences}
use Rattle.gw_step.specs.Job.{Job}
use Rattle.gw_service.specs.declared.faults.JobFault.{JobFault}
use Rattle.gw_equality.specs.Jobs.{same_job}
use Rattle.gw_service.specs.Rows.{Standing, Ready, Out, Ended, Cancelled, CancelledOut, Row, Jobs, is_ready, is_ended, is_cancelled, is_over, rows_of}
use Rattle.gw_service.specs.Rows.{running_in, out_of, steps_of}
use Rattle.gw_service.specs.Journal.{Event, Submit, Take, Return, Cancel, Service, new_service, IsReplayed, OfRow, HasState, MayCome, IsHistory}
use Rattle.gw_service.specs.Calls.{Pass, row_for, places_of, most_jobs, most_running, most_events}
use Rattle.gw_service.specs.Machine.{Call, Submits, Polls, Collects, Cancels, Takes, GivesBack, Refusal, reply, event_of, next, all_next}

-- THE JOURNAL

-- each call keeps a journal that replays
abbrev pub NextIsReplayed : Type 0
NextIsReplayed = (c : Call) (s : Service) → IsReplayed s → IsReplayed (next c s)

-- after any list of calls the journal replays to the rows and the ready list
abbrev pub EveryJournalReplays : Type 0
EveryJournalReplays = (cs : List Call) → IsReplayed (all_next cs new_service)

-- THE READY LIST

-- 1 for a row that is ready
abbrev pub counts_ready : Option Row → ℕ
counts_ready None = 0
counts_ready (Some r) = if is_ready r.standing then 1 else 0

-- the ready list has the slots of the rows that are ready, each once, and no other
abbrev pub ListsReady : Jobs → Type 0
ListsReady s = (k : ℕ) → occurrences k s.ready ≡ counts_ready (slice_get s.rows k)

-- each call keeps that
abbrev pub NextListsReady : Type 0
NextListsReady = (c : Call) (s : Service) → ListsReady s.now → ListsReady (next c s).now

-- so it is after any list of calls
abbrev pub EveryServiceListsReady : Type 0
EveryServiceListsReady = (cs : List Call) → ListsReady (all_next cs new_service).now

-- LIMITS

-- so many jobs in all, so many of each user that run, and so many places of the journal that are taken
pub record IsWithinLimits (s : Service) : Type 0 where
  pub jobs : length s.now.rows ≤ most_jobs
  pub users : (u : ℕ) → running_in (rows_of u s.now.rows) ≤ most_running
  pub places : places_of s ≤ most_events

-- each call keeps the limits
abbrev pub NextIsWithinLimits : Type 0
NextIsWithinLimits = (c : Call) (s : Service) → ListsReady s.now → IsWithinLimits s → IsWithinLimits (next c s)

-- so it is after any list of calls
abbrev pub EveryServiceIsWithinLimits : Type 0
EveryServiceIsWithinLimits = (cs : List Call) → IsWithinLimits (all_next cs new_service)

-- TOTALS

-- the rows that an event, if there is one, sends out
abbrev pub rows_sent : Option Event → ℕ
rows_sent (Some (Take k)) = 1
rows_sent event = 0

-- those that it brings back
abbrev pub rows_back : Option Event → ℕ
rows_back (Some (Return k n)) = 1
rows_back event = 0

-- the steps with which a row comes back
abbrev pub steps_back : Option Event → ℕ
steps_back (Some (Return k n)) = n
steps_back event = 0

-- the steps of a row, if there is one
abbrev pub steps_in : Option Row → ℕ
steps_in None = 0
steps_in (Some r) = r.steps

-- the steps with which that row went out
abbrev pub steps_sent : Option Event → List Row → ℕ
steps_sent None rows = 0
steps_sent (Some (Submit u j)) rows = 0
steps_sent (Some (Take k)) rows = 0
steps_sent (Some (Return k n)) rows = steps_in (slice_get rows k)
steps_sent (Some (Cancel k)) rows = 0

-- a take raises the rows that are out by one, a return lowers them by one, and no other call changes how many they are
abbrev pub OutFollowsCalls : Type 0
OutFollowsCalls = (c : Call) (s : Service) → ListsReady s.now → out_of (next c s).now.rows + rows_back (event_of c s) ≡ out_of s.now.rows
    + rows_sent (event_of c s)

-- a return adds the steps that were made since the take, and no other call changes the steps given back
abbrev pub StepsFollowReturns : Type 0
StepsFollowReturns = (c : Call) (s : Service) → steps_of (next c s).now.rows + steps_sent (event_of c s) s.now.rows ≡ steps_of s.now.rows
    + steps_back (event_of c s)

-- the steps given back never fall
abbrev pub StepsNeverFall : Type 0
StepsNeverFall = (c : Call) (s : Service) → steps_of s.now.rows ≤ steps_of (next c s).now.rows

-- REACHED ROWS

-- how a job may stand whose lone run is over after the steps given back, or not
abbrev pub MayStand : Bool → Standing → Type 0
MayStand over Ready = over ≡ false
MayStand over Out = over ≡ false
MayStand over Ended = over ≡ true
MayStand over Cancelled = Unit {0}
MayStand over CancelledOut = over ≡ false

-- the lone run of a row's job has a state after the row's steps; it is final where the row is ended, and else it isn't, but for a cancelled row
pub record IsReachedRow (r : Row) : Type 0 where
  pub reached : HasState r.job r.steps
  pub stands : MayStand (is_over r.job r.steps) r.standing
  pub most : r.steps ≤ 2 ^ 40

-- each of several rows is so
abbrev pub AreReached : List Row → Type 0
AreReached [] = Unit {0}
AreReached (r ∷ rows) = IsReachedRow r × AreReached rows

-- what is handed in is sound: a job that has a start, or a task, whose job's lone run has so many steps, at most 2^40
abbrev pub IsSound : Call → Type 0
IsSound (Submits u j) = HasState j 0
IsSound (Polls p) = Unit {0}
IsSound (Collects p) = Unit {0}
IsSound (Cancels p) = Unit {0}
IsSound Takes = Unit {0}
IsSound (GivesBack k j n) = (n ≤ 2 ^ 40) × ((i : Job) → same_job i j ≡ true → HasState i n)

-- each call of a list is so
abbrev pub AllSound : List Call → Type 0
AllSound [] = Unit {0}
AllSound (c ∷ cs) = IsSound c × AllSound cs

-- each sound call keeps that
abbrev pub NextIsReached : Type 0
NextIsReached = (c : Call) (s : Service) → IsSound c → ListsReady s.now → AreReached s.now.rows → AreReached (next c s).now.rows

-- so it is after any list of sound calls
abbrev pub EveryServiceIsReached : Type 0
EveryServiceIsReached = (cs : List Call) → AllSound cs → AreReached (all_next cs new_service).now.rows

-- ALL OF IT

-- a service as sound calls keep it
pub record IsKept (s : Service) : Type 0 where
  pub replayed : IsReplayed s
  pub history : IsHistory s.journal
  pub listed : ListsReady s.now
  pub within : IsWithinLimits s
  pub reached : AreReached s.now.rows

-- each sound call keeps all of it
abbrev pub NextIsKept : Type 0
NextIsKept = (c : Call) (s : Service) → IsSound c → IsKept s → IsKept (next c s)

-- so it is after any list of sound calls
abbrev pub EveryServiceIsKept : Type 0
EveryServiceIsKept = (cs : List Call) → AllSound cs → IsKept (all_next cs new_service)

-- HISTORY

-- the event of a sound call may come
abbrev pub EventsMayCome : Type 0
EventsMayCome = (c : Call) (s : Service) (e : Event) → IsSound c → event_of c s ≡ Some e → MayCome e s.now

-- after any list of sound calls the journal has no event that could not come
abbrev pub EveryJournalIsHistory : Type 0
EveryJournalIsHistory = (cs : List Call) → AllSound cs → IsHistory (all_next cs new_service).journal

-- PASSES

-- a pass leads to a row: it is the one in its slot, of its user, with its job
pub record LeadsTo (p : Pass) (s : Service) (r : Row) : Type 0 where
  pub slot : slice_get s.now.rows p.slot ≡ Some r
  pub user : r.user ≡ p.user
  pub job : same_job r.job p.job ≡ true

-- whatever is told or cancelled by a pass, it is the user's own row
abbrev pub PassesLeadToOwnRows : Type 0
PassesLeadToOwnRows = (p : Pass) (s : Service) (r : Row) → row_for p s ≡ Ok r → LeadsTo p s r

-- WHAT STAYS

-- a refusal leaves the service as it was
abbrev pub RefusalsChangeNothing : Type 0
RefusalsChangeNothing = (c : Call) (s : Service) (fault : JobFault) → reply c s ≡ Refusal fault → next c s ≡ s

-- it is ended or was cancelled, and no worker has it
abbrev pub is_settled : Standing → Bool
is_settled standing = is_ended standing || is_cancelled standing

-- a row later on: it has its user and its job, as many steps or more, and where it was ended or cancelled it is as it was
pub record IsLater (r q : Row) : Type 0 where
  pub user : q.user ≡ r.user
  pub job : q.job ≡ r.job
  pub steps : r.steps ≤ q.steps
  pub settled : is_settled r.standing ≡ true → q ≡ r

-- a slot stays its job's
abbrev pub SlotsAreKept : Type 0
SlotsAreKept = (c : Call) (s : Service) (k : ℕ) (r : Row) → ListsReady s.now → slice_get s.now.rows k ≡ Some r
    → OfRow (IsLater r) (slice_get (next c s).now.rows k)
