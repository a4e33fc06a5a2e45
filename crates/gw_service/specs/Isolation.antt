-- User isolation: what a user is told, and what becomes of the user's rows, follows from those rows and from what each call is to the user.
use Rattle.std.specs.Prelude.{◌≡◌, ℕ, List, [], ◌∷◌, ◌++◌, Option, Some, None, Result, Ok, Err, Bool, true, false, ◌==◌, if◌then◌else◌}
use Rattle.std.specs.List.{slice_get}
use Rattle.gw_step.specs.Job.{Job}
use Rattle.gw_service.specs.declared.faults.JobFault.{JobFault}
use Rattle.gw_service.specs.declared.faults.JobFault.TheVariants as faults
use Rattle.gw_service.specs.Rows.{Row, change_row, new_row, taken_row, returned_row, cancelled_row, rows_of, user_place}
use Rattle.gw_service.specs.Journal.{Service}
use Rattle.gw_service.specs.Calls.{Receipt, admit, progress_of, ended_row, own_cancel_fault, is_user_full, take_reply, give_back_reply}
use Rattle.gw_service.specs.Machine.{Call, Submits, Polls, Collects, Cancels, Takes, GivesBack, Reply, Refusal, SlotReply, ProgressReply, RowReply}
use Rattle.gw_service.specs.Machine.{Assent, TaskReply, ReceiptReply, tell_progress, tell_row, unless, reply, next, all_next}

-- two services agree for a user: the user's rows are equal, slots left out
abbrev pub AgreeFor : ℕ → Service → Service → Type 0
AgreeFor u s t = rows_of u s.now.rows ≡ rows_of u t.now.rows

-- WHAT A CALL IS TO A USER: the slot of a pass is the place of the row among the user's rows, or none

-- what a call is to a user
pub data Concern : Type 0 where
  OwnSubmit : (job : Job) → Concern
  OwnPoll : (place : Option ℕ) (job : Job) → Concern
  OwnCollect : (place : Option ℕ) (job : Job) → Concern
  OwnCancel : (place : Option ℕ) (job : Job) → Concern
  -- the row at this place goes out, or comes back with so many steps
  OwnTake : (place : ℕ) → Concern
  OwnReturn : (place : ℕ) (steps : ℕ) → Concern
  -- a call of another user, or of another user's row
  NoConcern : Concern

-- a row goes out, if it has a place
abbrev pub take_at : Option ℕ → Concern
take_at None = NoConcern
take_at (Some i) = OwnTake i

-- a row comes back with so many steps, if it has a place
abbrev pub return_at : ℕ → Option ℕ → Concern
return_at n None = NoConcern
return_at n (Some i) = OwnReturn i n

-- what a take is to a user, by its answer
abbrev pub take_concern : ℕ → List Row → Result (Option ℕ) JobFault → Concern
take_concern u rows (Err fault) = NoConcern
take_concern u rows (Ok None) = NoConcern
take_concern u rows (Ok (Some k)) = take_at (user_place u k rows)

-- what a give-back is to a user, by its receipt
abbrev pub return_concern : ℕ → List Row → Option Receipt → Concern
return_concern u rows None = NoConcern
return_concern u rows (Some receipt) = return_at receipt.steps (user_place u receipt.slot rows)

-- what a call is to a user
abbrev pub concern : ℕ → Call → Service → Concern
concern u (Submits v j) s = if v == u then OwnSubmit j else NoConcern
concern u (Polls p) s = if p.user == u then OwnPoll (user_place u p.slot s.now.rows) p.job else NoConcern
concern u (Collects p) s = if p.user == u then OwnCollect (user_place u p.slot s.now.rows) p.job else NoConcern
concern u (Cancels p) s = if p.user == u then OwnCancel (user_place u p.slot s.now.rows) p.job else NoConcern
concern u Takes s = take_concern u s.now.rows (take_reply s)
concern u (GivesBack k j n) s = return_concern u s.now.rows (give_back_reply k j n s)

-- WHAT A USER IS TOLD: nothing of calls of others, and not the slot of a new pass

-- what a user is told of a call
pub data Notice : Type 0 where
  NoNotice : Notice
  NewJob : Notice
  Answer : (reply : Reply) → Notice

-- what is told of a reply to who made the call
abbrev pub notice_of : Reply → Notice
notice_of (Refusal fault) = Answer (Refusal fault)
notice_of (SlotReply k) = NewJob
notice_of (ProgressReply p) = Answer (ProgressReply p)
notice_of (RowReply r) = Answer (RowReply r)
notice_of Assent = Answer Assent
notice_of (TaskReply slot) = NoNotice
notice_of (ReceiptReply receipt) = NoNotice

-- the user makes this call; takes and returns are made by workers
abbrev pub is_by : ℕ → Call → Bool
is_by u (Submits v j) = v == u
is_by u (Polls p) = p.user == u
is_by u (Collects p) = p.user == u
is_by u (Cancels p) = p.user == u
is_by u Takes = false
is_by u (GivesBack k j n) = false

-- what a user is told of a call
abbrev pub notice : ℕ → Call → Service → Notice
notice u c s = if is_by u c then notice_of (reply c s) else NoNotice

-- THE EXCEPTIONS: a refusal by what all users share. Memory is no answer here, and leaves the service as it was

-- a fault by what all users share
abbrev pub is_shared : JobFault → Bool
is_shared faults.ServiceFull = true
is_shared faults.JournalFull = true
is_shared faults.Memory = true
is_shared fault = false

-- a refusal by what all users share
abbrev pub is_shared_reply : Reply → Bool
is_shared_reply (Refusal fault) = is_shared fault
is_shared_reply reply = false

-- the user is refused by what all share
abbrev pub is_limited : Notice → Bool
is_limited (Answer r) = is_shared_reply r
is_limited other = false

-- the refusal by what all users share that a user is told, if it is one
abbrev pub limit_in : Notice → Option Notice
limit_in told = if is_limited told then Some told else None

-- A USER ALONE: what the user is told, and what becomes of the user's rows

-- the row at a place, if there is one
abbrev pub row_at : Option ℕ → List Row → Option Row
row_at None rows = None
row_at (Some i) rows = slice_get rows i

-- the rows, with the one at a place, if there is one, as a function makes it
abbrev pub change_at : Option ℕ → (Row → Row) → List Row → List Row
change_at None f rows = rows
change_at (Some i) f rows = change_row i f rows

-- what a user is told, by the user's rows
abbrev pub own_notice : Concern → List Row → Notice
own_notice (OwnSubmit j) rows = if is_user_full rows then Answer (Refusal faults.UserFull) else NewJob
own_notice (OwnPoll p j) rows = notice_of (tell_progress (progress_of (admit j (row_at p rows))))
own_notice (OwnCollect p j) rows = notice_of (tell_row (ended_row (admit j (row_at p rows))))
own_notice (OwnCancel p j) rows = notice_of (unless (own_cancel_fault (admit j (row_at p rows))) Assent)
own_notice (OwnTake i) rows = NoNotice
own_notice (OwnReturn i n) rows = NoNotice
own_notice NoConcern rows = NoNotice

-- the new rows, unless there is a fault
abbrev pub rows_unless : Option JobFault → List Row → List Row → List Row
rows_unless None new old = new
rows_unless (Some fault) new old = old

-- the user's rows after it
abbrev pub own_next : ℕ → Concern → List Row → List Row
own_next u (OwnSubmit j) rows = if is_user_full rows then rows else rows ++ new_row u j ∷ []
own_next u (OwnPoll p j) rows = rows
own_next u (OwnCollect p j) rows = rows
own_next u (OwnCancel p j) rows = rows_unless (own_cancel_fault (admit j (row_at p rows))) (change_at p cancelled_row rows) rows
own_next u (OwnTake i) rows = change_row i taken_row rows
own_next u (OwnReturn i n) rows = change_row i (returned_row n) rows
own_next u NoConcern rows = rows

-- ONE CALL

-- what a user is told of a call, and the user's rows after it, follow from those rows and from what the call is to the user
pub record IsPrivate (u : ℕ) (c : Call) (s : Service) : Type 0 where
  pub notice : notice u c s ≡ own_notice (concern u c s) (rows_of u s.now.rows)
  pub rows : rows_of u (next c s).now.rows ≡ own_next u (concern u c s) (rows_of u s.now.rows)

-- so it is of each call that isn't refused by what all share
abbrev pub OneCallIsPrivate : Type 0
OneCallIsPrivate = (u : ℕ) (c : Call) (s : Service) → is_limited (notice u c s) ≡ false → IsPrivate u c s

-- a call of another user, or a take or a return of another user's row, leaves the user's rows as they are
abbrev pub OthersLeaveMyRows : Type 0
OthersLeaveMyRows = (u : ℕ) (c : Call) (s : Service) → concern u c s ≡ NoConcern → rows_of u (next c s).now.rows ≡ rows_of u s.now.rows

-- two calls tell a user the same, and leave two services agreeing
pub record StaysAlike (u : ℕ) (c d : Call) (s t : Service) : Type 0 where
  pub notice : notice u c s ≡ notice u d t
  pub agree : AgreeFor u (next c s) (next d t)

-- where two services agree for a user, the same call gets the same reply and leaves them agreeing, unless what all users share refuses it of one of them alone
abbrev pub SameCallSameReply : Type 0
SameCallSameReply = (u : ℕ) (c d : Call) (s t : Service) → AgreeFor u s t → concern u c s ≡ concern u d t → limit_in (notice u c s)
    ≡ limit_in (notice u d t) → StaysAlike u c d s t

-- LISTS OF CALLS

-- what one call is to a user, and what those after it are
abbrev pub with_concern : Concern → List Concern → List Concern
with_concern (OwnSubmit j) xs = OwnSubmit j ∷ xs
with_concern (OwnPoll p j) xs = OwnPoll p j ∷ xs
with_concern (OwnCollect p j) xs = OwnCollect p j ∷ xs
with_concern (OwnCancel p j) xs = OwnCancel p j ∷ xs
with_concern (OwnTake i) xs = OwnTake i ∷ xs
with_concern (OwnReturn i n) xs = OwnReturn i n ∷ xs
with_concern NoConcern xs = xs

-- what the calls are to a user, but those of no concern
abbrev pub concerns : ℕ → List Call → Service → List Concern
concerns u [] s = []
concerns u (c ∷ cs) s = with_concern (concern u c s) (concerns u cs (next c s))

-- what a user is told of one call, and of those after it
abbrev pub with_notice : Notice → List Notice → List Notice
with_notice NoNotice xs = xs
with_notice NewJob xs = NewJob ∷ xs
with_notice (Answer r) xs = Answer r ∷ xs

-- all that a user is told
abbrev pub notices : ℕ → List Call → Service → List Notice
notices u [] s = []
notices u (c ∷ cs) s = with_notice (notice u c s) (notices u cs (next c s))

-- which refusal by what all share a call that concerns a user meets, if one, and those after it
abbrev pub with_limit : Concern → Option Notice → List (Option Notice) → List (Option Notice)
with_limit (OwnSubmit j) limit xs = limit ∷ xs
with_limit (OwnPoll p j) limit xs = limit ∷ xs
with_limit (OwnCollect p j) limit xs = limit ∷ xs
with_limit (OwnCancel p j) limit xs = limit ∷ xs
with_limit (OwnTake i) limit xs = limit ∷ xs
with_limit (OwnReturn i n) limit xs = limit ∷ xs
with_limit NoConcern limit xs = xs

-- for each call that concerns a user the refusal by what all share that it meets, if it meets one
abbrev pub limits : ℕ → List Call → Service → List (Option Notice)
limits u [] s = []
limits u (c ∷ cs) s = with_limit (concern u c s) (limit_in (notice u c s)) (limits u cs (next c s))

-- two lists of calls tell a user the same, and leave two services agreeing
pub record AllAlike (u : ℕ) (cs ds : List Call) (s t : Service) : Type 0 where
  pub notices : notices u cs s ≡ notices u ds t
  pub agree : AgreeFor u (all_next cs s) (all_next ds t)

-- the same of lists of calls, whatever calls of others come between, where the user's rows are taken and returned
-- alike, and what all share refuses the same calls. Where it refuses another one, the law speaks of the lists up to
-- there
abbrev pub SameCallsSameReplies : Type 0
SameCallsSameReplies = (u : ℕ) (cs ds : List Call) (s t : Service) → AgreeFor u s t → concerns u cs s ≡ concerns u ds t → limits u cs s
    ≡ limits u ds t → AllAlike u cs ds s t

-- what a user is told of a list of calls begins with what is told of its front: so the law speaks of all that comes
-- before a refusal that only one side meets, whatever comes behind it
abbrev pub FrontsAreToldFirst : Type 0
FrontsAreToldFirst = (u : ℕ) (cs more : List Call) (s : Service) → notices u (cs ++ more) s ≡ notices u cs s ++ notices u more (all_next cs s)
