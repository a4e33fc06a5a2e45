-- The rows of a service: the jobs of its users, how each stands, and what changes a row.
use Rattle.std.specs.Prelude.{ℕ, zero, suc, List, [], ◌∷◌, length, count_by, sum_by, Option, Some, None, Bool, true, false, is_some, ◌==◌, if◌then◌else◌}
use Rattle.std.specs.List.{filter}
use Rattle.gw_step.specs.State.{State}
use Rattle.gw_step.specs.Job.{Job, after, start_of}

-- HOW A JOB STANDS

-- a job waits to be taken, is out with a worker, is ended, or was cancelled; one that was cancelled while out is out still
pub data Standing : Type 0 where
  Ready : Standing
  Out : Standing
  Ended : Standing
  Cancelled : Standing
  CancelledOut : Standing

-- it waits to be taken
abbrev pub is_ready : Standing → Bool
is_ready Ready = true
is_ready standing = false

-- a worker has it, cancelled or not
abbrev pub is_out : Standing → Bool
is_out Out = true
is_out CancelledOut = true
is_out standing = false

-- it counts as running while it is ready or out, cancelled or not
abbrev pub is_running : Standing → Bool
is_running Ready = true
is_running Out = true
is_running CancelledOut = true
is_running standing = false

-- it may be cancelled
abbrev pub is_cancellable : Standing → Bool
is_cancellable Ready = true
is_cancellable Out = true
is_cancellable standing = false

-- a named end stands
abbrev pub is_ended : Standing → Bool
is_ended Ended = true
is_ended standing = false

-- it was cancelled, and is out no more
abbrev pub is_cancelled : Standing → Bool
is_cancelled Cancelled = true
is_cancelled standing = false

-- ROWS

-- a job of a user; its place among the rows, from 0, is its slot
pub record Row : Type 0 where
  pub user : ℕ
  pub job : Job
  -- the steps that were last given back
  pub steps : ℕ
  pub standing : Standing

-- the rows of a service by slot, and the slots that are ready, in the order in which they are taken
pub record Jobs : Type 0 where
  pub rows : List Row
  pub ready : List ℕ

-- how many of the rows are out
abbrev pub out_of : List Row → ℕ
out_of rows = count_by (λ r. is_out r.standing) rows

-- the steps given back, of all rows together
abbrev pub steps_of : List Row → ℕ
steps_of rows = sum_by (λ r. r.steps) rows

-- THE LONE RUN OF A JOB

-- the state after so many steps, if the lone run has so many
abbrev pub lone_state : Job → ℕ → Option State
lone_state j n = after j n (start_of j)

-- whether a named end stands in a state, if there is one
abbrev pub is_final : Option State → Bool
is_final None = false
is_final (Some s) = is_some s.ended

-- whether the lone run is over after so many steps
abbrev pub is_over : Job → ℕ → Bool
is_over j n = is_final (lone_state j n)

-- CHANGES OF A ROW

-- the rows, with the one in this slot, if there is one, as a function makes it
abbrev pub change_row : ℕ → (Row → Row) → List Row → List Row
change_row k f [] = []
change_row zero f (r ∷ rs) = f r ∷ rs
change_row (suc k) f (r ∷ rs) = r ∷ change_row k f rs

-- how a job stands after so many steps, where it isn't out and wasn't cancelled
abbrev pub standing_at : Job → ℕ → Standing
standing_at j n = if is_over j n then Ended else Ready

-- a job that its start ended is ended at once
abbrev pub new_row : ℕ → Job → Row
new_row u j = record { user = u; job = j; steps = 0; standing = standing_at j 0 }

-- a row, once it was taken
abbrev pub taken_row : Row → Row
taken_row r = record r { standing = Out }

-- how a job stands, once it was given back after so many steps
abbrev pub standing_back : Job → ℕ → Standing → Standing
standing_back j n Cancelled = Cancelled
standing_back j n CancelledOut = Cancelled
standing_back j n standing = standing_at j n

-- a row, once it was given back after so many steps
abbrev pub returned_row : ℕ → Row → Row
returned_row n r = record r { steps = n; standing = standing_back r.job n r.standing }

-- how a job stands, once it was cancelled
abbrev pub standing_off : Standing → Standing
standing_off Ready = Cancelled
standing_off Out = CancelledOut
standing_off standing = standing

-- a row, once it was cancelled
abbrev pub cancelled_row : Row → Row
cancelled_row r = record r { standing = standing_off r.standing }

-- THE ROWS OF A USER

-- a user's rows, in the order of their slots
abbrev pub rows_of : ℕ → List Row → List Row
rows_of u rows = filter (λ r. r.user == u) rows

-- how many of these rows run
abbrev pub running_in : List Row → ℕ
running_in rows = length (filter (λ r. is_running r.standing) rows)

-- a row, if it is this user's
abbrev pub own_row : ℕ → Option Row → Option Row
own_row u None = None
own_row u (Some r) = if r.user == u then Some r else None

-- the place after one, if there is one
abbrev pub next_place : Option ℕ → Option ℕ
next_place None = None
next_place (Some i) = Some (suc i)

-- the place among a user's rows, from 0, of the row in this slot, if that is one of them
abbrev pub user_place : ℕ → ℕ → List Row → Option ℕ
user_place u k [] = None
user_place u zero (r ∷ rs) = if r.user == u then Some 0 else None
user_place u (suc k) (r ∷ rs) = if r.user == u then next_place (user_place u k rs) else user_place u k rs
