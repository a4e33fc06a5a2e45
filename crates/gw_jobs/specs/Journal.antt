-- The journal as it is stored: the user and the job of a submit stand in its row.
use Rattle.std.specs.Prelude.{ℕ, ◌+◌, List, [], ◌∷◌, drop, Option, Some, None}
use Rattle.std.specs.List.{slice_get}
use Rattle.gw_service.specs.Rows.{Row}
use Rattle.gw_service.specs.Journal.{Event, Submit, Take, Return, Cancel}
use Rattle.gw_jobs.specs.declared.journal.StoredEvent.{StoredEvent}
use Rattle.gw_jobs.specs.declared.journal.StoredEvent.TheVariants as stored

-- the event of a submit, whose row is the first, before later ones
abbrev pub submitted_by : Option Row → List Event → List Event
submitted_by None es = es
submitted_by (Some r) es = Submit r.user r.job ∷ es

-- the events that a stored journal tells, where these are the rows of its submits, in order
abbrev pub events_of : List Row → List StoredEvent → List Event
events_of rows [] = []
events_of rows (stored.Submit ∷ es) = submitted_by (slice_get rows 0) (events_of (drop 1 rows) es)
events_of rows (stored.Take k ∷ es) = Take k ∷ events_of rows es
events_of rows (stored.Return k n ∷ es) = Return k n ∷ events_of rows es
events_of rows (stored.Cancel k ∷ es) = Cancel k ∷ events_of rows es

-- 1 for a submit
abbrev pub counts_submit : StoredEvent → ℕ
counts_submit stored.Submit = 1
counts_submit (stored.Take k) = 0
counts_submit (stored.Return k n) = 0
counts_submit (stored.Cancel k) = 0

-- how many submits a stored journal has
abbrev pub submits_in : List StoredEvent → ℕ
submits_in [] = 0
submits_in (e ∷ es) = counts_submit e + submits_in es
