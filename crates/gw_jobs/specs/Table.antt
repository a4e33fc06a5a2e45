-- The service that a table is.
use Rattle.std.specs.Prelude.{◌≡◌, ℕ, List, ◌+◌, ◌≤◌, length, vec_len, vec_capacity}
use Rattle.gw_service.specs.Rows.{Row, out_of, steps_of}
use Rattle.gw_service.specs.Journal.{Service, AllSubmitAccepted}
use Rattle.gw_service.specs.Keeping.{IsKept}
use Rattle.gw_jobs.specs.declared.journal.StoredEvent.{StoredEvent}
use Rattle.gw_jobs.specs.declared.table.Table.TheInside.{Inside}
use Rattle.gw_jobs.specs.Journal.{events_of, submits_in}

-- the service of these rows, this ready list, and this stored journal
abbrev pub service : List Row → List ℕ → List StoredEvent → Service
service rows ready journal = record { now = record { rows = rows; ready = ready }; journal = events_of rows journal }

-- the service that a table is
abbrev pub service_of : Inside → Service
service_of t = service t.rows.items t.ready.items t.journal.items

-- rows, ready list and stored journal belong together: they are a service as sound calls keep it, in which each job is
-- one of an accepted object, and there is a row for each submit; so many rows are out, and so many steps were given
-- back
pub record AreKept (rows : List Row) (ready : List ℕ) (journal : List StoredEvent) (out : ℕ) (steps : ℕ) : Type 0 where
  pub kept : IsKept (service rows ready journal)
  pub accepted : AllSubmitAccepted (service rows ready journal).journal
  pub submits : submits_in journal ≡ length rows
  pub out_is : out ≡ out_of rows
  pub steps_is : steps ≡ steps_of rows

-- and there is room for what comes back, so that a return takes no memory
pub record IsTable (t : Inside) : Type 0 where
  pub kept : AreKept t.rows.items t.ready.items t.journal.items t.out t.steps
  pub journal_room : vec_len t.journal + t.out ≤ vec_capacity t.journal
  pub ready_room : vec_len t.ready + t.out ≤ vec_capacity t.ready
