-- The stored journal tells the journal of the service.
use Rattle.std.proofs.Common.{◌≡◌, ℕ, zero, suc, ◌+◌, ◌≤◌, List, [], ◌∷◌, ◌++◌, length, Option, Some, None, refl, sym, ap, ◌∙◌, arith}
use Rattle.std.specs.Prelude.{drop}
use Rattle.std.specs.List.{slice_get}
use Rattle.gw_step.specs.Job.{Job}
use Rattle.gw_jobs.specs.declared.journal.StoredEvent.{StoredEvent}
use Rattle.gw_jobs.specs.declared.journal.StoredEvent.TheVariants as stored
use Rattle.gw_jobs.specs.Journal.{submitted_by, events_of, counts_submit, submits_in}
use Rattle.gw_jobs.specs.Table.{service}
use Rattle.gw_service.specs.Rows.{Row, Jobs, change_row, new_row, taken_row, returned_row, cancelled_row}
use Rattle.gw_service.specs.Journal.{Service, Event, Submit, Take, Return, Cancel, apply, with_event, slot_if_ready, ready_without}

more-submitted : (o : Option Row) (es : List Event) (e : Event) → submitted_by o (es ++ e ∷ []) ≡ submitted_by o es ++ e ∷ []
more-submitted None es e = refl
more-submitted (Some r) es e = refl

-- a stored event is told as this event, and is no submit
pub record Tells (x : StoredEvent) (e : Event) : Type 0 where
  pub one : (rows : List Row) (es : List StoredEvent) → events_of rows (x ∷ es) ≡ e ∷ events_of rows es
  pub none : counts_submit x ≡ 0

pub tells_take : (k : ℕ) → Tells (stored.Take k) (Take k)
tells_take k = record { one = λ rows es. refl; none = refl }

pub tells_return : (k n : ℕ) → Tells (stored.Return k n) (Return k n)
tells_return k n = record { one = λ rows es. refl; none = refl }

pub tells_cancel : (k : ℕ) → Tells (stored.Cancel k) (Cancel k)
tells_cancel k = record { one = λ rows es. refl; none = refl }

more-events : (rows : List Row) (es : List StoredEvent) (x : StoredEvent) (e : Event) → Tells x e → events_of rows (es ++ x ∷ []) ≡ events_of rows es ++ e ∷ []
more-events rows [] x e t = t.one rows []
more-events rows (stored.Submit ∷ es) x e t = ap (submitted_by (slice_get rows 0)) (more-events (drop 1 rows) es x e t)
    ∙ more-submitted (slice_get rows 0) (events_of (drop 1 rows) es) e
more-events rows (stored.Take k ∷ es) x e t = ap (λ (xs : List Event). Take k ∷ xs) (more-events rows es x e t)
more-events rows (stored.Return k n ∷ es) x e t = ap (λ (xs : List Event). Return k n ∷ xs) (more-events rows es x e t)
more-events rows (stored.Cancel k ∷ es) x e t = ap (λ (xs : List Event). Cancel k ∷ xs) (more-events rows es x e t)

pub no-submit : (x : StoredEvent) (e : Event) → Tells x e → (es : List StoredEvent) → submits_in (es ++ x ∷ []) ≡ submits_in es
no-submit x e t [] = omega (arith, t.none)
no-submit x e t (y ∷ es) = omega (arith, no-submit x e t es)

-- what a change of a row leaves: its user and its job
pub record Keeps (f : Row → Row) : Type 0 where
  pub user : (r : Row) → (f r).user ≡ r.user
  pub job : (r : Row) → (f r).job ≡ r.job

same-submit : (f : Row → Row) → Keeps f → (r : Row) (es : List Event) → submitted_by (Some (f r)) es ≡ submitted_by (Some r) es
same-submit f keeps r es = rw (keeps.user r, keeps.job r) refl

events-changed : (k : ℕ) (f : Row → Row) → Keeps f → (rows : List Row) (es : List StoredEvent) → events_of (change_row k f rows) es ≡ events_of rows es
events-changed k f keeps rows [] = refl
events-changed k f keeps [] (stored.Submit ∷ es) = refl
events-changed zero f keeps (q ∷ rows) (stored.Submit ∷ es) = same-submit f keeps q (events_of rows es)
events-changed (suc k) f keeps (q ∷ rows) (stored.Submit ∷ es) = ap (submitted_by (Some q)) (events-changed k f keeps rows es)
events-changed k f keeps rows (stored.Take m ∷ es) = ap (λ (xs : List Event). Take m ∷ xs) (events-changed k f keeps rows es)
events-changed k f keeps rows (stored.Return m n ∷ es) = ap (λ (xs : List Event). Return m n ∷ xs) (events-changed k f keeps rows es)
events-changed k f keeps rows (stored.Cancel m ∷ es) = ap (λ (xs : List Event). Cancel m ∷ xs) (events-changed k f keeps rows es)

-- THE SERVICE AFTER A CHANGE

-- a row changed and the event was stored: that is the service after the event
changed-service : (k : ℕ) (f : Row → Row) → Keeps f
    → (rows : List Row) (ready queue : List ℕ) (journal : List StoredEvent) (x : StoredEvent) (e : Event) → Tells x e
    → apply e (service rows ready journal).now ≡ record { rows = change_row k f rows; ready = queue }
    → service (change_row k f rows) queue (journal ++ x ∷ []) ≡ with_event e (service rows ready journal)
changed-service k f keeps rows ready queue journal x e tells makes =
    let told : events_of (change_row k f rows) (journal ++ x ∷ []) ≡ events_of rows journal ++ e ∷ [] =
    more-events (change_row k f rows) journal x e tells ∙ ap (λ (xs : List Event). xs ++ e ∷ []) (events-changed k f keeps rows journal) in
    ap (λ (xs : List Event). let s : Service = record { now = record { rows = change_row k f rows; ready = queue }; journal = xs } in s) told
    ∙ ap (λ (l : Jobs). let s : Service = record { now = l; journal = events_of rows journal ++ e ∷ [] } in s) (sym makes)

pub take_service : (rows : List Row) (ready : List ℕ) (journal : List StoredEvent) (k : ℕ)
    → service (change_row k taken_row rows) (drop 1 ready) (journal ++ stored.Take k ∷ []) ≡ with_event (Take k) (service rows ready journal)
take_service rows ready journal k =
    changed-service k taken_row (record { user = λ r. refl; job = λ r. refl }) rows ready (drop 1 ready) journal (stored.Take k) (Take k) (tells_take k) refl

pub return_service : (rows : List Row) (ready : List ℕ) (journal : List StoredEvent) (k n : ℕ)
    → service (change_row k (returned_row n) rows) (ready ++ slot_if_ready k (slice_get (change_row k (returned_row n) rows) k))
    (journal ++ stored.Return k n ∷ []) ≡ with_event (Return k n) (service rows ready journal)
return_service rows ready journal k n =
    changed-service k (returned_row n) (record { user = λ r. refl; job = λ r. refl }) rows ready
    (ready ++ slot_if_ready k (slice_get (change_row k (returned_row n) rows) k)) journal (stored.Return k n) (Return k n) (tells_return k n) refl

pub cancel_service : (rows : List Row) (ready : List ℕ) (journal : List StoredEvent) (k : ℕ)
    → service (change_row k cancelled_row rows) (ready_without k ready) (journal ++ stored.Cancel k ∷ []) ≡ with_event (Cancel k) (service rows ready journal)
cancel_service rows ready journal k =
    changed-service k cancelled_row (record { user = λ r. refl; job = λ r. refl }) rows ready (ready_without k ready) journal
    (stored.Cancel k) (Cancel k) (tells_cancel k) refl

-- SUBMIT

more-submits : (rows : List Row) (es : List StoredEvent) (r : Row) → submits_in es ≡ length rows
    → events_of (rows ++ r ∷ []) (es ++ stored.Submit ∷ []) ≡ events_of rows es ++ Submit r.user r.job ∷ []
more-submits [] [] r h = refl
more-submits (q ∷ rows) [] r h = absurd (omega (arith, h))
more-submits [] (stored.Submit ∷ es) r h = absurd (omega (arith, h))
more-submits (q ∷ rows) (stored.Submit ∷ es) r h = ap (submitted_by (Some q)) (more-submits rows es r (omega (arith, h)))
    ∙ more-submitted (Some q) (events_of rows es) (Submit r.user r.job)
more-submits rows (stored.Take k ∷ es) r h = ap (λ (xs : List Event). Take k ∷ xs) (more-submits rows es r (omega (arith, h)))
more-submits rows (stored.Return k n ∷ es) r h = ap (λ (xs : List Event). Return k n ∷ xs) (more-submits rows es r (omega (arith, h)))
more-submits rows (stored.Cancel k ∷ es) r h = ap (λ (xs : List Event). Cancel k ∷ xs) (more-submits rows es r (omega (arith, h)))

pub one-submit : (es : List StoredEvent) → submits_in (es ++ stored.Submit ∷ []) ≡ submits_in es + 1
one-submit [] = refl
one-submit (e ∷ es) = omega (arith, one-submit es)

pub submit_service : (rows : List Row) (ready : List ℕ) (journal : List StoredEvent) (u : ℕ) (j : Job) → submits_in journal ≡ length rows
    → service (rows ++ new_row u j ∷ []) (ready ++ slot_if_ready (length rows) (Some (new_row u j))) (journal ++ stored.Submit ∷ [])
    ≡ with_event (Submit u j) (service rows ready journal)
submit_service rows ready journal u j h =
    ap (λ (xs : List Event). let s : Service =
    record {
      now = record { rows = rows ++ new_row u j ∷ []; ready = ready ++ slot_if_ready (length rows) (Some (new_row u j)) };
      journal =
          xs;
    } in s) (more-submits rows journal (new_row u j) h)

-- LENGTH

pub length-events : (rows : List Row) (es : List StoredEvent) → submits_in es ≤ length rows → length (events_of rows es) ≡ length es
length-events rows [] h = refl
length-events [] (stored.Submit ∷ es) h = absurd (omega (arith, h))
length-events (q ∷ rows) (stored.Submit ∷ es) h = ap suc (length-events rows es (omega (arith, h)))
length-events rows (stored.Take k ∷ es) h = ap suc (length-events rows es (omega (arith, h)))
length-events rows (stored.Return k n ∷ es) h = ap suc (length-events rows es (omega (arith, h)))
length-events rows (stored.Cancel k ∷ es) h = ap suc (length-events rows es (omega (arith, h)))
