-- What is known of the event of a call, and a call by its event.
use Rattle.std.proofs.Common.{◌≡◌, ℕ, ◌≤◌, List, [], ◌∷◌, drop, Option, Some, None, Bool, true, false, refl, sym, ap, subst, ◌∙◌, arith}
use Rattle.std.specs.Prelude.{nat_le, ◌==◌, ◌&&◌, if◌then◌else◌, Ok, Err}
use Rattle.std.specs.List.{slice_get}
use Rattle.std.proofs.lemmas.Bool.Decides.{nat_tests}
use Rattle.gw_step.specs.Job.{Job}
use Rattle.gw_service.specs.declared.faults.JobFault.{JobFault}
use Rattle.gw_service.specs.declared.faults.JobFault.TheVariants as faults
use Rattle.gw_equality.specs.Jobs.{same_job}
use Rattle.gw_service.specs.Rows.{Standing, Ready, Out, Ended, Cancelled, CancelledOut, Row, is_out, is_cancellable, returned_row, own_row}
use Rattle.gw_service.specs.Journal.{Service, Event, Submit, Take, Return, Cancel, with_event}
use Rattle.gw_service.specs.Calls.{Pass, is_journal_full, admit, submit_fault, standing_fault, own_cancel_fault, journal_limit, cancel_fault}
use Rattle.gw_service.specs.Calls.{first_fault, take_from, fits_row, receipt_of, receipt_for}
use Rattle.gw_service.specs.Machine.{Call, Submits, Polls, Collects, Cancels, Takes, GivesBack, event_unless, take_event, return_event, event_of}
use Rattle.gw_service.specs.Machine.{after_event, next, all_next}

-- a list of calls keeps what each call keeps
pub all_keep : (P : Service → Type 0) → ((c : Call) (s : Service) → P s → P (next c s)) → (cs : List Call) (s : Service) → P s → P (all_next cs s)
all_keep P keeps [] s h = h
all_keep P keeps (c ∷ cs) s h = all_keep P keeps cs (next c s) (keeps c s h)

-- GROUNDS

pub record TakeGrounds (k : ℕ) (s : Service) : Type 0 where
  pub first : s.now.ready ≡ k ∷ drop 1 s.now.ready
  pub room : is_journal_full 2 s ≡ false

pub record ReturnGrounds (k n : ℕ) (s : Service) : Type 0 where
  pub row : Row
  pub here : slice_get s.now.rows k ≡ Some row
  pub out : is_out row.standing ≡ true
  pub least : row.steps ≤ n

pub record CancelGrounds (k : ℕ) (s : Service) : Type 0 where
  pub row : Row
  pub here : slice_get s.now.rows k ≡ Some row
  pub live : is_cancellable row.standing ≡ true
  pub room : is_journal_full 1 s ≡ false

abbrev pub Grounds : Event → Service → Type 0
Grounds (Submit u j) s = submit_fault u s ≡ None
Grounds (Take k) s = TakeGrounds k s
Grounds (Return k n) s = ReturnGrounds k n s
Grounds (Cancel k) s = CancelGrounds k s

-- SUBMIT

submit_grounds : (fault : Option JobFault) (u : ℕ) (j : Job) (s : Service) (e : Event) → submit_fault u s ≡ fault
    → event_unless fault (Submit u j) ≡ Some e → Grounds e s
submit_grounds None u j s e is h =
    let same : Submit u j ≡ e = cc in
    subst (λ (x : Event). Grounds x s) same is
submit_grounds (Some fault) u j s e is h = absurd cc

-- CANCEL

-- a row may be cancelled, and there is no other fault
pub record IsCancelled (t : Standing) (limit : Option JobFault) : Type 0 where
  pub live : is_cancellable t ≡ true
  pub none : limit ≡ None

by_standing : (t : Standing) (limit : Option JobFault) → first_fault (standing_fault t) limit ≡ None → IsCancelled t limit
by_standing Ready limit h = record { live = refl; none = h }
by_standing Out limit h = record { live = refl; none = h }
by_standing Ended limit h = absurd cc
by_standing Cancelled limit h = absurd cc
by_standing CancelledOut limit h = absurd cc

by_job : (same : Bool) (r : Row) (limit : Option JobFault)
    → first_fault (own_cancel_fault (if same then Ok r else Err faults.Stranger)) limit ≡ None → IsCancelled r.standing limit
by_job true r limit h = by_standing r.standing limit h
by_job false r limit h = absurd cc

by_user : (own : Bool) (j : Job) (r : Row) (limit : Option JobFault)
    → first_fault (own_cancel_fault (admit j (if own then Some r else None))) limit ≡ None → IsCancelled r.standing limit
by_user true j r limit h = by_job (same_job r.job j) r limit h
by_user false j r limit h = absurd cc

has_room : (full : Bool) → (if full then Some faults.JournalFull else None) ≡ None → full ≡ false
has_room true h = absurd cc
has_room false h = refl

by_row : (o : Option Row) (p : Pass) (s : Service) → slice_get s.now.rows p.slot ≡ o
    → first_fault (own_cancel_fault (admit p.job (own_row p.user o))) (journal_limit (is_journal_full 1 s)) ≡ None → CancelGrounds p.slot s
by_row None p s is h = absurd cc
by_row (Some r) p s is h =
    let c = by_user (r.user == p.user) p.job r (journal_limit (is_journal_full 1 s)) h in
    record { row = r; here = is; live = c.live; room = has_room (is_journal_full 1 s) c.none }

cancel_grounds : (fault : Option JobFault) (p : Pass) (s : Service) (e : Event) → cancel_fault p s ≡ fault
    → event_unless fault (Cancel p.slot) ≡ Some e → Grounds e s
cancel_grounds None p s e is h =
    let same : Cancel p.slot ≡ e = cc in
    subst (λ (x : Event). Grounds x s) same (by_row (slice_get s.now.rows p.slot) p s refl is)
cancel_grounds (Some fault) p s e is h = absurd cc

-- TAKE

take_grounds : (ready : List ℕ) (full : Bool) (s : Service) (e : Event) → s.now.ready ≡ ready → is_journal_full 2 s ≡ full
    → take_event (take_from ready full) ≡ Some e → Grounds e s
take_grounds [] full s e is room h = absurd cc
take_grounds (k ∷ ks) true s e is room h = absurd cc
take_grounds (k ∷ ks) false s e is room h =
    let same : Take k ≡ e = cc in
    let first : s.now.ready ≡ k ∷ drop 1 s.now.ready = is ∙ ap (λ (xs : List ℕ). k ∷ drop 1 xs) (sym is) in
    subst (λ (x : Event). Grounds x s) same (record { first = first; room = room })

-- GIVE BACK

-- the row that a task fits
pub record Fits (k : ℕ) (j : Job) (n : ℕ) (s : Service) (e : Event) : Type 0 where
  pub event : Return k n ≡ e
  pub row : Row
  pub here : slice_get s.now.rows k ≡ Some row
  pub out : is_out row.standing ≡ true
  pub job : same_job row.job j ≡ true
  pub least : row.steps ≤ n

first_true : (a b c : Bool) → (a && b && c) ≡ true → a ≡ true
first_true true b c h = refl
first_true false b c h = absurd cc

second_true : (a b c : Bool) → (a && b && c) ≡ true → b ≡ true
second_true true true c h = refl
second_true true false c h = absurd cc
second_true false b c h = absurd cc

third_true : (a b c : Bool) → (a && b && c) ≡ true → c ≡ true
third_true true true c h = h
third_true true false c h = absurd cc
third_true false b c h = absurd cc

le_true : (m n : ℕ) → nat_le m n ≡ true → m ≤ n
le_true m n h = grind (arith, nat_tests)

fits_event : (b : Bool) (k n : ℕ) (j : Job) (r : Row) (e : Event)
    → return_event (if b then Some (receipt_of k (returned_row n r)) else None) ≡ Some e → (b ≡ true) × (Return k n ≡ e)
fits_event true k n j r e h = (refl, cc)
fits_event false k n j r e h = absurd cc

fits_at : (o : Option Row) (k : ℕ) (j : Job) (n : ℕ) (s : Service) (e : Event) → slice_get s.now.rows k ≡ o
    → return_event (receipt_for k j n o) ≡ Some e → Fits k j n s e
fits_at None k j n s e is h = absurd cc
fits_at (Some r) k j n s e is h =
    let f = fits_event (fits_row j n r) k n j r e h in
    record {
      event = f.1;
      row = r;
      here = is;
      out = first_true (is_out r.standing) (same_job r.job j) (nat_le r.steps n) f.0;
      job = second_true (is_out r.standing) (same_job r.job j) (nat_le r.steps n) f.0;
      least = le_true r.steps n (third_true (is_out r.standing) (same_job r.job j) (nat_le r.steps n) f.0);
    }

pub fits : (k : ℕ) (j : Job) (n : ℕ) (s : Service) (e : Event) → event_of (GivesBack k j n) s ≡ Some e → Fits k j n s e
fits k j n s e h = fits_at (slice_get s.now.rows k) k j n s e refl h

return_grounds : (k : ℕ) (j : Job) (n : ℕ) (s : Service) (e : Event) → Fits k j n s e → Grounds e s
return_grounds k j n s e f = subst (λ (x : Event). Grounds x s) f.event (record { row = f.row; here = f.here; out = f.out; least = f.least })

-- ALL CALLS

pub grounds : (c : Call) (s : Service) (e : Event) → event_of c s ≡ Some e → Grounds e s
grounds (Submits u j) s e h = submit_grounds (submit_fault u s) u j s e refl h
grounds (Polls p) s e h = absurd cc
grounds (Collects p) s e h = absurd cc
grounds (Cancels p) s e h = cancel_grounds (cancel_fault p s) p s e refl h
grounds Takes s e h = take_grounds s.now.ready (is_journal_full 2 s) s e refl refl h
grounds (GivesBack k j n) s e h = return_grounds k j n s e (fits k j n s e h)

by_event : (P : Service → Type 0) (o : Option Event) (s : Service) → ((e : Event) → o ≡ Some e → P (with_event e s)) → P s → P (after_event o s)
by_event P None s f h = h
by_event P (Some e) s f h = f e refl

-- a call keeps what its event keeps
pub call_keeps : (P : Service → Type 0) (c : Call) (s : Service) → ((e : Event) → Grounds e s → P (with_event e s)) → P s → P (next c s)
call_keeps P c s f h = by_event P (event_of c s) s (λ e is. f e (grounds c s e is)) h
