-- What each call keeps of a table.
use Rattle.std.proofs.Common.{◌≡◌, ℕ, zero, suc, ◌+◌, ◌*◌, ◌≤◌, List, [], ◌∷◌, ◌++◌, length, set, get_or, Option, Some, None, Bool, true, false, refl}
use Rattle.std.proofs.Common.{sym, ap, subst, ◌∙◌, arith}
use Rattle.std.specs.Prelude.{IsSome, MatchOption, IfOk, is_err, Result, Ok, Err, nat_lt, nat_le, ◌<◌, ◌&&◌, ◌==◌, ◌^◌, drop, sum_by, if◌then◌else◌}
use Rattle.std.specs.List.{slice_get, filter}
use Rattle.std.proofs.lemmas.List.Sums.{sum_by-cons}
use Rattle.std.proofs.lemmas.List.{length_push}
use Rattle.std.proofs.lemmas.Option.{get_or_from_slice_get}
use Rattle.gw_step.specs.State.{State}
use Rattle.gw_step.specs.Job.{Job, JobFits, Progress, IsReached, after, start_of}
use Rattle.gw_step.proofs.Rests.{start_steps}
use Rattle.gw_equality.specs.Jobs.{same_job}
use Rattle.gw_equality.proofs.Jobs.{job_apart}
use Rattle.gw_jobs.specs.declared.journal.StoredEvent.{StoredEvent}
use Rattle.gw_jobs.specs.declared.journal.StoredEvent.TheVariants as stored
use Rattle.gw_jobs.specs.Journal.{submits_in}
use Rattle.gw_jobs.specs.Table.{service, AreKept}
use Rattle.gw_jobs.specs.Running.{runs_for}
use Rattle.gw_jobs.specs.Answers.{IsStateIn, GoesOut, IsOutWith, Fits, IsReceiptOf, ComesBack}
use Rattle.gw_jobs.proofs.Stored.{tells_take, tells_return, tells_cancel, no-submit, one-submit, take_service, return_service, cancel_service}
use Rattle.gw_jobs.proofs.Stored.{submit_service, length-events}
use Rattle.gw_service.specs.declared.faults.JobFault.{JobFault}
use Rattle.gw_service.specs.declared.faults.JobFault.TheVariants as faults
use Rattle.gw_service.specs.Rows.{Row, change_row, new_row, taken_row, returned_row, cancelled_row, is_ready, is_out, is_running, out_of, steps_of}
use Rattle.gw_service.specs.Rows.{own_row, rows_of, running_in, standing_at}
use Rattle.gw_service.specs.Journal.{Service, Event, Submit, Take, Return, Cancel, HasState, SubmitsAccepted, AllSubmitAccepted, slot_if_ready}
use Rattle.gw_service.specs.Journal.{ready_without, with_event}
use Rattle.gw_service.specs.Calls.{Pass, Receipt, admit, row_in, most_events, is_journal_full, submit_refusal, submit_fault, cancel_refusal}
use Rattle.gw_service.specs.Calls.{cancel_fault, take_from, take_reply, fits_row, receipt_of, receipt_for, give_back_reply, Refuses, RefusesTake}
use Rattle.gw_service.specs.Machine.{Submits, Cancels, Takes, GivesBack, take_event, return_event, event_unless}
use Rattle.gw_service.specs.Keeping.{counts_ready, IsKept, AreReached, IsSound, steps_in}
use Rattle.gw_service.proofs.Rows.{self_equal}
use Rattle.gw_service.proofs.Changing.{length-changed, sum-changed}
use Rattle.gw_service.proofs.Grounds.{TakeGrounds, ReturnGrounds, CancelGrounds, grounds}
use Rattle.gw_service.proofs.Listing.{ReadyRow, one_ready, taken_ready}
use Rattle.gw_service.proofs.Totals.{counts_out, steps_by, submit_out, take_out, return_out, cancel_out, submit_steps, take_steps, return_steps, cancel_steps}
use Rattle.gw_service.proofs.History.{accepted-added}
use Rattle.gw_service.proofs.Kept.{next_kept}
use Rattle.gw_service.proofs.Nexts.{next_submit, next_cancel, next_take, next_give_back}

-- PASSES

-- equal specs are the same job
pub same_is : (a b : Job) → same_job a b ≡ true → b ≡ a
same_is a b h = sym ((job_apart a b).0 h)

other-job : (b : Bool) (r : Row) → b ≡ false → (if b then Ok r else Err faults.Stranger) ≡ Err faults.Stranger
other-job true r h = absurd cc
other-job false r h = refl

own-other : (b : Bool) (p : Pass) (r : Row) → b ≡ true → same_job r.job p.job ≡ false → admit p.job (if b then Some r else None) ≡ Err faults.Stranger
own-other true p r h other = other-job (same_job r.job p.job) r other
own-other false p r h other = absurd cc

-- a pass for a user's row with another job is refused
pub is_stranger : (p : Pass) (rows : List Row) (r : Row) → slice_get rows p.slot ≡ Some r → r.user ≡ p.user → same_job r.job p.job ≡ false
    → row_in p rows ≡ Err faults.Stranger
is_stranger p rows r here user other =
    let own : (r.user == p.user) ≡ true = subst (λ (u : ℕ). (r.user == u) ≡ true) user (self_equal r.user) in
    ap (λ (o : Option Row). admit p.job (own_row p.user o)) here ∙ own-other (r.user == p.user) p r own other

-- RUNNING

one-more : (a b : Bool) (r : Row) (rows : List Row) (u : ℕ) → a ≡ (r.user == u) → b ≡ is_running r.standing → running_in (rows_of u rows)
    ≡ length (filter (runs_for u) rows)
    → length (filter (λ (q : Row). is_running q.standing) (if a then r ∷ rows_of u rows else rows_of u rows))
    ≡ length (if a && b then r ∷ filter (runs_for u) rows else filter (runs_for u) rows)
one-more true true r rows u own is h = rw (sym is) (ap suc h)
one-more true false r rows u own is h = rw (sym is) h
one-more false b r rows u own is h = h

pub running_twice : (u : ℕ) (rows : List Row) → running_in (rows_of u rows) ≡ length (filter (runs_for u) rows)
running_twice u [] = refl
running_twice u (r ∷ rows) = one-more (r.user == u) (is_running r.standing) r rows u refl refl (running_twice u rows)

-- ONE ROW CHANGED

pub set-changed : (k : ℕ) (f : Row → Row) (rows : List Row) (r : Row) → slice_get rows k ≡ Some r → set rows k (f r) ≡ change_row k f rows
set-changed k f [] r h = refl
set-changed zero f (q ∷ rows) r h = let same : q ≡ r = cc in ap (λ (x : Row). f x ∷ rows) (sym same)
set-changed (suc k) f (q ∷ rows) r h = ap (λ (xs : List Row). q ∷ xs) (set-changed k f rows r h)

pub changed-at : (rows : List Row) (k : ℕ) (f : Row → Row) (x new r : Row) → slice_get rows k ≡ Some r → x ≡ get_or rows k x → new ≡ f x
    → set rows k new ≡ change_row k f rows
changed-at rows k f x new r here old is = ap (set rows k) (is ∙ ap f (old ∙ get_or_from_slice_get rows k r x here)) ∙ set-changed k f rows r here

pub ready_row : (o : Option Row) → counts_ready o ≡ 1 → ReadyRow o
ready_row o h = one_ready o (omega (arith, h))

pub out_row : (j : Job) (o : Option Row) → IsOutWith j o → (r : Row) × (o ≡ Some r) × (j ≡ r.job) × (is_out r.standing ≡ true)
out_row j None h = absurd h
out_row j (Some r) h = (r, refl, h.0, h.1)

pub some_row : (o : Option Row) → IsSome o → (r : Row) × (o ≡ Some r)
some_row None h = absurd cc
some_row (Some r) h = (r, refl)

pub has_state : (sim : Progress) (o : Option Row) (r : Row) → o ≡ Some r → sim.job ≡ r.job → sim.state.steps ≡ r.steps → IsStateIn sim o
has_state sim o r is job steps = subst (IsStateIn sim) (sym is) (job, steps)

pub state_in : (sim : Progress) (o : Option Row) (r : Row) → o ≡ Some r → IsStateIn sim o → (sim.job ≡ r.job) × (sim.state.steps ≡ r.steps)
state_in sim o r is h = subst (IsStateIn sim) is h

-- LIMITS

-- the stored journal is full exactly where the service's is
pub full_is : (rows : List Row) (ready : List ℕ) (journal : List StoredEvent) (out steps need : ℕ) → AreKept rows ready journal out steps
    → nat_lt most_events (length journal + out + need) ≡ is_journal_full need (service rows ready journal)
full_is rows ready journal out steps need kept =
    let most : submits_in journal ≤ length rows = omega (arith, kept.submits) in
    let same : length journal + out + need ≡ length (service rows ready journal).journal + out_of rows + need =
    omega (arith, kept.out_is, length-events rows journal most) in
    ap (nat_lt most_events) same

-- ACCEPTED OBJECTS

-- each job of a service is one of an accepted object, also after an event that submits no other
accepted_after : (e : Event) (s t : Service) → t ≡ with_event e s → AllSubmitAccepted s.journal → SubmitsAccepted e → AllSubmitAccepted t.journal
accepted_after e s t is all one = subst (λ (x : Service). AllSubmitAccepted x.journal) (sym is) (accepted-added s.journal e all one)

-- TAKE

pub take_reply_is : (rows : List Row) (ready : List ℕ) (journal : List StoredEvent) (out steps : ℕ) (full : Bool)
    → AreKept rows ready journal out steps → full ≡ nat_lt most_events (length journal + out + 2) → take_from ready full
    ≡ take_reply (service rows ready journal)
take_reply_is rows ready journal out steps full kept is = ap (take_from ready) (is ∙ full_is rows ready journal out steps 2 kept)

-- what a take needs of the table: a ready row at the slot
pub record TakesRow (rows : List Row) (ready : List ℕ) (k : ℕ) : Type 0 where
  pub first : ready ≡ k ∷ drop 1 ready
  pub row : Row
  pub here : slice_get rows k ≡ Some row
  pub free : is_ready row.standing ≡ true

take_grounds : (s : Service) (k : ℕ) → take_reply s ≡ Ok (Some k) → TakeGrounds k s
take_grounds s k told = grounds Takes s (Take k) (ap take_event told)

pub takes_row : (rows : List Row) (ready : List ℕ) (journal : List StoredEvent) (out steps k : ℕ) → AreKept rows ready journal out steps
    → take_reply (service rows ready journal) ≡ Ok (Some k) → TakesRow rows ready k
takes_row rows ready journal out steps k kept told =
    let g = take_grounds (service rows ready journal) k told in
    let r = taken_ready k (service rows ready journal) kept.kept.listed g in
    record { first = g.first; row = r.row; here = r.here; free = r.ready }

pub take_kept : (rows : List Row) (ready : List ℕ) (journal : List StoredEvent) (out steps k : ℕ) → AreKept rows ready journal out steps
    → take_reply (service rows ready journal) ≡ Ok (Some k)
    → AreKept (change_row k taken_row rows) (drop 1 ready) (journal ++ stored.Take k ∷ []) (out + 1) steps
take_kept rows ready journal out steps k kept told =
    let s = service rows ready journal in
    let r = taken_ready k s kept.kept.listed (take_grounds s k told) in
    record {
      kept = subst IsKept (next_take k s told ∙ sym (take_service rows ready journal k)) (next_kept Takes s tt kept.kept);
      accepted = accepted_after (Take k) s _ (take_service rows ready journal k) kept.accepted tt;
      submits = no-submit (stored.Take k) (Take k) (tells_take k) journal ∙ kept.submits ∙ sym (length-changed k taken_row rows);
      out_is = omega (arith, kept.out_is, take_out k s r);
      steps_is = kept.steps_is ∙ sym (take_steps k rows);
    }

pub books_out : (rows : List Row) (ready : List ℕ) (journal : List StoredEvent) (out steps k : ℕ) → AreKept rows ready journal out steps
    → take_reply (service rows ready journal) ≡ Ok (Some k)
    → GoesOut (service rows ready journal) (with_event (Take k) (service rows ready journal))
books_out rows ready journal out steps k kept told =
    let s = service rows ready journal in
    record { out = take_out k s (taken_ready k s kept.kept.listed (take_grounds s k told)); steps = take_steps k rows }

pub counts_row : (o : Option Row) (r : Row) → o ≡ Some r → is_ready r.standing ≡ true → counts_ready o ≡ 1
counts_row o r is free = ap counts_ready is ∙ ap (λ (b : Bool). if b then suc zero else zero) free

pub refuses_take : (t : Result (Option ℕ) JobFault) (fault : JobFault) → t ≡ Err fault → RefusesTake t fault
refuses_take t fault is = subst (λ (x : Result (Option ℕ) JobFault). RefusesTake x fault) (sym is) refl

pub memory_refuses_take : (t : Result (Option ℕ) JobFault) (k : ℕ) → t ≡ Ok (Some k) → RefusesTake t faults.Memory
memory_refuses_take t k is = subst (λ (x : Result (Option ℕ) JobFault). RefusesTake x faults.Memory) (sym is) refl

-- GIVE BACK

-- a task is sound
task_sound : (p : Progress) (k : ℕ) → IsReached p → IsSound (GivesBack k p.job p.state.steps)
task_sound p k h = (
  omega (arith, h.bounded.steps, h.fits.budget_most),
  λ i same. subst (λ (x : Job). HasState x p.state.steps) (same_is i p.job same) (record { state = p.state; alone = h.alone }),
)

-- the row that a task fits
pub record FitsRow (rows : List Row) (k : ℕ) (j : Job) (n before : ℕ) : Type 0 where
  pub row : Row
  pub here : slice_get rows k ≡ Some row
  pub fits : fits_row j n row ≡ true
  pub before_is : before ≡ row.steps

fits_some : (o : Option Row) (rows : List Row) (k : ℕ) (j : Job) (n before : ℕ) → slice_get rows k ≡ o → Fits j n before o → FitsRow rows k j n before
fits_some None rows k j n before is h = absurd h
fits_some (Some r) rows k j n before is h = record { row = r; here = is; fits = h.0; before_is = h.1 }

pub fits_at : (rows : List Row) (k : ℕ) (j : Job) (n before : ℕ) → Fits j n before (slice_get rows k) → FitsRow rows k j n before
fits_at rows k j n before h = fits_some (slice_get rows k) rows k j n before refl h

pub fits_given : (before k n : ℕ) (j : Job) (rows : List Row) (o : Option ℕ) → o ≡ Some before
    → MatchOption o (receipt_for k j n (slice_get rows k) ≡ None) (λ steps. Fits j n steps (slice_get rows k)) → FitsRow rows k j n before
fits_given before k n j rows o is h =
    fits_at rows k j n before
    (subst (λ (x : Option ℕ). MatchOption x (receipt_for k j n (slice_get rows k) ≡ None) (λ steps. Fits j n steps (slice_get rows k))) is h)

if_true : {A : Type 0} (b : Bool) (x y : A) → b ≡ true → (if b then x else y) ≡ x
if_true true x y h = refl
if_true false x y h = absurd cc

pub reply_is : (rows : List Row) (ready : List ℕ) (journal : List StoredEvent) (k : ℕ) (j : Job) (n before : ℕ)
    (f : FitsRow rows k j n before) → give_back_reply k j n (service rows ready journal) ≡ Some (receipt_of k (returned_row n f.row))
reply_is rows ready journal k j n before f = ap (receipt_for k j n) f.here
    ∙ if_true (fits_row j n f.row) (Some (receipt_of k (returned_row n f.row))) None f.fits

return_grounds : (rows : List Row) (ready : List ℕ) (journal : List StoredEvent) (k : ℕ) (j : Job) (n before : ℕ)
    → FitsRow rows k j n before → ReturnGrounds k n (service rows ready journal)
return_grounds rows ready journal k j n before f =
    grounds (GivesBack k j n) (service rows ready journal) (Return k n) (ap return_event (reply_is rows ready journal k j n before f))

and_out : (a b c : Bool) → (a && b && c) ≡ true → (a ≡ true) × (b ≡ true)
and_out true true c h = (refl, refl)
and_out true false c h = absurd cc
and_out false b c h = absurd cc

pub fits_out : (rows : List Row) (k : ℕ) (j : Job) (n before : ℕ) → FitsRow rows k j n before → IsOutWith j (slice_get rows k)
fits_out rows k j n before f =
    let both = and_out (is_out f.row.standing) (same_job f.row.job j) (nat_le f.row.steps n) f.fits in
    subst (IsOutWith j) (sym f.here) (same_is f.row.job j both.1, both.0)

sum-at : (g : Row → ℕ) (rows : List Row) (k : ℕ) (r : Row) → slice_get rows k ≡ Some r → g r ≤ sum_by g rows
sum-at g [] k r h = absurd cc
sum-at g (q ∷ rows) zero r h = let same : q ≡ r = cc in subst (λ (x : Row). g x ≤ sum_by g (q ∷ rows)) same (omega (arith, sum_by-cons g q rows))
sum-at g (q ∷ rows) (suc k) r h = omega (arith, sum-at g rows k r h, sum_by-cons g q rows)

steps_most : (rows : List Row) → AreReached rows → steps_of rows ≤ length rows * 2 ^ 40
steps_most [] h = omega arith
steps_most (q ∷ rows) h = omega (arith, h.0.most, steps_most rows h.1, sum_by-cons steps_by q rows)

-- what a table knows of a task that comes back
pub record IsCounted (before out steps : ℕ) : Type 0 where
  pub counted : before ≤ steps
  pub some_out : 1 ≤ out
  pub few_steps : steps < 2 ^ 64

pub comes_back : (rows : List Row) (ready : List ℕ) (journal : List StoredEvent) (out steps k before n : ℕ) (j : Job)
    → AreKept rows ready journal out steps → FitsRow rows k j n before → IsCounted before out steps
comes_back rows ready journal out steps k before n j kept f = record {
  counted = omega (arith, f.before_is, kept.steps_is, sum-at steps_by rows k f.row f.here);
  some_out = omega (arith, kept.out_is, return_out k n (service rows ready journal) (return_grounds rows ready journal k j n before f));
  few_steps = omega (arith, kept.steps_is, steps_most rows kept.kept.reached, kept.kept.within.jobs);
}

pub return_kept : (rows : List Row) (ready : List ℕ) (journal : List StoredEvent) (out left steps total k before : ℕ) (p : Progress)
    → AreKept rows ready journal out steps
    → FitsRow rows k p.job p.state.steps before → IsReached p → left + 1 ≡ out → total + before ≡ steps + p.state.steps
    → AreKept (change_row k (returned_row p.state.steps) rows)
    (ready ++ slot_if_ready k (slice_get (change_row k (returned_row p.state.steps) rows) k)) (journal ++ stored.Return k p.state.steps ∷ []) left total
return_kept rows ready journal out left steps total k before p kept f reached less more =
    let s = service rows ready journal in
    let j = p.job in
    let n = p.state.steps in
    let g = return_grounds rows ready journal k j n before f in
    let next = next_give_back k j n s (receipt_of k (returned_row n f.row)) (reply_is rows ready journal k j n before f) in
    record {
      kept = subst IsKept (next ∙ sym (return_service rows ready journal k n)) (next_kept (GivesBack k j n) s (task_sound p k reached) kept.kept);
      accepted = accepted_after (Return k n) s _ (return_service rows ready journal k n) kept.accepted tt;
      submits = no-submit (stored.Return k n) (Return k n) (tells_return k n) journal ∙ kept.submits ∙ sym (length-changed k (returned_row n) rows);
      out_is = omega (arith, less, kept.out_is, return_out k n s g);
      steps_is = omega (arith, more, kept.steps_is, f.before_is, sum-changed steps_by k (returned_row n) rows f.row f.here);
    }

pub books_back : (rows : List Row) (ready : List ℕ) (journal : List StoredEvent) (k : ℕ) (j : Job) (n before : ℕ) → FitsRow rows k j n before
    → ComesBack k n (service rows ready journal) (with_event (Return k n) (service rows ready journal))
books_back rows ready journal k j n before f =
    let s = service rows ready journal in
    let g = return_grounds rows ready journal k j n before f in
    let total = return_steps k n s g in
    record { out = return_out k n s g; steps = total; rise = omega (arith, total, ap steps_in g.here, g.least) }

-- what is told of the row that came back
get-same : (k : ℕ) (f : Row → Row) (rows : List Row) (r : Row) → slice_get rows k ≡ Some r → slice_get (change_row k f rows) k ≡ Some (f r)
get-same k f [] r h = absurd cc
get-same zero f (q ∷ rows) r h = let same : q ≡ r = cc in ap (λ (x : Row). Some (f x)) same
get-same (suc k) f (q ∷ rows) r h = get-same k f rows r h

pub here_after : (rows : List Row) (k : ℕ) (j : Job) (n before : ℕ) (f : FitsRow rows k j n before)
    → slice_get (change_row k (returned_row n) rows) k ≡ Some (returned_row n f.row)
here_after rows k j n before f = get-same k (returned_row n) rows f.row f.here

pub receipt_is : (k : ℕ) (x : Receipt) (o : Option Row) (r : Row) → o ≡ Some r → IsReceiptOf k x o → x ≡ receipt_of k r
receipt_is k x o r is h = subst (IsReceiptOf k x) is h

-- CANCEL

pub refuses : (o : Option JobFault) (fault : JobFault) → o ≡ Some fault → Refuses o fault
refuses o fault is = subst (λ (x : Option JobFault). Refuses x fault) (sym is) refl

pub memory_refuses : (o : Option JobFault) → o ≡ None → Refuses o faults.Memory
memory_refuses o is = subst (λ (x : Option JobFault). Refuses x faults.Memory) (sym is) refl

pub cancel_fault_is : (rows : List Row) (ready : List ℕ) (journal : List StoredEvent) (out steps : ℕ) (full : Bool) (p : Pass)
    → AreKept rows ready journal out steps → full ≡ nat_lt most_events (length journal + out + 1)
    → cancel_refusal p rows full ≡ cancel_fault p (service rows ready journal)
cancel_fault_is rows ready journal out steps full p kept is = ap (cancel_refusal p rows) (is ∙ full_is rows ready journal out steps 1 kept)

cancel_grounds : (s : Service) (p : Pass) → cancel_fault p s ≡ None → CancelGrounds p.slot s
cancel_grounds s p told = grounds (Cancels p) s (Cancel p.slot) (ap (λ (fault : Option JobFault). event_unless fault (Cancel p.slot)) told)

pub cancels_some : (rows : List Row) (ready : List ℕ) (journal : List StoredEvent) (p : Pass) → cancel_fault p (service rows ready journal)
    ≡ None → IsSome (slice_get rows p.slot)
cancels_some rows ready journal p told = subst IsSome (sym (cancel_grounds (service rows ready journal) p told).here) refl

pub cancel_kept : (rows : List Row) (ready : List ℕ) (journal : List StoredEvent) (out steps : ℕ) (p : Pass)
    → AreKept rows ready journal out steps → cancel_fault p (service rows ready journal) ≡ None
    → AreKept (change_row p.slot cancelled_row rows) (ready_without p.slot ready) (journal ++ stored.Cancel p.slot ∷ []) out steps
cancel_kept rows ready journal out steps p kept told =
    let s = service rows ready journal in
    record {
      kept = subst IsKept (next_cancel p s told ∙ sym (cancel_service rows ready journal p.slot)) (next_kept (Cancels p) s tt kept.kept);
      accepted = accepted_after (Cancel p.slot) s _ (cancel_service rows ready journal p.slot) kept.accepted tt;
      submits = no-submit (stored.Cancel p.slot) (Cancel p.slot) (tells_cancel p.slot) journal ∙ kept.submits ∙ sym (length-changed p.slot cancelled_row rows);
      out_is = kept.out_is ∙ sym (cancel_out p.slot rows);
      steps_is = kept.steps_is ∙ sym (cancel_steps p.slot rows);
    }

-- SUBMIT

pub submit_fault_is : (rows : List Row) (ready : List ℕ) (journal : List StoredEvent) (out steps u : ℕ) (full : Bool)
    → AreKept rows ready journal out steps → full ≡ nat_lt most_events (length journal + out + 1)
    → submit_refusal u rows full ≡ submit_fault u (service rows ready journal)
submit_fault_is rows ready journal out steps u full kept is = ap (submit_refusal u rows) (is ∙ full_is rows ready journal out steps 1 kept)

pub start_state : (j : Job) (s : State) → start_of j ≡ Some s → HasState j 0
unfolding after
start_state j s h = record { state = s; alone = h }

-- the row of a job at its start is a new row
pub is_new : (r : Row) (u : ℕ) (j : Job) (s : State) → r.user ≡ u → r.job ≡ j → r.steps ≡ s.steps → r.standing ≡ standing_at j s.steps
    → start_of j ≡ Some s → r ≡ new_row u j
is_new r u j s user job steps standing start =
    let none = start_steps j s start in
    let all = steps ∙ none in
    let stands = standing ∙ ap (standing_at j) none in
    λ i. record { user = user i; job = job i; steps = all i; standing = stands i }

pub submit_kept : (rows : List Row) (ready : List ℕ) (journal : List StoredEvent) (out steps u : ℕ) (j : Job)
    → AreKept rows ready journal out steps → submit_fault u (service rows ready journal) ≡ None → HasState j 0 → JobFits j
    → AreKept (rows ++ new_row u j ∷ []) (ready ++ slot_if_ready (length rows) (Some (new_row u j))) (journal ++ stored.Submit ∷ []) out steps
submit_kept rows ready journal out steps u j kept told start fits =
    let s = service rows ready journal in
    record {
      kept = subst IsKept (next_submit u j s told ∙ sym (submit_service rows ready journal u j kept.submits)) (next_kept (Submits u j) s start kept.kept);
      accepted = accepted_after (Submit u j) s _ (submit_service rows ready journal u j kept.submits) kept.accepted fits;
      submits = omega (arith, one-submit journal, kept.submits, length_push rows (new_row u j));
      out_is = kept.out_is ∙ sym (submit_out u j rows);
      steps_is = kept.steps_is ∙ sym (submit_steps u j rows);
    }

pub from_ok : {A E P : Type 0} (r : Result A E) → false ≡ is_err r → IfOk r (λ _. P) → P
from_ok (Ok x) h p = p
from_ok (Err e) h p = absurd cc

pub get-last : (rows : List Row) (r : Row) → slice_get (rows ++ r ∷ []) (length rows) ≡ Some r
get-last [] r = refl
get-last (q ∷ rows) r = get-last rows r

at_most_one : (b : Bool) → (if b then suc zero else zero) ≤ suc zero
at_most_one true = omega arith
at_most_one false = omega arith

out_at_most : (rows : List Row) → out_of rows ≤ length rows
out_at_most [] = omega arith
out_at_most (q ∷ rows) = omega (arith, out_at_most rows, sum_by-cons counts_out q rows, at_most_one (is_out q.standing))

pub few_out : (rows : List Row) (ready : List ℕ) (journal : List StoredEvent) (out steps : ℕ) → AreKept rows ready journal out steps → out ≤ length rows
few_out rows ready journal out steps kept = omega (arith, kept.out_is, out_at_most rows)
