-- Each call, as it is to one user.
use Rattle.std.proofs.Common.{◌≡◌, ℕ, List, [], ◌∷◌, ◌++◌, length, Option, Some, None, Bool, true, false, refl, sym, ap, subst, ◌∙◌}
use Rattle.std.specs.Prelude.{◌==◌, nat_le, if◌then◌else◌, Result, Ok, Err}
use Rattle.std.specs.List.{slice_get}
use Rattle.gw_step.specs.Job.{Job}
use Rattle.gw_service.specs.declared.faults.JobFault.{JobFault}
use Rattle.gw_service.specs.declared.faults.JobFault.TheVariants as faults
use Rattle.gw_service.specs.Rows.{Row, change_row, new_row, taken_row, returned_row, cancelled_row, rows_of, user_place, own_row}
use Rattle.gw_service.specs.Journal.{Service, Event, Submit, Cancel}
use Rattle.gw_service.specs.Calls.{Pass, Receipt, admit, row_for, progress_of, ended_row, own_cancel_fault, journal_limit, first_fault, is_user_full}
use Rattle.gw_service.specs.Calls.{is_journal_full, most_jobs, submit_limit, submit_fault, cancel_fault, take_reply, give_back_reply}
use Rattle.gw_service.specs.Machine.{Call, Submits, Polls, Collects, Cancels, Takes, GivesBack, Reply, Refusal, SlotReply, Assent, tell_progress}
use Rattle.gw_service.specs.Machine.{tell_row, unless, event_unless, take_event, return_event, after_event, reply, next}
use Rattle.gw_service.specs.Isolation.{Concern, OwnSubmit, OwnPoll, OwnCollect, OwnCancel, NoConcern, Notice, NoNotice, NewJob, Answer, IsPrivate}
use Rattle.gw_service.specs.Isolation.{OneCallIsPrivate, OthersLeaveMyRows, row_at, change_at, take_at, return_at, take_concern, return_concern}
use Rattle.gw_service.specs.Isolation.{concern, notice_of, notice, is_limited, own_notice, own_next, rows_unless}
use Rattle.gw_service.proofs.Rows.{self_equal, are_equal, own-place, rows-changed, other-place, rows-added, rows-others}

-- LIMITS

submit_limits : (a b : Bool) (r : Reply)
    → is_limited (notice_of (unless (if a then Some faults.ServiceFull else if b then Some faults.JournalFull else None) r)) ≡ false
    → (if a then Some faults.ServiceFull else if b then Some faults.JournalFull else None) ≡ None
submit_limits true b r h = absurd cc
submit_limits false true r h = absurd cc
submit_limits false false r h = refl

cancel_limits : (b : Bool) (r : Reply) → is_limited (notice_of (unless (if b then Some faults.JournalFull else None) r)) ≡ false
    → (if b then Some faults.JournalFull else None) ≡ None
cancel_limits true r h = absurd cc
cancel_limits false r h = refl

-- SUBMIT

submit_told : (full : Bool) (limit : Option JobFault) (n : ℕ) → (is_limited (notice_of (unless limit (SlotReply n))) ≡ false → limit ≡ None)
    → is_limited (notice_of (unless (if full then Some faults.UserFull else limit) (SlotReply n))) ≡ false
    → notice_of (unless (if full then Some faults.UserFull else limit) (SlotReply n)) ≡ (if full then Answer (Refusal faults.UserFull) else NewJob)
submit_told true limit n none h = refl
submit_told false limit n none h = rw (none h) refl

submit_rows : (full : Bool) (limit : Option JobFault) (n u : ℕ) (j : Job) (s : Service)
    → (is_limited (notice_of (unless limit (SlotReply n))) ≡ false → limit ≡ None)
    → is_limited (notice_of (unless (if full then Some faults.UserFull else limit) (SlotReply n))) ≡ false
    → rows_of u (after_event (event_unless (if full then Some faults.UserFull else limit) (Submit u j)) s).now.rows
    ≡ (if full then rows_of u s.now.rows else rows_of u s.now.rows ++ new_row u j ∷ [])
submit_rows true limit n u j s none h = refl
submit_rows false limit n u j s none h = rw (none h) (rows-added u s.now.rows (new_row u j) (self_equal u))

own_submit : (u : ℕ) (j : Job) (s : Service) → is_limited (notice u (Submits u j) s) ≡ false → IsPrivate u (Submits u j) s
own_submit u j s h =
    let none = λ (limited : is_limited (notice_of (unless (submit_limit s.now.rows (is_journal_full 1 s)) (SlotReply (length s.now.rows))))
    ≡ false). submit_limits (nat_le most_jobs (length s.now.rows)) (is_journal_full 1 s) (SlotReply (length s.now.rows)) limited in
    let free : is_limited (notice_of (reply (Submits u j) s)) ≡ false =
    subst (λ (b : Bool). is_limited (if b then notice_of (reply (Submits u j) s) else NoNotice) ≡ false) (self_equal u) h in
    record {
      notice = rw (self_equal u)
          (submit_told (is_user_full (rows_of u s.now.rows)) (submit_limit s.now.rows (is_journal_full 1 s)) (length s.now.rows) none free);
      rows = rw (self_equal u)
          (submit_rows (is_user_full (rows_of u s.now.rows)) (submit_limit s.now.rows (is_journal_full 1 s)) (length s.now.rows) u j s none free);
    }

others_submit_rows : (limit : Option JobFault) (u v : ℕ) (j : Job) (s : Service) → (v == u) ≡ false
    → rows_of u (after_event (event_unless limit (Submit v j)) s).now.rows ≡ rows_of u s.now.rows
others_submit_rows None u v j s e = rows-others u s.now.rows (new_row v j) e
others_submit_rows (Some fault) u v j s e = refl

submit : (u v : ℕ) (j : Job) (s : Service) (b : Bool) → (v == u) ≡ b → is_limited (notice u (Submits v j) s) ≡ false → IsPrivate u (Submits v j) s
submit u v j s true e h =
    subst (λ (w : ℕ). is_limited (notice u (Submits w j) s) ≡ false → IsPrivate u (Submits w j) s) (sym (are_equal v u e)) (own_submit u j s) h
submit u v j s false e h = record { notice = rw e refl; rows = rw e (others_submit_rows (submit_fault v s) u v j s e) }

-- PASSES

-- the row of a pass of this user is the one at its place
own_found : (u : ℕ) (p : Pass) (s : Service) → (p.user == u) ≡ true → row_for p s ≡ admit p.job (row_at (user_place u p.slot s.now.rows) (rows_of u s.now.rows))
own_found u p s e = ap (admit p.job)
    (subst (λ (v : ℕ). own_row v (slice_get s.now.rows p.slot) ≡ row_at (user_place u p.slot s.now.rows) (rows_of u s.now.rows))
    (sym (are_equal p.user u e)) (own-place u p.slot s.now.rows))

poll : (u : ℕ) (p : Pass) (s : Service) (b : Bool) → (p.user == u) ≡ b → IsPrivate u (Polls p) s
poll u p s true e = record { notice = rw e (ap (λ (r : Result Row JobFault). notice_of (tell_progress (progress_of r))) (own_found u p s e)); rows = rw e refl }
poll u p s false e = record { notice = rw e refl; rows = rw e refl }

collect : (u : ℕ) (p : Pass) (s : Service) (b : Bool) → (p.user == u) ≡ b → IsPrivate u (Collects p) s
collect u p s true e = record { notice = rw e (ap (λ (r : Result Row JobFault). notice_of (tell_row (ended_row r))) (own_found u p s e)); rows = rw e refl }
collect u p s false e = record { notice = rw e refl; rows = rw e refl }

-- CANCEL

cancel_told : (own : Option JobFault) (limit : Option JobFault) → (is_limited (notice_of (unless limit Assent)) ≡ false → limit ≡ None)
    → is_limited (notice_of (unless (first_fault own limit) Assent)) ≡ false
    → notice_of (unless (first_fault own limit) Assent) ≡ notice_of (unless own Assent)
cancel_told None limit none h = rw (none h) refl
cancel_told (Some fault) limit none h = refl

cancel_rows : (own : Option JobFault) (limit : Option JobFault) (u k : ℕ) (s : Service) → (is_limited (notice_of (unless limit Assent)) ≡ false → limit ≡ None)
    → is_limited (notice_of (unless (first_fault own limit) Assent)) ≡ false
    → rows_of u (after_event (event_unless (first_fault own limit) (Cancel k)) s).now.rows
    ≡ rows_unless own (change_at (user_place u k s.now.rows) cancelled_row (rows_of u s.now.rows)) (rows_of u s.now.rows)
cancel_rows None limit u k s none h = rw (none h) (rows-changed u k cancelled_row s.now.rows (λ r. refl))
cancel_rows (Some fault) limit u k s none h = refl

either_rows : (fault : Option JobFault) (u k : ℕ) (s : Service) → rows_of u (change_row k cancelled_row s.now.rows) ≡ rows_of u s.now.rows
    → rows_of u (after_event (event_unless fault (Cancel k)) s).now.rows ≡ rows_of u s.now.rows
either_rows None u k s h = h
either_rows (Some fault) u k s h = refl

others_cancel : (o : Option Row) (u : ℕ) (p : Pass) (s : Service) → (p.user == u) ≡ false → own_row p.user (slice_get s.now.rows p.slot) ≡ o
    → rows_of u (after_event
    (event_unless (first_fault (own_cancel_fault (admit p.job o)) (journal_limit (is_journal_full 1 s))) (Cancel p.slot)) s).now.rows ≡ rows_of u s.now.rows
others_cancel None u p s e is = refl
others_cancel (Some r) u p s e is =
    let kept : rows_of u (change_row p.slot cancelled_row s.now.rows) ≡ rows_of u s.now.rows =
    rows-changed u p.slot cancelled_row s.now.rows (λ q. refl)
    ∙ ap (λ (i : Option ℕ). change_at i cancelled_row (rows_of u s.now.rows)) (other-place u p.user p.slot s.now.rows r is e) in
    either_rows (first_fault (own_cancel_fault (admit p.job (Some r))) (journal_limit (is_journal_full 1 s))) u p.slot s kept

cancel : (u : ℕ) (p : Pass) (s : Service) (b : Bool) → (p.user == u) ≡ b → is_limited (notice u (Cancels p) s) ≡ false → IsPrivate u (Cancels p) s
cancel u p s true e h =
    let none = λ (limited : is_limited (notice_of (unless (journal_limit (is_journal_full 1 s)) Assent)) ≡ false). cancel_limits
    (is_journal_full 1 s) Assent limited in
    let free : is_limited (notice_of (reply (Cancels p) s)) ≡ false =
    subst (λ (b : Bool). is_limited (if b then notice_of (reply (Cancels p) s) else NoNotice) ≡ false) e h in
    let is = own_found u p s e in
    record {
      notice = rw e (cancel_told (own_cancel_fault (row_for p s)) (journal_limit (is_journal_full 1 s)) none free
          ∙ ap (λ (r : Result Row JobFault). notice_of (unless (own_cancel_fault r) Assent)) is);
      rows = rw e (cancel_rows (own_cancel_fault (row_for p s)) (journal_limit (is_journal_full 1 s)) u p.slot s none free
          ∙ ap (λ (r : Result Row JobFault). rows_unless (own_cancel_fault r)
          (change_at (user_place u p.slot s.now.rows) cancelled_row (rows_of u s.now.rows)) (rows_of u s.now.rows)) is);
    }
cancel u p s false e h = record { notice = rw e refl; rows = rw e (others_cancel (own_row p.user (slice_get s.now.rows p.slot)) u p s e refl) }

-- TAKE AND GIVE BACK

take_untold : (p : Option ℕ) (rows : List Row) → NoNotice ≡ own_notice (take_at p) rows
take_untold None rows = refl
take_untold (Some i) rows = refl

take_changed : (p : Option ℕ) (u : ℕ) (rows : List Row) → change_at p taken_row rows ≡ own_next u (take_at p) rows
take_changed None u rows = refl
take_changed (Some i) u rows = refl

take_told : (t : Result (Option ℕ) JobFault) (u : ℕ) (s : Service) → NoNotice ≡ own_notice (take_concern u s.now.rows t) (rows_of u s.now.rows)
take_told (Err fault) u s = refl
take_told (Ok None) u s = refl
take_told (Ok (Some k)) u s = take_untold (user_place u k s.now.rows) (rows_of u s.now.rows)

take_rows : (t : Result (Option ℕ) JobFault) (u : ℕ) (s : Service) → rows_of u (after_event (take_event t) s).now.rows
    ≡ own_next u (take_concern u s.now.rows t) (rows_of u s.now.rows)
take_rows (Err fault) u s = refl
take_rows (Ok None) u s = refl
take_rows (Ok (Some k)) u s = rows-changed u k taken_row s.now.rows (λ r. refl) ∙ take_changed (user_place u k s.now.rows) u (rows_of u s.now.rows)

return_untold : (p : Option ℕ) (n : ℕ) (rows : List Row) → NoNotice ≡ own_notice (return_at n p) rows
return_untold None n rows = refl
return_untold (Some i) n rows = refl

return_changed : (p : Option ℕ) (n u : ℕ) (rows : List Row) → change_at p (returned_row n) rows ≡ own_next u (return_at n p) rows
return_changed None n u rows = refl
return_changed (Some i) n u rows = refl

return_told : (o : Option Receipt) (u : ℕ) (s : Service) → NoNotice ≡ own_notice (return_concern u s.now.rows o) (rows_of u s.now.rows)
return_told None u s = refl
return_told (Some x) u s = return_untold (user_place u x.slot s.now.rows) x.steps (rows_of u s.now.rows)

return_rows : (o : Option Receipt) (u : ℕ) (s : Service) → rows_of u (after_event (return_event o) s).now.rows
    ≡ own_next u (return_concern u s.now.rows o) (rows_of u s.now.rows)
return_rows None u s = refl
return_rows (Some x) u s = rows-changed u x.slot (returned_row x.steps) s.now.rows (λ r. refl)
    ∙ return_changed (user_place u x.slot s.now.rows) x.steps u (rows_of u s.now.rows)

-- ALL CALLS

pub private : OneCallIsPrivate
private u (Submits v j) s h = submit u v j s (v == u) refl h
private u (Polls p) s h = poll u p s (p.user == u) refl
private u (Collects p) s h = collect u p s (p.user == u) refl
private u (Cancels p) s h = cancel u p s (p.user == u) refl h
private u Takes s h = record { notice = take_told (take_reply s) u s; rows = take_rows (take_reply s) u s }
private u (GivesBack k j n) s h = record { notice = return_told (give_back_reply k j n s) u s; rows = return_rows (give_back_reply k j n s) u s }

-- what is of no concern to a user is by nobody or another
free : (b : Bool) (x : Concern) (t : Notice) → (if b then x else NoConcern) ≡ NoConcern → (x ≡ NoConcern → is_limited t ≡ false)
    → is_limited (if b then t else NoNotice) ≡ false
free true x t h f = f h
free false x t h f = refl

pub unlimited : (u : ℕ) (c : Call) (s : Service) → concern u c s ≡ NoConcern → is_limited (notice u c s) ≡ false
unlimited u (Submits v j) s h = free (v == u) (OwnSubmit j) (notice_of (reply (Submits v j) s)) h (λ e. absurd cc)
unlimited u (Polls p) s h = free (p.user == u) (OwnPoll (user_place u p.slot s.now.rows) p.job) (notice_of (reply (Polls p) s)) h (λ e. absurd cc)
unlimited u (Collects p) s h = free (p.user == u) (OwnCollect (user_place u p.slot s.now.rows) p.job) (notice_of (reply (Collects p) s)) h (λ e. absurd cc)
unlimited u (Cancels p) s h = free (p.user == u) (OwnCancel (user_place u p.slot s.now.rows) p.job) (notice_of (reply (Cancels p) s)) h (λ e. absurd cc)
unlimited u Takes s h = refl
unlimited u (GivesBack k j n) s h = refl

pub others : OthersLeaveMyRows
others u c s h = (private u c s (unlimited u c s h)).rows ∙ ap (λ (x : Concern). own_next u x (rows_of u s.now.rows)) h

-- REFUSED BY WHAT ALL SHARE

unless_stays : (b : Bool) (fault : Option JobFault) (r : Reply) (e : Event) (s : Service) → is_limited (notice_of r) ≡ false
    → is_limited (if b then notice_of (unless fault r) else NoNotice) ≡ true → after_event (event_unless fault e) s ≡ s
unless_stays false fault r e s assents limited = absurd cc
unless_stays true None r e s assents limited = let never : true ≡ false = sym limited ∙ assents in absurd cc
unless_stays true (Some fault) r e s assents limited = refl

-- a call that is refused so leaves the service as it was
pub limited_stays : (u : ℕ) (c : Call) (s : Service) → is_limited (notice u c s) ≡ true → next c s ≡ s
limited_stays u (Submits v j) s limited = unless_stays (v == u) (submit_fault v s) (SlotReply (length s.now.rows)) (Submit v j) s refl limited
limited_stays u (Polls p) s limited = refl
limited_stays u (Collects p) s limited = refl
limited_stays u (Cancels p) s limited = unless_stays (p.user == u) (cancel_fault p s) Assent (Cancel p.slot) s refl limited
limited_stays u Takes s limited = absurd cc
limited_stays u (GivesBack k j n) s limited = absurd cc
