-- The ready list has the slots of the rows that are ready.
use Rattle.std.proofs.Common.{◌≡◌, ℕ, ◌+◌, ◌≤◌, List, [], ◌∷◌, ◌++◌, length, drop, Option, Some, None, Bool, true, false, refl, sym, ap, subst, ◌∙◌, arith}
use Rattle.std.specs.Prelude.{◌==◌, not, if◌then◌else◌}
use Rattle.std.specs.List.{slice_get}
use Rattle.std.proofs.lemmas.Bool.Decides.{nat_tests}
use Rattle.gw_step.specs.Residence.{occurrences}
use Rattle.gw_step.specs.Job.{Job}
use Rattle.gw_service.specs.Rows.{Standing, Ready, Out, Ended, Cancelled, CancelledOut, Row, change_row, new_row, taken_row, returned_row}
use Rattle.gw_service.specs.Rows.{cancelled_row, standing_off, is_ready, is_out}
use Rattle.gw_service.specs.Journal.{Service, Event, Submit, Take, Return, Cancel, ready_without, slot_if_ready, with_event, new_service}
use Rattle.gw_service.specs.Keeping.{counts_ready, ListsReady, NextListsReady, EveryServiceListsReady}
use Rattle.gw_service.proofs.Rows.{self_equal, are_equal}
use Rattle.gw_service.proofs.Changing.{same_choice, one_if, map_row, get-changed, get-added, get-past}
use Rattle.gw_service.proofs.Grounds.{TakeGrounds, Grounds, all_keep, call_keeps}

-- LISTS

pub occurrences-append : (k : ℕ) (xs ys : List ℕ) → occurrences k (xs ++ ys) ≡ occurrences k xs + occurrences k ys
occurrences-append k [] ys = omega arith
occurrences-append k (x ∷ xs) ys = omega (arith, occurrences-append k xs ys)

occurs-if : (b r : Bool) → (if b then (if r then 1 else 0) else 0) ≡ (if r then (if b then 1 else 0) + 0 else 0)
occurs-if true true = refl
occurs-if true false = refl
occurs-if false true = refl
occurs-if false false = refl

occurs-ready-some : (k m : ℕ) (r : Bool) → occurrences k (if r then m ∷ [] else []) ≡ (if m == k then (if r then 1 else 0) else 0)
occurs-ready-some k m true = sym (occurs-if (m == k) true)
occurs-ready-some k m false = sym (occurs-if (m == k) false)

occurrences-ready : (k m : ℕ) (o : Option Row) → occurrences k (slot_if_ready m o) ≡ (if m == k then counts_ready o else 0)
occurrences-ready k m None = same_choice (m == k) 0
occurrences-ready k m (Some r) = occurs-ready-some k m (is_ready r.standing)

left-here : (k m x : ℕ) (b : Bool) (xs : List ℕ) → (x == m) ≡ b → occurrences k (ready_without m xs)
    ≡ (if m == k then 0 else occurrences k xs) → occurrences k (if not b then x ∷ ready_without m xs else ready_without m xs)
    ≡ (if m == k then 0 else occurrences k (x ∷ xs))
left-here k m x true xs e h = grind (arith, nat_tests)
left-here k m x false xs e h = grind (arith, nat_tests)

occurrences-without : (k m : ℕ) (xs : List ℕ) → occurrences k (ready_without m xs) ≡ (if m == k then 0 else occurrences k xs)
occurrences-without k m [] = same_choice (m == k) 0
occurrences-without k m (x ∷ xs) = left-here k m x (x == m) xs refl (occurrences-without k m xs)

-- ROWS

pub one_at_most : (b : Bool) → one_if b ≤ 1
one_at_most true = omega arith
one_at_most false = omega arith

ready_at_most : (o : Option Row) → counts_ready o ≤ 1
ready_at_most None = omega arith
ready_at_most (Some r) = one_at_most (is_ready r.standing)

taken_rests : (o : Option Row) → counts_ready (map_row taken_row o) ≡ 0
unfolding map_row
taken_rests None = refl
taken_rests (Some r) = refl

cancelled_is : (t : Standing) → one_if (is_ready (standing_off t)) ≡ 0
cancelled_is Ready = refl
cancelled_is Out = refl
cancelled_is Ended = refl
cancelled_is Cancelled = refl
cancelled_is CancelledOut = refl

cancelled_rests : (o : Option Row) → counts_ready (map_row cancelled_row o) ≡ 0
unfolding map_row
cancelled_rests None = refl
cancelled_rests (Some r) = cancelled_is r.standing

-- who is out isn't ready
out_standing : (t : Standing) → is_out t ≡ true → one_if (is_ready t) ≡ 0
out_standing Ready h = absurd cc
out_standing Out h = refl
out_standing Ended h = absurd cc
out_standing Cancelled h = absurd cc
out_standing CancelledOut h = refl

pub out_rests : (o : Option Row) (r : Row) → o ≡ Some r → is_out r.standing ≡ true → counts_ready o ≡ 0
out_rests o r is h = ap counts_ready is ∙ out_standing r.standing h

-- a row that is ready
pub record ReadyRow (o : Option Row) : Type 0 where
  pub row : Row
  pub here : o ≡ Some row
  pub ready : is_ready row.standing ≡ true

some_ready : (b : Bool) (r : Row) → is_ready r.standing ≡ b → 1 ≤ one_if b → ReadyRow (Some r)
some_ready true r is h = record { row = r; here = refl; ready = is }
some_ready false r is h = absurd (omega (arith, h))

pub one_ready : (o : Option Row) → 1 ≤ counts_ready o → ReadyRow o
one_ready None h = absurd (omega (arith, h))
one_ready (Some r) h = some_ready (is_ready r.standing) r refl h

-- how often the first that is taken stood in the ready list
pub ready_before : (i k : ℕ) (s : Service) → TakeGrounds k s → occurrences i s.now.ready ≡ one_if (k == i) + occurrences i (drop 1 s.now.ready)
ready_before i k s g = ap (occurrences i) g.first

-- the row that is taken is ready
pub taken_ready : (k : ℕ) (s : Service) → ListsReady s.now → TakeGrounds k s → ReadyRow (slice_get s.now.rows k)
taken_ready k s h g =
    let one : one_if (k == k) ≡ 1 = rw (self_equal k) refl in
    one_ready (slice_get s.now.rows k) (omega (arith, h k, ready_before k k s g, one))

-- EVENTS

add_case : (b : Bool) (k n : ℕ) (rows : List Row) (r : Row) → (length rows == k) ≡ b → n ≡ counts_ready (slice_get rows k) → n
    + (if b then counts_ready (Some r) else 0) ≡ counts_ready (if b then Some r else slice_get rows k)
add_case true k n rows r e h =
    let past : counts_ready (slice_get rows k) ≡ 0 =
    subst (λ (i : ℕ). counts_ready (slice_get rows i) ≡ 0) (are_equal (length rows) k e) (ap counts_ready (get-past rows)) in
    omega (arith, h, past)
add_case false k n rows r e h = omega (arith, h)

pub submit_lists : (u : ℕ) (j : Job) (s : Service) → ListsReady s.now → ListsReady (with_event (Submit u j) s).now
submit_lists u j s h k =
    occurrences-append k s.now.ready (slot_if_ready (length s.now.rows) (Some (new_row u j)))
    ∙ ap (λ (n : ℕ). occurrences k s.now.ready + n) (occurrences-ready k (length s.now.rows) (Some (new_row u j)))
    ∙ add_case (length s.now.rows == k) k (occurrences k s.now.ready) s.now.rows (new_row u j) refl (h k)
    ∙ sym (ap counts_ready (get-added k s.now.rows (new_row u j)))

take_case : (b : Bool) (o : Option Row) (n : ℕ) → one_if b + n ≡ counts_ready o → n ≡ counts_ready (if b then map_row taken_row o else o)
take_case true o n h = omega (arith, ready_at_most o, taken_rests o, h)
take_case false o n h = omega (arith, h)

pub take_lists : (k : ℕ) (s : Service) → TakeGrounds k s → ListsReady s.now → ListsReady (with_event (Take k) s).now
take_lists k s g h i =
    take_case (k == i) (slice_get s.now.rows i) (occurrences i (drop 1 s.now.ready)) (sym (ready_before i k s g) ∙ h i)
    ∙ sym (ap counts_ready (get-changed i k taken_row s.now.rows))

cancel_case : (b : Bool) (o : Option Row) (n : ℕ) → n ≡ counts_ready o → (if b then 0 else n) ≡ counts_ready (if b then map_row cancelled_row o else o)
cancel_case true o n h = sym (cancelled_rests o)
cancel_case false o n h = h

pub cancel_lists : (k : ℕ) (s : Service) → ListsReady s.now → ListsReady (with_event (Cancel k) s).now
cancel_lists k s h i =
    occurrences-without i k s.now.ready
    ∙ cancel_case (k == i) (slice_get s.now.rows i) (occurrences i s.now.ready) (h i)
    ∙ sym (ap counts_ready (get-changed i k cancelled_row s.now.rows))

return_case : (k n i : ℕ) (s : Service) (b : Bool) → (k == i) ≡ b → ListsReady s.now → counts_ready (slice_get s.now.rows k) ≡ 0
    → occurrences i s.now.ready + (if b then counts_ready (slice_get (change_row k (returned_row n) s.now.rows) k) else 0)
    ≡ counts_ready (slice_get (change_row k (returned_row n) s.now.rows) i)
return_case k n i s true e h out =
    let same : k ≡ i = are_equal k i e in
    subst (λ (x : ℕ). occurrences x s.now.ready + counts_ready (slice_get (change_row k (returned_row n) s.now.rows) k)
    ≡ counts_ready (slice_get (change_row k (returned_row n) s.now.rows) x)) same (omega (arith, h k, out))
return_case k n i s false e h out =
    let kept : slice_get (change_row k (returned_row n) s.now.rows) i ≡ slice_get s.now.rows i =
    get-changed i k (returned_row n) s.now.rows
    ∙ ap (λ (b : Bool). if b then map_row (returned_row n) (slice_get s.now.rows i) else slice_get s.now.rows i) e in
    omega (arith, h i, ap counts_ready kept)

pub return_lists : (k n : ℕ) (s : Service) → ListsReady s.now → counts_ready (slice_get s.now.rows k) ≡ 0 → ListsReady (with_event (Return k n) s).now
return_lists k n s h out i =
    occurrences-append i s.now.ready (slot_if_ready k (slice_get (change_row k (returned_row n) s.now.rows) k))
    ∙ ap (λ (x : ℕ). occurrences i s.now.ready + x) (occurrences-ready i k (slice_get (change_row k (returned_row n) s.now.rows) k))
    ∙ return_case k n i s (k == i) refl h out

event_lists : (s : Service) → ListsReady s.now → (e : Event) → Grounds e s → ListsReady (with_event e s).now
event_lists s h (Submit u j) g = submit_lists u j s h
event_lists s h (Take k) g = take_lists k s g h
event_lists s h (Return k n) g = return_lists k n s h (out_rests (slice_get s.now.rows k) g.row g.here g.out)
event_lists s h (Cancel k) g = cancel_lists k s h

-- CALLS

pub next_lists_ready : NextListsReady
next_lists_ready c s h = call_keeps (λ (t : Service). ListsReady t.now) c s (event_lists s h) h

pub all_list_ready : EveryServiceListsReady
all_list_ready cs = all_keep (λ (t : Service). ListsReady t.now) next_lists_ready cs new_service (λ k. refl)
