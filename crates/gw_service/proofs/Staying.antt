-- What a call leaves as it was.
use Rattle.std.proofs.Common.{◌≡◌, ℕ, ◌≤◌, List, [], ◌∷◌, ◌++◌, length, Option, Some, None, Bool, true, false, refl, sym, ap, subst, ◌∙◌, arith}
use Rattle.std.specs.Prelude.{◌==◌, if◌then◌else◌}
use Rattle.std.specs.List.{slice_get}
use Rattle.gw_service.specs.Rows.{Standing, Ready, Out, Ended, Cancelled, CancelledOut, Row, new_row, taken_row, returned_row, cancelled_row}
use Rattle.gw_service.specs.Rows.{standing_off, is_ready, is_out, change_row}
use Rattle.gw_service.specs.Journal.{Service, Event, Submit, Take, Return, Cancel, OfRow, with_event}
use Rattle.gw_service.specs.Machine.{event_of, after_event}
use Rattle.gw_service.specs.Keeping.{ListsReady, is_settled, IsLater, SlotsAreKept}
use Rattle.gw_service.proofs.Rows.{are_equal}
use Rattle.gw_service.proofs.Changing.{map_row, get-changed, get-added, get-past}
use Rattle.gw_service.proofs.Grounds.{Grounds, grounds}
use Rattle.gw_service.proofs.Listing.{taken_ready}
use Rattle.gw_service.proofs.Standings.{ready_runs, out_runs, running_is_open}

-- ROWS

same_later : (r : Row) → IsLater r r
same_later r = record { user = refl; job = refl; steps = omega arith; settled = λ h. refl }

taken_later : (r : Row) → is_ready r.standing ≡ true → IsLater r (taken_row r)
taken_later r h = record { user = refl; job = refl; steps = omega arith; settled = λ s. absurd (running_is_open r.standing (ready_runs r.standing h) s) }

returned_later : (n : ℕ) (r : Row) → is_out r.standing ≡ true → r.steps ≤ n → IsLater r (returned_row n r)
returned_later n r h least = record { user = refl; job = refl; steps = least; settled = λ s. absurd (running_is_open r.standing (out_runs r.standing h) s) }

settled_off : (t : Standing) → is_settled t ≡ true → standing_off t ≡ t
settled_off Ready h = absurd cc
settled_off Out h = absurd cc
settled_off Ended h = refl
settled_off Cancelled h = refl
settled_off CancelledOut h = absurd cc

cancelled_later : (r : Row) → IsLater r (cancelled_row r)
cancelled_later r = record {
  user = refl;
  job = refl;
  steps = omega arith;
  settled =
      λ s. ap (λ (t : Standing). record r { standing = t }) (settled_off r.standing s);
}

-- ONE ROW CHANGED

-- the row in a slot is later, where the changed one is
later_case : (b : Bool) (f : Row → Row) (o : Option Row) (r : Row) → o ≡ Some r → (b ≡ true → IsLater r (f r))
    → OfRow (IsLater r) (if b then map_row f o else o)
unfolding map_row
later_case true f o r is h = subst (λ (x : Option Row). OfRow (IsLater r) (map_row f x)) (sym is) (h refl)
later_case false f o r is h = subst (λ (x : Option Row). OfRow (IsLater r) x) (sym is) (same_later r)

later-changed : (m k : ℕ) (f : Row → Row) (rows : List Row) (r : Row) → slice_get rows k ≡ Some r
    → ((q : Row) → slice_get rows m ≡ Some q → IsLater q (f q)) → OfRow (IsLater r) (slice_get (change_row m f rows) k)
later-changed m k f rows r is h =
    let at : (m == k) ≡ true → IsLater r (f r) = λ (e : (m == k) ≡ true). h r (ap (slice_get rows) (are_equal m k e) ∙ is) in
    subst (λ (x : Option Row). OfRow (IsLater r) x) (sym (get-changed k m f rows)) (later_case (m == k) f (slice_get rows k) r is at)

some_past : (o : Option Row) (r : Row) → o ≡ Some r → o ≡ None → ⊥
some_past o r is past = absurd cc

added_case : (b : Bool) (k : ℕ) (rows : List Row) (x r : Row) → (length rows == k) ≡ b → slice_get rows k ≡ Some r
    → OfRow (IsLater r) (if b then Some x else slice_get rows k)
added_case true k rows x r e is = absurd (some_past (slice_get rows k) r is (ap (slice_get rows) (sym (are_equal (length rows) k e)) ∙ get-past rows))
added_case false k rows x r e is = subst (λ (o : Option Row). OfRow (IsLater r) o) (sym is) (same_later r)

later-added : (k : ℕ) (rows : List Row) (x r : Row) → slice_get rows k ≡ Some r → OfRow (IsLater r) (slice_get (rows ++ x ∷ []) k)
later-added k rows x r is = subst (λ (o : Option Row). OfRow (IsLater r) o) (sym (get-added k rows x)) (added_case (length rows == k) k rows x r refl is)

one_row : (o : Option Row) (p q : Row) (P : Row → Type 0) → o ≡ Some p → o ≡ Some q → P p → P q
one_row o p q P a b h =
    let same : p ≡ q = cc in
    subst P same h

-- EVENTS AND CALLS

event_later : (s : Service) → ListsReady s.now → (k : ℕ) (r : Row) → slice_get s.now.rows k ≡ Some r → (e : Event) → Grounds e s
    → OfRow (IsLater r) (slice_get (with_event e s).now.rows k)
event_later s l k r is (Submit u j) g = later-added k s.now.rows (new_row u j) r is
event_later s l k r is (Take m) g =
    let t = taken_ready m s l g in
    later-changed m k taken_row s.now.rows r is
    (λ q here. taken_later q (one_row (slice_get s.now.rows m) t.row q (λ (x : Row). is_ready x.standing ≡ true) t.here here t.ready))
event_later s l k r is (Return m n) g =
    later-changed m k (returned_row n) s.now.rows r is
    (λ q here. one_row (slice_get s.now.rows m) g.row q (λ (x : Row). IsLater x (returned_row n x)) g.here here (returned_later n g.row g.out g.least))
event_later s l k r is (Cancel m) g = later-changed m k cancelled_row s.now.rows r is (λ q here. cancelled_later q)

call_later : (o : Option Event) (s : Service) → ListsReady s.now → (k : ℕ) (r : Row) → slice_get s.now.rows k ≡ Some r
    → ((e : Event) → o ≡ Some e → Grounds e s) → OfRow (IsLater r) (slice_get (after_event o s).now.rows k)
call_later None s l k r is g = subst (λ (x : Option Row). OfRow (IsLater r) x) (sym is) (same_later r)
call_later (Some e) s l k r is g = event_later s l k r is e (g e refl)

pub slots_are_kept : SlotsAreKept
slots_are_kept c s k r l is = call_later (event_of c s) s l k r is (grounds c s)
