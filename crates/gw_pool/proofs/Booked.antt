-- What events make of the totals of the books, and how great these are at most.
use Rattle.std.proofs.Common.{◌≡◌, ℕ, ◌*◌, ◌≤◌, ◌^◌, List, [], ◌∷◌, length, Bool, true, false, sym, ap, ◌∙◌, subst, arith}
use Rattle.std.specs.Prelude.{Result, Ok, Err, IfOk, OnErr}
use Rattle.std.proofs.lemmas.List.Sums.{sum_by-cons}
use Rattle.gw_service.specs.Rows.{Row, is_out, out_of, steps_of}
use Rattle.gw_step.specs.Job.{Job}
use Rattle.gw_service.specs.Journal.{Service, Submit, Cancel, with_event}
use Rattle.gw_service.specs.Calls.{most_jobs}
use Rattle.gw_service.specs.Keeping.{AreReached, IsKept}
use Rattle.gw_service.proofs.Changing.{one_if}
use Rattle.gw_service.proofs.Totals.{counts_out, submit_out, submit_steps, cancel_out, cancel_steps}
use Rattle.gw_pool.specs.Shares.{IsBooked}

-- CANCELS

cancel_booked : (k r n : ℕ) (s t : Service) → IsBooked r n s → t ≡ with_event (Cancel k) s → IsBooked r n t
cancel_booked k r n s t h is = record {
  rows_out = h.rows_out ∙ sym (cancel_out k s.now.rows) ∙ ap (λ (x : Service). out_of x.now.rows) (sym is);
  steps_back = h.steps_back ∙ sym (cancel_steps k s.now.rows) ∙ ap (λ (x : Service). steps_of x.now.rows) (sym is);
}

-- the books say the totals still after a cancel, and after its refusal
pub cancels_booked : {A E : Type 0} (x : Result A E) (k r n : ℕ) (s t : Service) → IsBooked r n s
    → IfOk x (λ _. t ≡ with_event (Cancel k) s) → OnErr x (t ≡ s) → IsBooked r n t
cancels_booked (Ok a) k r n s t h event same = cancel_booked k r n s t h event
cancels_booked (Err e) k r n s t h event same = subst (IsBooked r n) (sym same) h

-- SUBMITS

submit_booked : (u : ℕ) (j : Job) (r n : ℕ) (s t : Service) → IsBooked r n s → t ≡ with_event (Submit u j) s → IsBooked r n t
submit_booked u j r n s t h is = record {
  rows_out = h.rows_out ∙ sym (submit_out u j s.now.rows) ∙ ap (λ (x : Service). out_of x.now.rows) (sym is);
  steps_back = h.steps_back ∙ sym (submit_steps u j s.now.rows) ∙ ap (λ (x : Service). steps_of x.now.rows) (sym is);
}

-- the books say the totals still after a job was added, and after that was refused
pub adds_booked : {A E : Type 0} (x : Result A E) (u : ℕ) (j : Job) (r n : ℕ) (s t : Service) → IsBooked r n s
    → IfOk x (λ _. t ≡ with_event (Submit u j) s) → OnErr x (t ≡ s) → IsBooked r n t
adds_booked (Ok a) u j r n s t h event same = submit_booked u j r n s t h event
adds_booked (Err e) u j r n s t h event same = subst (IsBooked r n) (sym same) h

-- BOUNDS

one_at_most : (b : Bool) → one_if b ≤ 1
one_at_most true = omega arith
one_at_most false = omega arith

out_bound : (rows : List Row) → out_of rows ≤ length rows
out_bound [] = omega arith
out_bound (r ∷ rows) = omega (arith, one_at_most (is_out r.standing), out_bound rows, sum_by-cons counts_out r rows)

steps_bound : (rows : List Row) → AreReached rows → steps_of rows ≤ length rows * 1099511627776
steps_bound [] h = omega arith
steps_bound (r ∷ rows) h = omega (arith, h.0.most, steps_bound rows h.1, sum_by-cons (λ (x : Row). x.steps) r rows)

pub few_out : (s : Service) → IsKept s → out_of s.now.rows ≤ most_jobs
few_out s h = omega (arith, out_bound s.now.rows, h.within.jobs)

pub few_steps : (s : Service) → IsKept s → steps_of s.now.rows ≤ 2 ^ 50
few_steps s h = omega (arith, steps_bound s.now.rows h.reached, h.within.jobs)
