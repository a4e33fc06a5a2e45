-- Each row of a service is of a job that was submitted, and its steps are those of the job's lone run.
use Rattle.std.proofs.Common.{◌≡◌, ℕ, zero, suc, List, [], ◌∷◌, ◌++◌, Option, Some, refl, subst, ap, ◌∙◌}
use Rattle.std.specs.List.{slice_get}
use Rattle.gw_step.specs.Job.{JobFits, after}
use Rattle.gw_step.proofs.Slices.{one_state}
use Rattle.gw_step.proofs.Safe.{checked_objects_start, reached_states_are_well_typed, well_typed_states_step, no_job_is_stuck}
use Rattle.gw_step.proofs.Moment.{entries_are_within_weight}
use Rattle.gw_service.specs.Rows.{Row, Jobs, change_row, new_row, taken_row, returned_row, cancelled_row}
use Rattle.gw_service.specs.Journal.{Event, Submit, Take, Return, Cancel, OfRow, HasState, MayReturn, MayCome, EachMayCome, SubmitsAccepted}
use Rattle.gw_service.specs.Journal.{AllSubmitAccepted, apply, no_jobs, replay_from}
use Rattle.gw_headline.specs.Headline.{AcceptedJobsRunSafely, VerifiedObjectsRunSafely, ServicesRunSafely}

-- a job of an accepted object runs safely
pub safely : AcceptedJobsRunSafely
unfolding after
safely j fits = record {
  starts = let first = checked_objects_start j fits.checked in record { state = first.0; alone = first.1 };
  never = λ n s alone. no_job_is_stuck j n s fits.checked alone;
  goes_on = λ n s alone runs. well_typed_states_step j s fits.checked (reached_states_are_well_typed j n s fits.checked alone) runs;
  determined = λ n s t. one_state j n s t;
  within = λ s t moment. entries_are_within_weight j s t fits moment;
}

-- each row has the job of an accepted object, and as many steps as that has alone
record Fits (r : Row) : Type 0 where
  fits : JobFits r.job
  state : HasState r.job r.steps

abbrev AllFit : List Row → Type 0
AllFit [] = Unit {0}
AllFit (r ∷ rows) = Fits r × AllFit rows

changed : (k : ℕ) (f : Row → Row) (rows : List Row) → ((r : Row) → slice_get rows k ≡ Some r → Fits r → Fits (f r)) → AllFit rows → AllFit (change_row k f rows)
changed k f [] keeps h = h
changed zero f (q ∷ rows) keeps h = (keeps q refl h.0, h.1)
changed (suc k) f (q ∷ rows) keeps h = (h.0, changed k f rows keeps h.1)

added : (rows : List Row) (r : Row) → Fits r → AllFit rows → AllFit (rows ++ r ∷ [])
added [] r h b = (h, b)
added (q ∷ rows) r h b = (b.0, added rows r h b.1)

here_returns : (o : Option Row) (r : Row) (n : ℕ) → o ≡ Some r → OfRow (MayReturn n) o → MayReturn n r
here_returns o r n is h = subst (λ (x : Option Row). OfRow (MayReturn n) x) is h

after_event : (e : Event) (s : Jobs) → SubmitsAccepted e → MayCome e s → AllFit s.rows → AllFit (apply e s).rows
after_event (Submit u j) s fits may h = added s.rows (new_row u j) (record { fits = fits; state = may }) h
after_event (Take k) s fits may h = changed k taken_row s.rows (λ r is row. record { fits = row.fits; state = row.state }) h
after_event (Return k n) s fits may h =
    changed k (returned_row n) s.rows (λ r is row. record { fits = row.fits; state = (here_returns (slice_get s.rows k) r n is may).reached }) h
after_event (Cancel k) s fits may h = changed k cancelled_row s.rows (λ r is row. record { fits = row.fits; state = row.state }) h

after_events : (es : List Event) (s : Jobs) → AllSubmitAccepted es → EachMayCome es s → AllFit s.rows → AllFit (replay_from s es).rows
after_events [] s fits may h = h
after_events (e ∷ es) s fits may h = after_events es (apply e s) fits.1 may.1 (after_event e s fits.0 may.0 h)

row_of : (k : ℕ) (rows : List Row) (r : Row) → AllFit rows → slice_get rows k ≡ Some r → Fits r
row_of k [] r h is = absurd cc
row_of zero (q ∷ rows) r h is = let same : q ≡ r = cc in subst Fits same h.0
row_of (suc k) (q ∷ rows) r h is = row_of k rows r h.1 is

pub verified_objects_run_safely : VerifiedObjectsRunSafely
verified_objects_run_safely events slot r history fits here =
    let row = row_of slot (replay_from no_jobs events).rows r (after_events events no_jobs fits history tt) here in
    record { state = row.state; safe = safely r.job row.fits }

pub services_run_safely : ServicesRunSafely
services_run_safely s slot r kept fits here =
    verified_objects_run_safely s.journal slot r kept.history fits (ap (λ (now : Jobs). slice_get now.rows slot) kept.replayed ∙ here)
