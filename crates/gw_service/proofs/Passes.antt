-- A pass leads to the user's own row.
use Rattle.std.proofs.Common.{◌≡◌, ℕ, Option, Some, None, Bool, true, false, refl, subst}
use Rattle.std.specs.Prelude.{◌==◌, if◌then◌else◌, Ok, Err}
use Rattle.std.specs.List.{slice_get}
use Rattle.gw_step.specs.Job.{Job}
use Rattle.gw_service.specs.declared.faults.JobFault.TheVariants as faults
use Rattle.gw_equality.specs.Jobs.{same_job}
use Rattle.gw_service.specs.Rows.{Row, own_row}
use Rattle.gw_service.specs.Journal.{Service}
use Rattle.gw_service.specs.Calls.{Pass, admit}
use Rattle.gw_service.specs.Keeping.{LeadsTo, PassesLeadToOwnRows}
use Rattle.gw_service.proofs.Rows.{are_equal}

-- a row that is admitted
record IsAdmitted (u : ℕ) (j : Job) (q r : Row) : Type 0 where
  pub row : q ≡ r
  pub user : q.user ≡ u
  pub job : same_job q.job j ≡ true

by_job : (b : Bool) (u : ℕ) (j : Job) (q r : Row) → same_job q.job j ≡ b → q.user ≡ u → (if b then Ok q else Err faults.Stranger) ≡ Ok r → IsAdmitted u j q r
by_job true u j q r is user h = record { row = cc; user = user; job = is }
by_job false u j q r is user h = absurd cc

by_user : (b : Bool) (u : ℕ) (j : Job) (q r : Row) → (q.user == u) ≡ b → admit j (if b then Some q else None) ≡ Ok r → IsAdmitted u j q r
by_user true u j q r is h = by_job (same_job q.job j) u j q r refl (are_equal q.user u is) h
by_user false u j q r is h = absurd cc

by_row : (o : Option Row) (p : Pass) (s : Service) (r : Row) → slice_get s.now.rows p.slot ≡ o → admit p.job (own_row p.user o) ≡ Ok r → LeadsTo p s r
by_row None p s r is h = absurd cc
by_row (Some q) p s r is h =
    let a = by_user (q.user == p.user) p.user p.job q r refl h in
    subst (λ (x : Row). LeadsTo p s x) a.row (record { slot = is; user = a.user; job = a.job })

pub passes_lead_to_own_rows : PassesLeadToOwnRows
passes_lead_to_own_rows p s r h = by_row (slice_get s.now.rows p.slot) p s r refl h
