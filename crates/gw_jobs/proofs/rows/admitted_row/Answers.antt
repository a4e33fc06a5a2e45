use Rattle.std.proofs.Common.{rules, ◌≡◌, true, false, Some, ℕ, length, sym, subst, refl}
use Rattle.std.proofs.lemmas.Option.{slice_get_read}
use Rattle.std.specs.List.{slice_get}
use Rattle.gw_equality.specs.Jobs.{same_job}
use Rattle.gw_jobs.proofs.Kept.{same_is, is_stranger}
use Rattle.gw_jobs.proofs.rows.admitted_row.Goals as goal

pub returns-then-eq-clause-job : goal.returns-then-eq-clause-job
returns-then-eq-clause-job c =
    let same : same_job c.in-Some.row.now.job c.args.pass.now.job ≡ true = search rules in
    sym (same_is c.in-Some.row.now.job c.args.pass.now.job same)

pub returns-else-eq-clause-err : goal.returns-else-eq-clause-err
returns-else-eq-clause-err c =
    let here : slice_get c.args.rows.now c.args.pass.now.slot ≡ Some c.in-Some.row.now =
    subst (λ (k : ℕ). slice_get c.args.rows.now k ≡ Some c.in-Some.row.now) c.slot.ensures
    (slice_get_read c.args.rows.now (length c.args.rows.now) c.slot.result c.in-Some.row.now refl (search rules) c.in-Some.ensures.lookup.1) in
    let user : c.in-Some.row.now.user ≡ c.args.pass.now.user = search rules in
    let other : same_job c.in-Some.row.now.job c.args.pass.now.job ≡ false = search rules in
    is_stranger c.args.pass.now c.args.rows.now c.in-Some.row.now here user other
