-- Two jobs that `==` calls equal are one.
use Rattle.std.specs.Cmp.{IsEquivalence, and_equiv, on_equiv, nat_eq_equiv}
use Rattle.std.specs.Cmp.Lexicographic.{lists_equiv}
use Rattle.gw_object.specs.contracts.parts.PartsEq.TheImpl.Laws as parts_laws
use Rattle.gw_step.specs.Job.{Job}
use Rattle.gw_equality.specs.Same.{TellsApart}
use Rattle.gw_equality.specs.Jobs.{same_job}
use Rattle.gw_equality.proofs.Fields.{OnlyEqual, apart, nat_only, list_only, of_fields, ◌⊗◌}
use Rattle.gw_equality.proofs.Objects.{parts_only}

job_only : OnlyEqual same_job
job_only = of_fields
    (λ (j : Job). (j.budget, (j.count, (j.streams, j.parts))))
    (λ f. record { parts = f.1.1.1; streams = f.1.1.0; count = f.1.0; budget = f.0 })
    (λ x i. x)
    (nat_only ⊗ nat_only ⊗ list_only nat_only ⊗ parts_only)

-- what the law of `Eq` asks for
pub job_equivalence : IsEquivalence same_job
job_equivalence =
    let budget = on_equiv (λ (j : Job). j.budget) nat_eq_equiv in
    let count = on_equiv (λ (j : Job). j.count) nat_eq_equiv in
    let streams = on_equiv (λ (j : Job). j.streams) (lists_equiv nat_eq_equiv) in
    let parts = on_equiv (λ (j : Job). j.parts) parts_laws.laws-law in
    and_equiv budget (and_equiv count (and_equiv streams parts))

pub job_apart : TellsApart same_job
job_apart = apart job_equivalence job_only
