-- Making a job of an object: which seeds, counts and budgets are refused, and what is made.
use Rattle.std.specs.Prelude.{ℕ, ◌^◌, List, [], ◌∷◌, length, Option, Some, None, unwrap_or, Bool, nat_le, nat_lt, ◌==◌, ◌&&◌, ◌||◌, if◌then◌else◌}
use Rattle.std.specs.List.{list_all}
use Rattle.gw_object.specs.declared.parts.Parts.{Parts}
use Rattle.gw_scan.specs.declared.spec.StartFault.{StartFault}
use Rattle.gw_scan.specs.declared.spec.StartFault.TheVariants.{Seed, Count, Budget, Memory}
use Rattle.gw_step.specs.Job.{Job, streams_of}

-- at most 16 seeds, each at most 2147483646
abbrev pub seeds_fit : List ℕ → Bool
seeds_fit seeds = nat_le (length seeds) 16 && list_all (λ seed. nat_le seed 2147483646) seeds

-- the first refusal that applies: of the seeds, of the count (above 2^40), of the budget (0, or above 2^40)
abbrev pub spec_fault : List ℕ → ℕ → ℕ → Option StartFault
spec_fault seeds count budget =
    if seeds_fit seeds then
    (if nat_lt (2 ^ 40) count then Some Count
    else if (budget == 0) || nat_lt (2 ^ 40) budget then Some Budget
    else None)
    else Some Seed

-- why no job is made: the first refusal that applies, or want of memory where none does
abbrev pub refusal_of : List ℕ → ℕ → ℕ → StartFault
refusal_of seeds count budget = unwrap_or (spec_fault seeds count budget) Memory

-- the seeds that are given, or the object's own where none is
abbrev pub seeds_or : List ℕ → List ℕ → List ℕ
seeds_or [] own = own
seeds_or (seed ∷ seeds) own = seed ∷ seeds

-- the count that is given, or the object's own where that is 0
abbrev pub count_or : ℕ → ℕ → ℕ
count_or count own = if count == 0 then own else count

-- the job of an object, with these seeds, this count and this budget
abbrev pub job_from : Parts → List ℕ → ℕ → ℕ → Job
job_from parts seeds count budget =
    record { parts = parts; streams = streams_of (seeds_or seeds parts.seeds); count = count_or count parts.count; budget = budget }
