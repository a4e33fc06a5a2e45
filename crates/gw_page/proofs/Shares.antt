-- What a run has of the limits.
use Rattle.std.proofs.Common.{◌≡◌, ◌≤◌, ◌<◌, ◌∙◌, ℕ, ◌+◌, List, [], ◌∷◌, ◌++◌, length, take, All, Any, Bool, true, false, Result, Ok, Err, IfOk, inl}
use Rattle.std.proofs.Common.{ap, sym, subst, slice_index_or}
use Rattle.std.proofs.lemmas.List.{take_all, take_more}
use Rattle.std.proofs.lemmas.List.Elements.{All-append, All-cons, All-nil}
use Rattle.gw_alternatives.specs.declared.study_point.StudyPoint.{StudyPoint}
use Rattle.gw_step.specs.Job.{Job}
use Rattle.gw_figures.specs.Labels.{labels_of}
use Rattle.gw_study.specs.Runs.{run_job}
use Rattle.gw_page.specs.Counting.{TakesAtMost, TakesMore, IsCounted, end_of_time}
use Rattle.gw_page.specs.Limits.{IsShare}

-- a run of a job's object that was counted, with few enough figures
pub shared : {E : Type 0} (number steps numbers : ℕ) (j job : Job) (r : Result Bool E) → job ≡ run_job j number → length (labels_of j.parts) ≤ numbers
    → IfOk r (IsCounted end_of_time steps job) → IfOk r (IsShare number steps numbers j)
shared number steps numbers j job (Ok true) is few h = (subst (λ x. TakesAtMost end_of_time steps x) is h, few)
shared number steps numbers j job (Ok false) is few h = inl (subst (λ x. TakesMore end_of_time steps x) is h)
shared number steps numbers j job (Err e) is few h = tt

-- one point with less, or all with theirs
pub one : (P : StudyPoint → Type 0) (points : List StudyPoint) (i : ℕ) (a : StudyPoint) → i < length points → a
    ≡ slice_index_or points i a → P a → Any P points
one P points i a within at h = (i, a, within, sym at, h)

pub more : (P : StudyPoint → Type 0) (points : List StudyPoint) (i : ℕ) (a : StudyPoint) → i < length points → a
    ≡ slice_index_or points i a → All P (take i points) → P a
    → All P (take (i + 1) points)
more P points i a within at before h =
    subst (λ xs. All P xs) (sym (take_more points i a within ∙ ap (λ (y : StudyPoint). take i points ++ y ∷ []) (sym at)))
    (All-append P (take i points) (a ∷ []) before (All-cons P a [] h (All-nil P)))

pub all : (P : StudyPoint → Type 0) (points : List StudyPoint) (i : ℕ) → length points ≤ i → All P (take i points) → All P points
all P points i over before = subst (λ xs. All P xs) (take_all i points over) before

-- what was found of a point that stands at a place is found of the point
pub known : (number steps numbers : ℕ) (a x : StudyPoint) (found within : Bool) → a ≡ x → found ≡ within → IsShare number steps numbers x.spec found
    → IsShare number steps numbers a.spec within
known number steps numbers a x found within at is h =
    subst (λ (y : StudyPoint). IsShare number steps numbers y.spec within) (sym at) (subst (λ b. IsShare number steps numbers x.spec b) is h)
