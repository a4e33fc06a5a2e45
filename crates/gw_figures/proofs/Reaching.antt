-- The first class up to which so many of a hundred values lie.
use Rattle.std.proofs.Common.{◌≡◌, ◌≤◌, ◌<◌, ℕ, zero, suc, ◌+◌, ◌-◌, ◌*◌, add-one, arith, refl, Bool, true, false, List, [], ◌∷◌, sum, take, nat_le}
use Rattle.std.proofs.Common.{if◌then◌else◌}
use Rattle.std.proofs.lemmas.Bool.{leb-true, leb-false}
use Rattle.std.proofs.lemmas.List.Sums.{sum_by-cons}
use Rattle.gw_figures.specs.Values.{class_reaching, IsClassReaching, PercentilesAreOfFirstClasses}

-- the values of a class in front of others
sum_more : (i v : ℕ) (rest : List ℕ) → sum (take (i + 1 + 1) (v ∷ rest)) ≡ v + sum (take (i + 1) rest)
sum_more i v rest = rw (add-one (i + 1)) (sum_by-cons (λ x. x) v (take (i + 1) rest))

-- where a class alone is fewer, those up to a class behind it are
fewer : (goal v : ℕ) (rest : List ℕ) (i k : ℕ) → 100 * v < goal → IsClassReaching (goal - 100 * v) rest i → k < i + 1
    → 100 * sum (take (k + 1) (v ∷ rest)) < goal
fewer goal v rest i zero more h below = omega (arith, more)
fewer goal v rest i (suc k) more h below =
    let before = h.before k (omega (arith, below)) in
    let step : sum (take (suc k + 1) (v ∷ rest)) ≡ v + sum (take (k + 1) rest) = rw (add-one (suc k), add-one k) (sum_by-cons (λ x. x) v (take (suc k) rest)) in
    omega (arith, before, step, more)

-- the next class is looked for behind it
behind : (goal v : ℕ) (rest : List ℕ) (i : ℕ) → 100 * v < goal → IsClassReaching (goal - 100 * v) rest i → IsClassReaching goal (v ∷ rest) (i + 1)
behind goal v rest i more h = record {
  reached = λ below. let enough = h.reached (omega (arith, below)) in let is = sum_more i v rest in omega (arith, enough, is, more);
  before = λ k below. fewer goal v rest i k more h below;
}

-- a class that is enough is the first
first : (goal v : ℕ) (rest : List ℕ) → goal ≤ 100 * v → IsClassReaching goal (v ∷ rest) 0
first goal v rest enough = record {
  reached = λ below. omega (arith, enough);
  before = λ k below. absurd (omega (arith, below));
}

-- either of both
chosen : (goal v : ℕ) (rest : List ℕ) (b : Bool) → nat_le goal (100 * v) ≡ b
    → IsClassReaching (goal - 100 * v) rest (class_reaching (goal - 100 * v) rest)
    → IsClassReaching goal (v ∷ rest) (if b then 0 else class_reaching (goal - 100 * v) rest + 1)
chosen goal v rest true is h = first goal v rest (leb-true goal (100 * v) is)
chosen goal v rest false is h = behind goal v rest (class_reaching (goal - 100 * v) rest) (leb-false goal (100 * v) is) h

pub percentiles_are_of_first_classes : PercentilesAreOfFirstClasses
unfolding class_reaching
percentiles_are_of_first_classes goal [] = record {
  reached = λ below. absurd (omega (arith, below));
  before = λ k below. absurd (omega (arith, below));
}
percentiles_are_of_first_classes goal (v ∷ rest) =
    chosen goal v rest (nat_le goal (100 * v)) refl (percentiles_are_of_first_classes (goal - 100 * v) rest)
