-- Runs that follow one another.
use Rattle.std.proofs.Common.{◌≡◌, ℕ, List, [], ◌∷◌, ◌++◌, ◌+◌, length, arith, subst}
use Rattle.gw_step.specs.Job.{Job}
use Rattle.gw_figures.specs.declared.run.Run.{Run}
use Rattle.gw_study.specs.Runs.{IsRunOf, run_job, AreRunsFrom}

pub following : (j : Job) (from k n : ℕ) (xs ys : List Run) → AreRunsFrom j from k xs → k + length xs ≡ n → AreRunsFrom j from n ys
    → AreRunsFrom j from k (xs ++ ys)
following j from k n [] ys h is more = let there : n ≡ k = omega (arith, is) in subst (λ (i : ℕ). AreRunsFrom j from i ys) there more
following j from k n (x ∷ xs) ys h is more = (h.0, following j from (k + 1) n xs ys h.1 (omega (arith, is)) more)

-- one run more
pub run_more : (j : Job) (from k n : ℕ) (xs : List Run) (y : Run) → AreRunsFrom j from k xs → k + length xs ≡ n
    → IsRunOf (run_job j n) from y → AreRunsFrom j from k (xs ++ y ∷ [])
run_more j from k n xs y h is more = following j from k n xs (y ∷ []) h is (more, tt)
