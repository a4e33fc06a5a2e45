-- Shares divide all jobs.
use Rattle.std.proofs.Common.{arith, ◌≡◌, ◌∙◌, ◌<◌, ◌≤◌, ℕ, zero, suc, ◌+◌, ◌-◌, ◌*◌, ◌/◌, ◌∷◌, ◌++◌, sym, ap}
use Rattle.std.specs.List.{range_with_len}
use Rattle.std.proofs.Math.Nat.{div-mul-le_self, zero-div}
use Rattle.std.proofs.lemmas.Nat.{div-mul-add, le-div}
use Rattle.gw_experiment.specs.Shares.{start_of, share_of, jobs_of, jobs_of_first, SharesAreAllJobs, RunsAreJobs}

-- numbers that follow one another
following : (a m n : ℕ) → range_with_len a m ++ range_with_len (a + m) n ≡ range_with_len a (m + n)
following a zero n =
    let there : a + 0 ≡ a = omega arith in
    let all : n ≡ 0 + n = omega arith in
    ap (λ k. range_with_len k n) there ∙ ap (range_with_len a) all
following a (suc m) n =
    let there : a + suc m ≡ a + 1 + m = omega arith in
    let all : suc (m + n) ≡ suc m + n = omega arith in
    ap (λ k. a ∷ (range_with_len (a + 1) m ++ range_with_len k n)) there
    ∙ ap (λ xs. a ∷ xs) (following (a + 1) m n) ∙ ap (range_with_len a) all

-- a share doesn't begin behind its end
rising : (jobs n shares : ℕ) → 0 < shares → start_of jobs n shares ≤ start_of jobs (n + 1) shares
rising jobs n shares some =
    let below : n * jobs / shares * shares ≤ n * jobs = div-mul-le_self (n * jobs) shares in
    le-div (n * jobs / shares) ((n + 1) * jobs) shares some (omega (arith, below))

-- the first shares have all jobs before where the next begins
first_jobs : (n jobs shares : ℕ) → 0 < shares → jobs_of_first n jobs shares ≡ range_with_len 0 (start_of jobs n shares)
first_jobs zero jobs shares some =
    let nothing : 0 * jobs ≡ 0 = omega arith in
    let none : 0 * jobs / shares ≡ 0 = ap (λ n. n / shares) nothing ∙ zero-div shares in
    ap (range_with_len 0) (sym none)
first_jobs (suc n) jobs shares some =
    let start = start_of jobs n shares in
    let end = start_of jobs (n + 1) shares in
    let up : start ≤ end = rising jobs n shares some in
    let all : start + (end - start) ≡ end = omega (arith, up) in
    let front : 0 + start ≡ start = omega arith in
    let next : n + 1 ≡ suc n = omega arith in
    ap (λ xs. xs ++ jobs_of (share_of jobs n shares)) (first_jobs n jobs shares some)
    ∙ ap (λ k. range_with_len 0 start ++ range_with_len k (end - start)) (sym front)
    ∙ following 0 start (end - start) ∙ ap (range_with_len 0) all ∙ ap (λ k. range_with_len 0 (start_of jobs k shares)) next

pub all_jobs : SharesAreAllJobs
all_jobs jobs shares some =
    let all : shares * jobs / shares ≡ jobs = let turned : shares * jobs ≡ jobs * shares + 0 = omega arith in ap (λ n. n / shares) turned
    ∙ div-mul-add jobs shares 0 some in
    first_jobs shares jobs shares some ∙ ap (range_with_len 0) all

pub runs_of_jobs : RunsAreJobs
runs_of_jobs share point runs run below = (
  λ h. (omega (arith, h.0, below), omega (arith, h.1, below)),
  λ h. (omega (arith, h.0, below), omega (arith, h.1, below)),
)
