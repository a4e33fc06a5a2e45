-- Shares of an experiment's jobs, and the runs of points that these are.
use Rattle.std.specs.Prelude.{◌≡◌, ◌↔◌, ◌<◌, ◌≤◌, ℕ, zero, suc, ◌+◌, ◌-◌, ◌*◌, ◌/◌, min, List, [], ◌++◌}
use Rattle.std.specs.List.{range_with_len}
use Rattle.gw_experiment.specs.declared.shares.Share.{Share}

-- where a share begins, by its number from 0, of so many that divide so many jobs
abbrev pub start_of : ℕ → ℕ → ℕ → ℕ
start_of jobs number shares = number * jobs / shares

-- the share of a number: it ends where the next one begins
abbrev pub share_of : ℕ → ℕ → ℕ → Share
share_of jobs number shares = record { first = start_of jobs number shares; end = start_of jobs (number + 1) shares }

-- the jobs of a share, in order
abbrev pub jobs_of : Share → List ℕ
jobs_of share = range_with_len share.first (share.end - share.first)

-- the jobs of the first so many shares, one behind the other
abbrev pub jobs_of_first : ℕ → ℕ → ℕ → List ℕ
jobs_of_first zero jobs shares = []
jobs_of_first (suc n) jobs shares = jobs_of_first n jobs shares ++ jobs_of (share_of jobs n shares)

-- all shares together have all jobs, each once, in order
abbrev pub SharesAreAllJobs : Type 0
SharesAreAllJobs = (jobs shares : ℕ) → 0 < shares → jobs_of_first shares jobs shares ≡ range_with_len 0 jobs

-- the run of a point, from 0, at which a job stands: before its first run or behind its last for jobs of other points
abbrev pub run_at : ℕ → ℕ → ℕ → ℕ
run_at job point runs = min (job - point * runs) runs

-- a share has a job
abbrev pub HasJob : Share → ℕ → Type 0
HasJob share job = (share.first ≤ job) × (job < share.end)

-- a run lies between the runs at which the jobs of a share begin and end
abbrev pub IsRunOfPoint : Share → ℕ → ℕ → ℕ → Type 0
IsRunOfPoint share point runs run = (run_at share.first point runs ≤ run) × (run < run_at share.end point runs)

-- the runs that a share has of a point are its jobs: run r of point p is the job p * runs + r
abbrev pub RunsAreJobs : Type 0
RunsAreJobs = (share : Share) (point runs run : ℕ) → run < runs → HasJob share (point * runs + run) ↔ IsRunOfPoint share point runs run
