-- What a study is asked for.
use Rattle.std.specs.Prelude.{◌≤◌, ℕ, ◌-◌, ◌*◌}
use Rattle.gw_study.specs.declared.request.StudyRequest.{StudyRequest}

-- at least one run of at least the first study of so many, all of the first 512, by at most 16 workers
pub record MayBeStudied (r : StudyRequest) : Type 0 where
  pub runs : 1 ≤ r.runs
  pub seeds : 1 ≤ r.seeds
  pub most : r.runs * r.seeds ≤ 512
  pub workers : r.workers ≤ 16

-- the first run of a study: behind those of the studies before
abbrev pub first_run : StudyRequest → ℕ
first_run r = (r.seeds - 1) * r.runs
