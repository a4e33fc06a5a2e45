-- The numbers of an upright axis.
use Rattle.std.specs.Prelude.{ℕ, ◌^◌, ◌≤◌, ◌<◌}

-- 0, and so many more at equal steps
pub record Steps : Type 0 where
  pub step : ℕ
  pub count : ℕ

-- there are one to five steps, and they are no wider than numbers of 64 bits ask for
pub record AreFew (s : Steps) : Type 0 where
  pub step_least : 0 < s.step
  pub step_most : s.step ≤ 2 ^ 70
  pub count_least : 0 < s.count
  pub count_most : s.count ≤ 5
