-- Which runs are there, and which should be.
use Rattle.std.specs.Prelude.{◌≡◌, ◌≤◌, ◌<◌, ℕ, ◌-◌, ◌/◌, ◌%◌, max, min, List, [], ◌∷◌, length}
use Rattle.std.specs.List.{All}
use Rattle.gw_summary.specs.Adding.{IsWhole}
use Rattle.gw_summary.specs.declared.point.PointRows.{PointRows}
use Rattle.gw_summary.specs.declared.rows.Rows.{Rows}
use Rattle.gw_summary.specs.declared.study.Study.{Study}

-- a run is the first of the study of this number whose last run is before another
abbrev pub IsFirstOf : ℕ → ℕ → ℕ → Type 0
IsFirstOf end seeds first = (0 < seeds) × (end % seeds ≡ 0) × (first ≡ end - end / seeds)

-- each point has just the runs of the study of this number
pub record AreComplete (points : List PointRows) (seeds : ℕ) : Type 0 where
  pub first : ℕ
  pub end : ℕ
  pub study : IsFirstOf end seeds first
  pub few : end ≤ 512
  pub each : All (λ p. IsWhole p.lines.items first end) points

-- the number behind the last place of points, at most 512
unfoldable pub end_of_points : List PointRows → ℕ
end_of_points [] = 0
end_of_points (point ∷ points) = max (min (length point.lines.items) 512) (end_of_points points)

-- points have all runs of the study of a number, and rows don't say how many there are
pub record HasAllRuns (rows : Rows) (study : Study) (seeds : ℕ) : Type 0 where
  pub first : ℕ
  pub study_is : IsFirstOf (end_of_points rows.points.items) seeds first
  pub whole : All (λ p. IsWhole p.lines.items first (end_of_points rows.points.items)) rows.points.items
  pub no_number : study.origin.rows ≡ 0
