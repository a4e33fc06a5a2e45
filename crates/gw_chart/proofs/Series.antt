-- What grows by one at a time.
use Rattle.std.proofs.Common.{◌≡◌, ◌+◌, ℕ, suc, max, arith, refl, ap}
use Rattle.gw_chart.specs.Axes.{deepest}
pub use Rattle.gw_drawing.proofs.Series.{greatest_more, greatest_none, total_more, total_none}

pub deepest_more : (f : ℕ → ℕ) (i : ℕ) → deepest f (i + 1) ≡ max (deepest f i) (f i)
unfolding deepest
deepest_more f i = let e : i + 1 ≡ suc i = omega arith in ap (deepest f) e

pub deepest_none : (f : ℕ → ℕ) → deepest f 0 ≡ 0
unfolding deepest
deepest_none f = refl
