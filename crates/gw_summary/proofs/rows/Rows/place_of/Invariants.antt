-- no point before this one is called so
use Rattle.std.proofs.Common.{◌≡◌, ◌<◌, ℕ, false}
use Rattle.std.specs.Prelude.{slice_get}
use Rattle.gw_summary.specs.Holding.{is_called}
use Rattle.gw_summary.proofs.rows.Rows.place_of.Given as goal

abbrev pub invariant-loop-place : goal.invariant-loop-place
invariant-loop-place l = (n : ℕ) → n < l.place → is_called (slice_get l.self.points.items n) l.name ≡ false
