use Rattle.std.proofs.Common.{◌≡◌, ◌<◌, ◌+◌, ℕ, [], length, get_or}
use Rattle.gw_answers.specs.Running.{AreStillAt}
use Rattle.gw_chart.specs.Windows.{moment}
use Rattle.gw_chart.specs.Samples.{StoodAt, AreBands}
use Rattle.gw_chart.proofs.samples.take_samples.Given as goal

abbrev pub invariant-loop-number : goal.invariant-loop-number
invariant-loop-number l =
    record {
      job : l.sim.job ≡ l.initial.sim.job;
      rows_count : length l.rows.items ≡ l.number + 1;
      rows_each : (i : ℕ) → i < l.number + 1 → StoodAt l.initial.sim.job (moment l.window i) (get_or l.rows.items i []);
      bands_count : length l.bands.items ≡ l.number;
      bands_each : (i : ℕ) → i < l.number → AreBands l.initial.sim.job (moment l.window i) (moment l.window (i + 1)) (get_or l.bands.items i []);
      still : AreStillAt l.initial.sim.job (moment l.window l.number) 0 l.sim.state.steps;
    }
