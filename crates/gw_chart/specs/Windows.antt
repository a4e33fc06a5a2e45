-- Which part of a run is shown.
use Rattle.std.specs.Prelude.{ℕ, ◌+◌, ◌-◌, ◌^◌, min, max, ℤ, pos, unsigned_abs}
use Rattle.gw_drawing.specs.Numbers.{part_of_length}
use Rattle.gw_chart.specs.declared.window.Window.{Window}

-- the part of a window that a run has, whose end is at a clock
abbrev pub clip : Window → ℤ → Window
clip w end = record { from = min w.from (unsigned_abs end); to = min w.to (unsigned_abs end) }

-- the clock of a moment, by its number: the first is where a window begins, the last, 499, where it ends, and the
-- others lie evenly between them; no clock is above 2^63 - 1
abbrev pub moment : Window → ℕ → ℤ
moment w i = pos (min (w.from + part_of_length (w.to - w.from) i 499) (2 ^ 63 - 1))

-- how long the clock axis is: at least 1
abbrev pub span_of : Window → ℕ
span_of w = max (w.to - w.from) 1
