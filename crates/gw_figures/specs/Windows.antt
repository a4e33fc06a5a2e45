-- A window of a run: the numbers of the states with which it begins and ends, and what the run did in
-- between.
use Rattle.std.specs.Prelude.{◌≡◌, Result, OnOk, Vec, ◌++◌, ℕ, ◌-◌, ◌*◌, ◌^◌, Bool, ℤ, pos, ◌*ℤ◌, List, map, nat_le, ◌==◌, ◌||◌, unsigned_abs}
use Rattle.std.specs.Prelude.{slice_index_or, Option, None, Some, if◌then◌else◌}
use Rattle.std.specs.Global.{Global}
use Rattle.std.specs.List.{range_with_len}
use Rattle.gw_statistics.specs.Rounding.{nearest, nearest_of}
use Rattle.gw_report.specs.Figures.{Figures}
use Rattle.gw_figures.specs.declared.window.Window.{Window}

-- whether it is the whole run, and the figures of its first and its last state
pub record Span : Type 0 where
  pub whole : Bool
  pub start : Figures
  pub end : Figures

-- the same of a window
abbrev pub span_of : Window → Span
span_of w = record { whole = w.whole; start = w.start.now; end = w.end.now }

-- how many clock units passed
abbrev pub span_length : Span → ℕ
span_length w = unsigned_abs w.end.clock - unsigned_abs w.start.clock

-- where all went well, values are added to others
abbrev pub AddsValues : {E : Type 0} → Result (Unit {0}) E → Vec (Option ℤ) Global → Vec (Option ℤ) Global → List (Option ℤ) → Type 0
AddsValues result old new added = OnOk result (new.items ≡ old.items ++ added)

-- IN MILLIONTHS

-- a whole number
abbrev pub units : ℕ → Option ℤ
units n = Some (pos (1000000 * n))

-- a whole number that may be below 0
abbrev pub signed_units : ℤ → Option ℤ
signed_units z = Some (pos 1000000 *ℤ z)

-- by how much a count has risen
abbrev pub rise : ℕ → ℕ → Option ℤ
rise before after = units (after - before)

-- a quotient, to the nearest; none by 0, or where it passes all measure
abbrev pub quotient : ℕ → ℕ → Option ℤ
quotient a n =
    if (n == 0) || nat_le (2 ^ 100) a then None else Some (pos (nearest (1000000 * a) n))

-- the same of a number that may be below 0
abbrev pub signed_quotient : ℤ → ℕ → Option ℤ
signed_quotient a n = if n == 0 then None else Some (nearest_of (pos 1000000 *ℤ a) n)

-- the greatest content of a run; a window doesn't tell it
abbrev pub greatest : Span → ℕ → Option ℤ
greatest w n = if w.whole then units n else None

-- CLASSES

-- how many values a class has, by its number
abbrev pub class_at : List ℕ → ℕ → ℕ
class_at classes i = slice_index_or classes i 0

-- how many values each of so many classes got
abbrev pub rises : ℕ → List ℕ → List ℕ → List ℕ
rises classes before after =
    map (λ i. class_at after i - class_at before i) (range_with_len 0 classes)
