-- What a line of a run does to those that are there.
use Rattle.std.specs.Prelude.{◌≡◌, ◌<◌, ◌≤◌, List, ℕ, nat_le, length, slice_get, Option, Some, None, Vec, Bool, true, false, if◌then◌else◌}
use Rattle.std.specs.Global.{Global}
use Rattle.std.specs.Str.{bytes_eq}
use Rattle.gw_summary.specs.declared.point.Adding.{Adding}
use Rattle.gw_summary.specs.declared.point.Adding.TheVariants.{New, Again, Unlike}

-- the line of a run, if it has one
abbrev pub Line : Type 0
Line = Option (Vec ℕ Global)

-- what stands at the place of a run, if there is one: its line, if it has one
abbrev pub Place : Type 0
Place = Option Line

-- a run that has no line is new; a line that is there comes again; another line of the run is unlike
abbrev pub addition_to : Place → List ℕ → Adding
addition_to None line = New
addition_to (Some None) line = New
addition_to (Some (Some known)) line = if bytes_eq known.items line then Again else Unlike

-- what a line of the run of a number does to those that are there
abbrev pub adding_at : List Line → ℕ → List ℕ → Adding
adding_at lines number line = addition_to (slice_get lines number) line

-- a run has a line
abbrev pub has : Place → Bool
has None = false
has (Some None) = false
has (Some (Some line)) = true

-- the same runs have lines
abbrev pub HaveSameRuns : List Line → List Line → Type 0
HaveSameRuns old new = (number : ℕ) → has (slice_get new number) ≡ has (slice_get old number)

-- a run has a line if it isn't before the first, and else it has none
abbrev pub IsRight : List Line → ℕ → ℕ → Type 0
IsRight lines first number = has (slice_get lines number) ≡ nat_le first number

-- just the runs from one number to another, but not that one, have lines
pub record IsWhole (lines : List Line) (first end : ℕ) : Type 0 where
  pub few : length lines ≤ end
  pub each : (number : ℕ) → number < end → has (slice_get lines number) ≡ nat_le first number
