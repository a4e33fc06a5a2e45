-- Where something stands on a line.
use Rattle.std.specs.Prelude.{ℕ, ◌<◌, ◌≤◌, List, length}

-- from one place of a line to another: at least one byte, and none behind its end
abbrev pub IsWithin : ℕ → ℕ → List ℕ → Type 0
IsWithin from to line = (from < to) × (to ≤ length line)
