-- By how much averages and contents change from one window of a run to another.
use Rattle.std.specs.Prelude.{ℕ, ◌+◌, ◌^◌, List, [], ◌∷◌, nat_le, Bool, ◌&&◌, ◌||◌, ℤ, ◌-ℤ◌, unsigned_abs, Option, None, Some, if◌then◌else◌}
use Rattle.std.specs.List.{slice_get}
use Rattle.gw_figures.specs.Labels.{Label}

-- small enough to be compared
abbrev pub is_small : ℤ → Bool
is_small z = nat_le (unsigned_abs z) (2 ^ 99)

-- by how much the second is greater, where both can be told
abbrev pub difference : Option ℤ → Option ℤ → Option ℤ
difference (Some a) (Some b) = if is_small a && is_small b then Some (b -ℤ a) else None
difference (Some a) None = None
difference None b = None

-- what stands at a place, if anything does
abbrev pub value_at_place : Option (Option ℤ) → Option ℤ
value_at_place None = None
value_at_place (Some value) = value

abbrev pub value_at : ℕ → List (Option ℤ) → Option ℤ
value_at place values = value_at_place (slice_get values place)

-- by how much a figure at a place changes, where it is an average or a content
abbrev pub change : List (Option ℤ) → List (Option ℤ) → ℕ → Label → Option ℤ
change before after place figure =
    if figure.average || figure.content then difference (value_at place before) (value_at place after) else None

-- the changes of these figures, the first of which is at this place
unfoldable pub changes_from : List (Option ℤ) → List (Option ℤ) → ℕ → List Label → List (Option ℤ)
changes_from before after place [] = []
changes_from before after place (figure ∷ rest) =
    change before after place figure ∷ changes_from before after (place + 1) rest

-- all changes
abbrev pub changes : List Label → List (Option ℤ) → List (Option ℤ) → List (Option ℤ)
changes figures before after = changes_from before after 0 figures
