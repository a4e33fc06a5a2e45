-- Marks below a line that is shown, under the bytes that are at fault.
use Rattle.std.specs.Prelude.{◌≡◌, ℕ, ◌-◌, ◌==◌, ◌⊎◌, Bool, ◌&&◌, List, [], ◌∷◌, ◌++◌, take, drop, codes, nat_le, nat_lt, if◌then◌else◌}
use Rattle.std.specs.Fmt.{decimal}
use Rattle.std.specs.List.{flat_map}
use Rattle.gw_object.specs.declared.fault.Place.{Place}
use Rattle.gw_object.specs.declared.fault.Place.TheVariants.{Line}
use Rattle.gw_forms.specs.Places.{IsWithin}
use Rattle.gw_explain.specs.Shown.{text_line}

-- a byte goes on with a letter of several bytes
abbrev pub goes_on : ℕ → Bool
goes_on byte = nat_le 128 byte && nat_lt byte 192

-- what stands under a byte that isn't at fault: a tab under a tab, else a blank
abbrev pub blank_under : ℕ → List ℕ
blank_under byte = if goes_on byte then [] else if byte == 9 then 9 ∷ [] else 32 ∷ []

-- what stands under one that is
abbrev pub mark_under : ℕ → List ℕ
mark_under byte = if goes_on byte then [] else 94 ∷ []

-- what stands before a line of this number where it is shown
abbrev pub front_of_line : ℕ → List ℕ
front_of_line number = codes "line " ++ decimal number ++ codes " | "

-- a line of marks under the bytes from one place to another of a line of this number
abbrev pub marks_under : ℕ → List ℕ → ℕ → ℕ → List ℕ
marks_under number line from to =
    flat_map blank_under (front_of_line number ++ take from line) ++ flat_map mark_under (take (to - from) (drop from line)) ++ codes "\n"

-- below the line of a place: nothing, or marks under some of its bytes
abbrev pub IsMarked : List (List ℕ) → Place → List ℕ → Type 0
IsMarked lines (Line number) marks =
    (marks ≡ []) ⊎ ((from : ℕ) × (to : ℕ) × IsWithin from to (text_line lines number) × (marks ≡ marks_under number (text_line lines number) from to))
IsMarked lines place marks = marks ≡ []

-- a text gets the marks for the line of a place behind it
abbrev pub AddsMarks : List (List ℕ) → Place → List ℕ → List ℕ → Type 0
AddsMarks lines place old new = (marks : List ℕ) × IsMarked lines place marks × (new ≡ old ++ marks)
