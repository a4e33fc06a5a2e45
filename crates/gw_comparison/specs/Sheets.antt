-- Points as CSV: a record for each figure of each point, and then for each difference.
use Rattle.std.specs.Prelude.{◌≡◌, ℕ, ◌^◌, nat_le, List, [], ◌∷◌, ◌++◌, codes, ℤ, pos, Bool, if◌then◌else◌, Option, Some, None, MatchBool}
use Rattle.std.specs.Fmt.{decimal}
use Rattle.gw_statistics.specs.Pairs.{differences}
use Rattle.gw_statistics.specs.declared.summary.Summary.{Summary}
use Rattle.gw_writing.specs.Decimals.{signed_with_point}
use Rattle.gw_records.specs.Records.{record_text}
use Rattle.gw_comparison.specs.Points.{column_of, is_told, values_in, IsAccount}
use Rattle.gw_comparison.specs.declared.accounts.Account.{Account}
use Rattle.gw_comparison.specs.declared.point.Column.{Column}
use Rattle.gw_comparison.specs.declared.point.Point.{Point}

-- what is added for each of several, one behind the other
unfoldable pub AddsEach : {X : Type 0} → (X → List ℕ → List ℕ → Type 0) → List X → List ℕ → List ℕ → Type 0
AddsEach Adds [] old new = new ≡ old
AddsEach Adds (x ∷ rest) old new = (middle : List ℕ) × Adds x old middle × AddsEach Adds rest middle new

-- FIELDS

-- what the fields are
abbrev pub head_fields : List (List ℕ)
head_fields =
    codes "point" ∷ codes "figure" ∷ codes "runs" ∷ codes "mean" ∷ codes "half-width" ∷ codes "least" ∷ codes "greatest" ∷ []

-- a half-width, if it is known
abbrev pub half_width_field : Option ℕ → List ℕ
half_width_field None = []
half_width_field (Some half_width) = if nat_le half_width (2 ^ 120) then signed_with_point 6 (pos half_width) else []

-- the fields of a figure with so many values, by what these say
abbrev pub account_fields : List ℕ → List ℕ → ℕ → Option Summary → List (List ℕ)
account_fields point figure count None = point ∷ figure ∷ codes "0" ∷ [] ∷ [] ∷ [] ∷ [] ∷ []
account_fields point figure count (Some s) =
    point ∷ figure ∷ decimal count ∷ signed_with_point 6 s.mean ∷ half_width_field s.half_width ∷ signed_with_point 6 s.least
    ∷ signed_with_point 6 s.greatest ∷ []

-- the record of a figure whose values this summary is of
abbrev pub summary_record : List ℕ → List ℕ → ℕ → Summary → List ℕ
summary_record point figure count summary = record_text (account_fields point figure count (Some summary))

-- the record of a figure, by its account
abbrev pub account_record : List ℕ → List ℕ → Account → List ℕ
account_record point figure account = record_text (account_fields point figure account.count account.summary)

-- the record of a figure, by what its values say
pub record AddsRecord (point figure : List ℕ) (values : List ℤ) (old new : List ℕ) : Type 0 where
  pub account : Account
  pub said : IsAccount values account
  pub row : new ≡ old ++ account_record point figure account

-- POINTS

-- the record of a column, where it is told
abbrev pub AddsColumn : Bool → List ℕ → Column → List ℕ → List ℕ → Type 0
AddsColumn all point column old new =
    MatchBool (is_told all column) (AddsRecord point column.name.items (values_in column.values.items) old new) (new ≡ old)

-- the records of a point
abbrev pub AddsColumns : Bool → Point → List ℕ → List ℕ → Type 0
AddsColumns all point old new = AddsEach (AddsColumn all point.name.items) point.columns.items old new

-- DIFFERENCES

-- what a difference is called
abbrev pub difference_name : List ℕ → List ℕ → List ℕ
difference_name first second = second ++ codes " LESS " ++ first

-- the record of the differences of two columns
abbrev pub AddsPairRecord : List ℕ → Column → Column → List ℕ → List ℕ → Type 0
AddsPairRecord name first second old new =
    AddsRecord name first.name.items (differences first.values.items second.values.items) old new

-- the record of the differences of a figure, if the other point has it
abbrev pub AddsDifferenceRecord : List ℕ → Column → Option Column → List ℕ → List ℕ → Type 0
AddsDifferenceRecord name first None old new = new ≡ old
AddsDifferenceRecord name first (Some second) old new = AddsPairRecord name first second old new

-- the same, where it is told
abbrev pub AddsDifferenceIfTold : Bool → List ℕ → List Column → Column → List ℕ → List ℕ → Type 0
AddsDifferenceIfTold all name others first old new =
    MatchBool (is_told all first) (AddsDifferenceRecord name first (column_of first.name.items others) old new) (new ≡ old)

-- the records of the differences of columns, each to the one of its name, where it is told
abbrev pub AddsPairRecords : Bool → List ℕ → List Column → List Column → List ℕ → List ℕ → Type 0
AddsPairRecords all name others columns old new = AddsEach (AddsDifferenceIfTold all name others) columns old new

-- the records of the differences of a point to the first
abbrev pub AddsDifferenceRecords : Bool → Point → Point → List ℕ → List ℕ → Type 0
AddsDifferenceRecords all first second old new =
    AddsPairRecords all (difference_name first.name.items second.name.items) second.columns.items first.columns.items old new

-- those of other points to the first
abbrev pub AddsOtherRecords : Bool → Point → List Point → List ℕ → List ℕ → Type 0
AddsOtherRecords all first others old new = AddsEach (AddsDifferenceRecords all first) others old new

-- those of all points behind the first
abbrev pub AddsAllDifferenceRecords : Bool → List Point → List ℕ → List ℕ → Type 0
AddsAllDifferenceRecords all [] old new = new ≡ old
AddsAllDifferenceRecords all (first ∷ rest) old new = AddsOtherRecords all first rest old new

-- THE SHEET

-- the names of the fields, the records of all points, and those of the differences of each to the first
abbrev pub AddsSheet : Bool → List Point → List ℕ → List ℕ → Type 0
AddsSheet all points old new =
    (middle : List ℕ) × AddsEach (AddsColumns all) points (old ++ record_text head_fields) middle × AddsAllDifferenceRecords all points middle new
