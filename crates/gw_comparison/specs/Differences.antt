-- The differences of a point to another, by pairs of runs.
use Rattle.std.specs.Prelude.{◌≡◌, ℕ, ◌+◌, ◌≤◌, ◌<◌, ◌^◌, nat_lt, nat_le, List, [], ◌∷◌, ◌++◌, length, codes, ℤ, unsigned_abs, Bool}
use Rattle.std.specs.Prelude.{if◌then◌else◌, Option, Some, None, MatchBool}
use Rattle.std.specs.List.{All}
use Rattle.gw_statistics.specs.Pairs.{differences}
use Rattle.gw_statistics.specs.Telling.{told, told_half_width}
use Rattle.gw_statistics.specs.declared.summary.Summary.{Summary}
use Rattle.gw_writing.specs.Columns.{left, right}
use Rattle.gw_writing.specs.Decimals.{with_point}
use Rattle.gw_comparison.specs.Points.{column_of, is_told, values_in, IsAccount}
use Rattle.gw_comparison.specs.declared.accounts.Account.{Account}
use Rattle.gw_comparison.specs.declared.point.Column.{Column}
use Rattle.gw_comparison.specs.declared.point.Point.{Point}

-- a mean lies further from 0 than its half-width, and than what rounding of values and of the mean may add
abbrev pub differs : ℤ → ℕ → Bool
differs mean half_width = nat_lt (half_width + 2) (unsigned_abs mean)

-- what is said of a difference
abbrev pub verdict_of : ℤ → ℕ → List ℕ
verdict_of mean half_width = if differs mean half_width then codes "  differs\n" else codes "  no difference seen\n"

-- the half-width of a difference, if it is known, and what is said
abbrev pub known_confidence : ℤ → ℕ → List ℕ
known_confidence mean half_width = right 16 (with_point 3 (told_half_width mean half_width)) ++ verdict_of mean half_width

abbrev pub no_confidence : List ℕ
no_confidence = right 16 (codes "-") ++ codes "\n"

abbrev pub confidence : ℤ → Option ℕ → List ℕ
confidence mean None = no_confidence
confidence mean (Some half_width) = if nat_le half_width (2 ^ 120) then known_confidence mean half_width else no_confidence

-- the numbers of a row
unfoldable pub summary_text : Option Summary → List ℕ
summary_text None = right 16 (codes "-") ++ right 16 (codes "-") ++ codes "\n"
summary_text (Some summary) = right 16 (told summary.mean) ++ confidence summary.mean summary.half_width

-- the mean of what values say
unfoldable pub mean_text : Option Summary → List ℕ
mean_text None = right 16 (codes "-")
mean_text (Some summary) = right 16 (told summary.mean)

-- the mean of a column
pub record AddsMean (column : Column) (old new : List ℕ) : Type 0 where
  pub account : Account
  pub said : IsAccount (values_in column.values.items) account
  pub row : new ≡ old ++ mean_text account.summary

-- what the differences of two columns say, run by run
pub record AddsDifference (first second : Column) (old new : List ℕ) : Type 0 where
  pub account : Account
  pub said : IsAccount (differences first.values.items second.values.items) account
  pub row : new ≡ old ++ summary_text account.summary

-- the row of a figure: its name, the mean of each column, and what the differences say
pub record AddsRow (first second : Column) (old new : List ℕ) : Type 0 where
  pub behind_first : List ℕ
  pub behind_second : List ℕ
  pub at_first : AddsMean first (old ++ left 40 first.name.items) behind_first
  pub at_second : AddsMean second behind_first behind_second
  pub difference : AddsDifference first second behind_second new

-- the row of a figure, if the other point has it
abbrev pub AddsRowOf : Column → Option Column → List ℕ → List ℕ → Type 0
AddsRowOf first None old new = new ≡ old
AddsRowOf first (Some second) old new = AddsRow first second old new

-- the same, where it is told
abbrev pub AddsRowIfTold : Bool → Column → List Column → List ℕ → List ℕ → Type 0
AddsRowIfTold all first others old new =
    MatchBool (is_told all first) (AddsRowOf first (column_of first.name.items others) old new) (new ≡ old)

-- the rows of figures, one after the other
unfoldable pub AddsRows : Bool → List Column → List Column → List ℕ → List ℕ → Type 0
AddsRows all [] others old new = new ≡ old
AddsRows all (first ∷ rest) others old new =
    (middle : List ℕ) × AddsRowIfTold all first others old middle × AddsRows all rest others middle new

-- what is taken off
abbrev pub less : List ℕ → List ℕ
less first = codes " LESS " ++ first ++ codes "\n"

-- the lines above the rows: what is less than what, and what the columns are
unfoldable pub title : List ℕ → List ℕ → List ℕ
title first second = (codes "DIFFERENCE " ++ second) ++ less first

abbrev pub heads : List ℕ → List ℕ → List ℕ
heads first second = left 40 (codes "FIGURE") ++ right 16 first ++ right 16 second ++ right 16 (codes "DIFFERENCE") ++ right 16 (codes "HALF-WIDTH") ++ codes "\n"

-- what is told of a point and the first
abbrev pub AddsDifferences : Bool → Point → Point → List ℕ → List ℕ → Type 0
AddsDifferences all first second old new =
    AddsRows all first.columns.items second.columns.items (old ++ title first.name.items second.name.items ++ heads first.name.items second.name.items) new
