-- What runs of a point say.
use Rattle.std.specs.Prelude.{◌≡◌, ℕ, List, [], ◌∷◌, length, ℤ, Bool, ◌||◌, if◌then◌else◌, Option, Some, None}
use Rattle.std.specs.Str.{bytes_eq}
use Rattle.gw_statistics.specs.Pairs.{with_value}
use Rattle.gw_statistics.specs.Summaries.{IsSummary}
use Rattle.gw_comparison.specs.declared.point.Column.{Column}
use Rattle.gw_comparison.specs.declared.accounts.Account.{Account}

-- a column has this name
abbrev pub is_named : List ℕ → Column → Bool
is_named name column = bytes_eq column.name.items name

-- the first column of a name
unfoldable pub column_of : List ℕ → List Column → Option Column
column_of name [] = None
column_of name (column ∷ columns) = if is_named name column then Some column else column_of name columns

-- a column is told where all are, or where it is a main one
abbrev pub is_told : Bool → Column → Bool
is_told all column = all || column.is_main

-- the values that are there
unfoldable pub values_in : List (Option ℤ) → List ℤ
values_in [] = []
values_in (value ∷ values) = with_value value (values_in values)

-- how many values there are, and what they say
pub record IsAccount (values : List ℤ) (account : Account) : Type 0 where
  pub count : account.count ≡ length values
  pub summary : IsSummary values account.summary
