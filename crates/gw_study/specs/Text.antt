-- The lines of a study.
use Rattle.std.specs.Prelude.{ℕ, ◌^◌, nat_le, List, ◌++◌, codes, ℤ, Option, None, Some, if◌then◌else◌}
use Rattle.gw_statistics.specs.declared.summary.Summary.{Summary}
use Rattle.gw_statistics.specs.Telling.{told, told_half_width}
use Rattle.gw_writing.specs.Columns.{left, right}
use Rattle.gw_writing.specs.Decimals.{with_point}

-- a value of millionths in its column
abbrev pub value_column : ℤ → List ℕ
value_column z = right 16 (told z)

-- a half-width as it is told, or a line where there is none
abbrev pub half_width_text : ℤ → Option ℕ → List ℕ
half_width_text mean None = codes "-"
half_width_text mean (Some h) =
    if nat_le h (2 ^ 64) then with_point 3 (told_half_width mean h) else codes "-"

abbrev pub half_width_column : ℤ → Option ℕ → List ℕ
half_width_column mean h = right 16 (half_width_text mean h)

-- what is said of a figure: its mean, least and greatest value, and the half-width
abbrev pub said_columns : Option Summary → List ℕ
said_columns None = right 16 (codes "-")
said_columns (Some s) =
    value_column s.mean ++ value_column s.least ++ value_column s.greatest
    ++ half_width_column s.mean s.half_width

-- the row of a figure
abbrev pub row_line : List ℕ → Option Summary → List ℕ
row_line name said = left 40 name ++ said_columns said ++ codes "\n"

-- the line above the rows
abbrev pub head_line : List ℕ
head_line =
    left 40 (codes "FIGURE") ++ right 16 (codes "MEAN") ++ right 16 (codes "LEAST")
    ++ right 16 (codes "GREATEST") ++ right 16 (codes "HALF-WIDTH") ++ codes "\n"
