-- Rows: a run, and of what it is one, as a line of CSV.
use Rattle.std.specs.Prelude.{◌≡◌, ℕ, ◌+◌, ◌==◌, ◌&&◌, List, [], ◌∷◌, ◌++◌, map, codes, Bool, ℤ, Option, Result, OnOk, Vec, if◌then◌else◌}
use Rattle.std.specs.Borrow.{Bor}
use Rattle.std.specs.Fmt.{decimal}
use Rattle.std.specs.Global.{Global}
use Rattle.std.specs.Str.{bytes_eq}
use Rattle.csv.specs.Writing.{row_text, default_writer}
use Rattle.gw_scan.specs.declared.sim.Status.TheVariants.{Ended}
use Rattle.gw_report.specs.Report.{status_word}
use Rattle.gw_figures.specs.Labels.{Label, labels}
use Rattle.gw_figures.specs.Trends.{value_at}
use Rattle.gw_figures.specs.declared.figure.Figure.{Figure}
use Rattle.gw_figures.specs.declared.run.Overdraw.{Overdraw}
use Rattle.gw_figures.specs.declared.run.Run.{Run}
use Rattle.gw_rows.specs.Amounts.{amount_field}
use Rattle.gw_rows.specs.Names.{has_trend}
use Rattle.gw_rows.specs.declared.origin.Origin.{Origin}

-- what fields say
abbrev pub texts : List (Vec ℕ Global) → List (List ℕ)
texts fields = map (λ f. f.items) fields

-- where all went well, fields are added to others
abbrev pub AddsFields : {E : Type 0} → Result (Unit {0}) E → Vec (Vec ℕ Global) Global → Vec (Vec ℕ Global) Global → List (List ℕ) → Type 0
AddsFields result old new added = OnOk result (texts new.items ≡ texts old.items ++ added)

-- and those that are lent
abbrev pub lent_texts : List (Bor (List ℕ)) → List (List ℕ)
lent_texts fields = map (λ f. f.now) fields

-- how many rows there are in all: empty where that isn't known
abbrev pub rows_field : ℕ → List ℕ
rows_field rows = if rows == 0 then [] else decimal rows

-- of what a run is one: the digest of the model, how many rows there are in all or 0, the point, the count, and where its window
-- begins
pub record Source : Type 0 where
  pub model : List ℕ
  pub rows : ℕ
  pub point : List ℕ
  pub count : ℕ
  pub from : ℕ

abbrev pub source_of : Origin → Source
source_of o = record { model = o.model.items; rows = o.rows; point = o.point.items; count = o.count; from = o.from }

-- rows of two sources are of one study: they may be of two of its points
abbrev pub is_of_study : Source → Source → Bool
is_of_study s t = bytes_eq s.model t.model && (s.rows == t.rows) && (s.count == t.count) && (s.from == t.from)

-- the fields that say it
abbrev pub source_fields : Source → List (List ℕ)
source_fields s = s.model ∷ rows_field s.rows ∷ s.point ∷ decimal s.count ∷ decimal s.from ∷ []

-- a stream from which a run may have drawn more numbers than are its own, as `RN1=2200001/2097136`: so many of so many
unfoldable pub overdraw_text : Overdraw → List ℕ
overdraw_text o = codes "RN" ++ decimal o.stream ++ codes "=" ++ decimal o.most ++ codes "/" ++ decimal o.own

-- what stands before the one at a place
abbrev pub between : ℕ → List ℕ
between place = if place == 0 then [] else codes " "

-- those that follow one another, from a place on, with blanks between them
unfoldable pub overdraws_text : ℕ → List Overdraw → List ℕ
overdraws_text place [] = []
overdraws_text place (o ∷ rest) =
    between place ++ overdraw_text o ++ overdraws_text (place + 1) rest

-- which run it is, how it ended, after how many steps, and from which streams it may have drawn more numbers than are their own
abbrev pub end_fields : ℕ → Run → List (List ℕ)
end_fields number run =
    decimal number ∷ status_word (Ended run.end) ∷ decimal run.steps ∷ overdraws_text 0 run.overdraws.items ∷ []

-- the changes of figures of which rows tell that
abbrev pub trend_field : Label → Option ℤ → List (List ℕ)
trend_field label trend = if has_trend label then amount_field trend ∷ [] else []

-- those of figures that follow one another, from a place on
unfoldable pub trend_fields : List Label → ℕ → List (Option ℤ) → List (List ℕ)
trend_fields [] place trends = []
trend_fields (label ∷ labels) place trends = trend_field label (value_at place trends) ++ trend_fields labels (place + 1) trends

-- all fields of a row
abbrev pub fields : List Label → Source → ℕ → Run → List (List ℕ)
fields labels s number run =
    source_fields s ++ end_fields number run ++ map amount_field run.values.items ++ trend_fields labels 0 run.trend.items

-- the row
unfoldable pub row : List Label → Source → ℕ → Run → List ℕ
row labels s number run = row_text default_writer (fields labels s number run)

-- the same by figures, and by what the run is one of
abbrev pub row_by : List Figure → Origin → ℕ → Run → List ℕ
row_by figures origin number run = row (labels figures) (source_of origin) number run

-- the rows of runs that follow one another, from one on
abbrev pub rows_from : List Label → Source → ℕ → List Run → List ℕ
rows_from labels s number [] = []
rows_from labels s number (run ∷ runs) = row labels s number run ++ rows_from labels s (number + 1) runs

-- the same by figures, and by what the runs are some of
abbrev pub rows_by : List Figure → Origin → ℕ → List Run → List ℕ
rows_by figures origin number runs = rows_from (labels figures) (source_of origin) number runs
