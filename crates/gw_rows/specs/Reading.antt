-- What is said of rows that are read.
use Rattle.std.specs.Prelude.{◌≡◌, ◌≢◌, ◌<◌, ◌≤◌, ℕ, ◌^◌, List, [], ◌∷◌, ◌++◌, length, map, slice_index_or, ℤ}
use Rattle.std.specs.Prelude.{Option, Some, None, Vec, IfSome, true, false, FitsSigned}
use Rattle.std.specs.Global.{Global}
use Rattle.std.specs.Int.{w128}
use Rattle.std.specs.List.{All, AllZip}
use Rattle.csv.specs.Writing.{default_writer, needs_quotes}
use Rattle.gw_step.specs.declared.ends.End.{End}
use Rattle.gw_figures.specs.Labels.{Label, labels}
use Rattle.gw_figures.specs.declared.figure.Figure.{Figure}
use Rattle.gw_figures.specs.declared.run.Overdraw.{Overdraw}
use Rattle.gw_figures.specs.declared.run.Run.{Run}
use Rattle.gw_rows.specs.Amounts.{amount_field}
use Rattle.gw_rows.specs.Names.{begins, has_trend, header, label_of_name, trend_front}
use Rattle.gw_rows.specs.Rows as rows
use Rattle.gw_rows.specs.Rows.{Source, source_of}
use Rattle.gw_rows.specs.declared.origin.Origin.{Origin}
use Rattle.gw_rows.specs.declared.row.Row.{Row}

-- a text is a line and its line feed
abbrev pub IsLine : List ℕ → List ℕ → Type 0
IsLine line text = text ≡ line ++ 10 ∷ []

-- no byte is a line feed
abbrev pub IsWithoutFeed : List ℕ → Type 0
IsWithoutFeed bytes = All (λ b. b ≢ 10) bytes

-- a field needs no quotes
abbrev pub IsPlain : List ℕ → Type 0
IsPlain field = needs_quotes default_writer field ≡ false

-- OF A RUN

-- what is kept of a run
pub record Outcome : Type 0 where
  pub end : End
  pub steps : ℕ
  pub values : List (Option ℤ)
  pub trend : List (Option ℤ)
  pub overdraws : List Overdraw

abbrev pub outcome_of : Run → Outcome
outcome_of run = record {
  end = run.end;
  steps = run.steps;
  values = run.values.items;
  trend = run.trend.items;
  overdraws = run.overdraws.items;
}

-- a figure changes only where rows tell that
abbrev pub MayChange : Label → Option ℤ → Type 0
MayChange label change = has_trend label ≡ false → change ≡ None

-- a run has a value for each figure, and a change for each that may change
pub record HasFigures (labels : List Label) (run : Run) : Type 0 where
  pub values : length run.values.items ≡ length labels
  pub trend : AllZip MayChange labels run.trend.items

-- an amount is one of 128 bits, if there is one
abbrev pub IsAmount : Option ℤ → Type 0
IsAmount value = IfSome value (FitsSigned w128)

-- the numbers of a stream are in the ranges of their types
pub record IsStreamInRange (o : Overdraw) : Type 0 where
  pub stream : o.stream < 2 ^ 8
  pub most : o.most < 2 ^ 128
  pub own : o.own < 2 ^ 64

-- the numbers of a run are
pub record IsRunInRange (run : Run) : Type 0 where
  pub steps : run.steps < 2 ^ 64
  pub values : All IsAmount run.values.items
  pub trend : All IsAmount run.trend.items
  pub overdraws : All IsStreamInRange run.overdraws.items

-- where figures change only where rows tell that, changes are amounts
abbrev pub MayBeAmounts : List Label → List (Option ℤ) → Type 0
MayBeAmounts labels trend = AllZip MayChange labels trend → All IsAmount trend

-- where a run has these figures, its numbers are in the ranges of their types
abbrev pub MayBeInRange : List Label → Run → Type 0
MayBeInRange labels run = HasFigures labels run → IsRunInRange run

-- OF A ROW

-- of what a row is one is in range: a run below 512, a count from 1 to 2^40, a window and how many rows there are below 2^64
pub record IsSourceInRange (s : Source) (run : ℕ) : Type 0 where
  pub rows : s.rows < 2 ^ 64
  pub least : 1 ≤ s.count
  pub most : s.count ≤ 2 ^ 40
  pub from : s.from < 2 ^ 64
  pub number : run < 512

-- a row that is written can be read: digest and point need no quotes, the run has the figures, and numbers are in range
pub record IsReadable (labels : List Label) (s : Source) (number : ℕ) (run : Run) : Type 0 where
  pub model : IsPlain s.model
  pub point : IsPlain s.point
  pub source : IsSourceInRange s number
  pub figures : HasFigures labels run
  pub range : IsRunInRange run

-- parts are the fields of a row that can be read
pub record AreFieldsOf (labels : List Label) (s : Source) (number : ℕ) (run : Run) (parts : List (List ℕ)) : Type 0 where
  pub readable : IsReadable labels s number run
  pub fields : parts ≡ rows.fields labels s number run

-- a row is of a run below 512, with a count from 1 to 2^40
abbrev pub IsInRange : Row → Type 0
IsInRange row = (row.number < 512) × (1 ≤ row.origin.count) × (row.origin.count ≤ 2 ^ 40)

-- a line has the text of a row
abbrev pub HasRowText : List Label → List ℕ → Row → Type 0
HasRowText labels line row = IsLine line (rows.row labels (source_of row.origin) row.number row.run)

-- and the row is in range
abbrev pub IsRowOf : List Label → List ℕ → Row → Type 0
IsRowOf labels line row = IsInRange row × HasRowText labels line row

-- and its run has these figures, and numbers in the ranges of their types
pub record IsLineOf (labels : List Label) (line : List ℕ) (row : Row) : Type 0 where
  pub row_is : IsRowOf labels line row
  pub figures : HasFigures labels row.run
  pub range : IsRunInRange row.run

-- a line is that of no row that can be read
abbrev pub IsNoRow : List Label → List ℕ → Type 0
IsNoRow labels line =
    (s : Source) (number : ℕ) (run : Run) → IsReadable labels s number run
    → ¬ IsLine line (rows.row labels s number run)

-- WHAT IS READ OF FIELDS

-- an amount that a field tells is the one whose field it is
abbrev pub ReadsAmount : List ℕ → Option ℤ → Type 0
ReadsAmount field told = (value : Option ℤ) → IsAmount value → field ≡ amount_field value → told ≡ value

-- streams that texts tell are those whose texts they are
abbrev pub ReadsStreams : List (List ℕ) → List Overdraw → Type 0
ReadsStreams texts told = (os : List Overdraw) → All IsStreamInRange os → texts ≡ map rows.overdraw_text os → told ≡ os

-- streams that a field tells are those whose field it is
abbrev pub ReadsStreamField : List ℕ → List Overdraw → Type 0
ReadsStreamField field told = (os : List Overdraw) → All IsStreamInRange os → field ≡ rows.overdraws_text 0 os → told ≡ os

-- the change of a figure that may change is that of the field at a place
abbrev pub ReadsChange : Label → List (List ℕ) → ℕ → Option ℤ → Type 0
ReadsChange label parts place told = has_trend label ≡ true → ReadsAmount (slice_index_or parts place []) told

-- WHAT IS READ OF A ROW'S FIELDS

-- of what it is one
abbrev pub ReadsSource : List (List ℕ) → Origin → Type 0
ReadsSource parts origin =
    (labels : List Label) (s : Source) (number : ℕ) (run : Run) → AreFieldsOf labels s number run parts
    → source_of origin ≡ s

-- its number
abbrev pub ReadsNumber : List (List ℕ) → ℕ → Type 0
ReadsNumber parts told =
    (labels : List Label) (s : Source) (number : ℕ) (run : Run) → AreFieldsOf labels s number run parts → told ≡ number

-- the values of so many figures
abbrev pub ReadsValues : ℕ → List (List ℕ) → List (Option ℤ) → Type 0
ReadsValues figures parts told =
    (labels : List Label) (s : Source) (number : ℕ) (run : Run) → AreFieldsOf labels s number run parts
    → length labels ≡ figures → told ≡ run.values.items

-- the changes
abbrev pub ReadsTrend : List Label → List (List ℕ) → List (Option ℤ) → Type 0
ReadsTrend labels parts told =
    (s : Source) (number : ℕ) (run : Run) → AreFieldsOf labels s number run parts → told ≡ run.trend.items

-- and what is kept of the run
abbrev pub ReadsRun : List Label → List (List ℕ) → Run → Type 0
ReadsRun labels parts told =
    (s : Source) (number : ℕ) (run : Run) → AreFieldsOf labels s number run parts → outcome_of told ≡ outcome_of run

-- all of that
pub record ReadsRow (labels : List Label) (parts : List (List ℕ)) (row : Row) : Type 0 where
  pub source : ReadsSource parts row.origin
  pub number : ReadsNumber parts row.number
  pub run : ReadsRun labels parts row.run
  pub figures : HasFigures labels row.run

-- a row is found in its line, and none in the line of no row
abbrev pub FindsRow : List Label → List ℕ → Option Row → Type 0
FindsRow labels line None = IsNoRow labels line
FindsRow labels line (Some row) = IsLineOf labels line row

-- OF THE LINE BEFORE ROWS

-- a figure is the one of its name, which doesn't begin as that of a change
pub record IsByName (label : Label) : Type 0 where
  pub label_is : label ≡ label_of_name label.name
  pub no_change : begins trend_front label.name ≡ false

-- a line is the one before rows of these figures
abbrev pub IsHeaderOf : List ℕ → List Figure → Type 0
IsHeaderOf line figures = IsLine line (header (labels figures))

-- the same, and the figures are those of their names
pub record NamesFigures (line : List ℕ) (figures : List Figure) : Type 0 where
  pub text : IsHeaderOf line figures
  pub by_name : All IsByName (labels figures)

-- a line is the one before rows of no figures that are those of their names and need no quotes
abbrev pub IsNoHeader : List ℕ → Type 0
IsNoHeader line =
    (figures : List Label) → All IsByName figures → All (λ l. IsPlain l.name) figures
    → ¬ IsLine line (header figures)

-- figures are found in the line that names them, and none in another
abbrev pub FindsFigures : List ℕ → Option (Vec Figure Global) → Type 0
FindsFigures line None = IsNoHeader line
FindsFigures line (Some figures) = NamesFigures line figures.items
