-- The texts of rows.
use Rattle.std.proofs.Common.{◌≡◌, ◌∙◌, ℕ, List, [], ◌∷◌, ◌++◌, map, refl, sym, ap, arith}
use Rattle.std.specs.Fmt.{decimal}
use Rattle.csv.specs.Writing.{default_writer, row_text}
use Rattle.std.specs.List.{slice_split}
use Rattle.gw_scan.specs.declared.sim.Status.TheVariants.{Ended}
use Rattle.gw_report.specs.Report.{status_word}
use Rattle.gw_figures.specs.Labels.{Label}
use Rattle.gw_figures.specs.declared.run.Run.{Run}
use Rattle.gw_rows.specs.Amounts.{amount_field}
use Rattle.gw_rows.specs.Reading.{AreFieldsOf, IsLine, IsNoRow, IsReadable, IsRowOf, Outcome, ReadsRow, outcome_of}
use Rattle.gw_rows.specs.Rows.{Source, fields, overdraws_text, row, source_fields, source_of, trend_fields}
use Rattle.gw_rows.specs.declared.row.Row.{Row}
use Rattle.gw_rows.proofs.Parting.{is_comma, parts_are_fields}
use Rattle.gw_rows.proofs.PlainFields.{plain_fields}

-- the row of what is kept of a run
fields_by : List Label → Source → ℕ → Outcome → List (List ℕ)
fields_by labels s number o =
    source_fields s ++ (decimal number ∷ status_word (Ended o.end) ∷ decimal o.steps ∷ overdraws_text 0 o.overdraws ∷ [])
    ++ map amount_field o.values ++ trend_fields labels 0 o.trend

row_by : List Label → Source → ℕ → Outcome → List ℕ
row_by labels s number o = row_text default_writer (fields_by labels s number o)

row_is : (labels : List Label) (s : Source) (number : ℕ) (run : Run) → row labels s number run ≡ row_by labels s number (outcome_of run)
unfolding row row_by fields_by
row_is labels s number run = refl

-- a row is a function of what it tells
pub same_row : (labels : List Label) (s t : Source) (number other : ℕ) (run it : Run) → s ≡ t → number ≡ other → outcome_of run ≡ outcome_of it
    → row labels s number run ≡ row labels t other it
same_row labels s t number other run it sources numbers outcomes =
    row_is labels s number run ∙ ap (λ x. row_by labels x number (outcome_of run)) sources ∙ ap (λ n. row_by labels t n (outcome_of run)) numbers
    ∙ ap (row_by labels t other) outcomes ∙ sym (row_is labels t other it)

-- the parts of a line are the fields of the row that it is
pub parts_of_row : (labels : List Label) (s : Source) (number : ℕ) (run : Run) (line : List ℕ) → IsReadable labels s number run
    → IsLine line (row labels s number run)
    → slice_split is_comma line ≡ fields labels s number run
unfolding row
parts_of_row labels s number run line readable is =
    parts_are_fields line s.model _ _ (plain_fields labels s number run readable) is

-- where a row that is read isn't that of its line, no row is
pub no_row : (labels : List Label) (line : List ℕ) (parts : List (List ℕ)) (read : Row) → parts ≡ slice_split is_comma line → ReadsRow labels parts read
    → ¬ IsRowOf labels line read → IsNoRow labels line
no_row labels line parts read split reads none = λ s number run readable is.
    let are : AreFieldsOf labels s number run parts =
    record { readable = readable; fields = split ∙ parts_of_row labels s number run line readable is } in
    let source = reads.source labels s number run are in
    let number_is = reads.number labels s number run are in
    let range = readable.source in
    let count : read.origin.count ≡ s.count = ap (λ t. t.count) source in
    none (
      (omega (arith, range.number, number_is), omega (arith, range.least, count), omega (arith, range.most, count)),
      same_row labels (source_of read.origin) s read.number number read.run run source number_is (reads.run s number run are) ∙ is,
    )
