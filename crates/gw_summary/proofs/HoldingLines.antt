-- Lines of one study, and which other lines they aren't.
use Rattle.std.proofs.Common.{◌≡◌, ◌∙◌, ◌<◌, ◌^◌, ◌+◌, ℕ, List, [], arith, sym, ap, inl, inr}
use Rattle.std.specs.Prelude.{codes}
use Rattle.std.proofs.lemmas.Bool.{true≢false}
use Rattle.std.proofs.lemmas.List.{same_from_push}
use Rattle.gw_figures.specs.Labels.{Label, labels}
use Rattle.gw_figures.specs.declared.figure.Figure.{Figure}
use Rattle.gw_rows.specs.Laws.{IsInWords}
use Rattle.gw_rows.specs.Names.{begins, header}
use Rattle.gw_rows.specs.Reading.{IsLine, IsRowOf, NamesFigures}
use Rattle.gw_rows.specs.Refusals.{refusal_header, refusal_row}
use Rattle.gw_rows.specs.Rows.{source_of}
use Rattle.gw_rows.specs.declared.row.Row.{Row}
use Rattle.gw_rows.proofs.Apart.{rows_are_no_headers, rows_are_no_refusals}
use Rattle.gw_rows.proofs.HeaderTexts.{header_begins}
use Rattle.gw_rows.proofs.Telling.{headers_tell_their_figures}
use Rattle.gw_summary.specs.Holding.{IsRowOfStudy}
use Rattle.gw_summary.specs.StudyRows.{StudyRuns, IsHeaderIn, IsLineIn, IsReadableStudy, IsSomeRow}
use Rattle.gw_rows.proofs.OneSource.{rows_are_of_one_source}

-- two lines of one text are one
pub one_line : (a b x y : List ℕ) → IsLine a x → IsLine b y → x ≡ y → a ≡ b
one_line a b x y is it same = (same_from_push a b 10 10 (sym is ∙ same ∙ it)).0

-- two texts of one line are one
pub one_text : (line x y : List ℕ) → IsLine line x → IsLine line y → x ≡ y
one_text line x y is it = is ∙ sym it

module _ (s : StudyRuns) (line : List ℕ) (readable : IsReadableStudy s) where
  -- the numbers of a row of a study are in their ranges
  numbers_fit : (is : IsSomeRow s line) → IsInWords s.source (s.first + is.1.place)
  numbers_fit is =
      let source = (readable.each is.1.place is.1.run is.1.at).source in
      let few : s.source.count < 2 ^ 64 = omega (arith, source.most) in
      (few, source.from, source.number)

  pub row_no_header : (others : List Label) → IsSomeRow s line → ¬ IsLine line (header others)
  row_no_header others is it =
      rows_are_no_headers s.labels others s.source (s.first + is.1.place) is.1.run (numbers_fit is) (one_text line _ _ is.1.row_is it)

  pub row_no_refusal : (model why : List ℕ) → IsSomeRow s line → ¬ IsLine line (refusal_row model why)
  row_no_refusal model why is it =
      rows_are_no_refusals s.labels s.source (s.first + is.1.place) is.1.run model why (one_text line _ _ is.1.row_is it)

  pub header_no_refusal_header : IsHeaderIn s line → ¬ IsLine line refusal_header
  header_no_refusal_header is it =
      let same : line ≡ codes "model,refusal" = (same_from_push line (codes "model,refusal") 10 10 (sym it)).0 in
      true≢false (sym (header_begins line s.labels readable.plain is) ∙ ap (begins (codes "model,rows,")) same)

  -- the header isn't empty
  pub some_header : IsHeaderIn s line → ¬ (line ≡ [])
  some_header is none =
      true≢false (sym (header_begins line s.labels readable.plain is) ∙ ap (begins (codes "model,rows,")) none)

  -- the figures of the header are those of the study
  pub its_figures : (figures : List Figure) → IsHeaderIn s line → NamesFigures line figures → labels figures ≡ s.labels
  its_figures figures is found =
      headers_tell_their_figures (labels figures) s.labels found.by_name readable.by_name (one_text line _ _ found.text is)

  pub line_is_header : (figures : List Figure) → NamesFigures line figures → IsLineIn s line → IsHeaderIn s line
  line_is_header figures found (inl header) = header
  line_is_header figures found (inr row) = absurd (row_no_header (labels figures) row found.text)

  -- and it is the one that it is
  pub row_read : (others : List Label) (row : Row) → row.origin.rows < 2 ^ 64 → row.origin.from < 2 ^ 64 → IsSomeRow s line → IsRowOf others line row
      → IsRowOfStudy s row line
  row_read others row many from is found =
      let few : row.origin.count < 2 ^ 64 = omega (arith, found.0.2) in
      let none : s.source.rows < 2 ^ 64 = omega (arith, readable.rows) in
      let one = rows_are_of_one_source others s.labels (source_of row.origin) s.source row.number (s.first + is.1.place) row.run is.1.run
      (few, from, found.0.0) (numbers_fit is) many none (one_text line _ _ found.1 is.1.row_is) in
      record {
        source = one.0;
        line_is = record { place = is.1.place; run = is.1.run; at = is.1.at; number_is = one.1; row_is = is.1.row_is };
      }
