-- Rows and the lines before them are lines with one line feed each, at their ends.
use Rattle.std.proofs.Common.{◌≡◌, ◌∙◌, ℕ, List, [], ◌∷◌, ◌++◌, drop, false, arith, sym, ap}
use Rattle.std.specs.Prelude.{◌≢◌, codes}
use Rattle.std.specs.List.{All, list_any}
use Rattle.std.proofs.lemmas.Bool.{or_parts}
use Rattle.std.proofs.lemmas.List.Elements.{All-append, All-cons}
use Rattle.csv.specs.Writing.{default_writer, needs_byte}
use Rattle.gw_figures.specs.Labels.{Label}
use Rattle.gw_figures.specs.declared.run.Run.{Run}
use Rattle.gw_rows.specs.Names.{header, names}
use Rattle.gw_rows.specs.Reading.{IsLine, IsPlain, IsReadable, IsWithoutFeed}
use Rattle.gw_rows.specs.Rows.{Source, fields, row, rows_field}
use Rattle.gw_rows.proofs.HeaderTexts.{all_plain}
use Rattle.gw_rows.proofs.Parting.{ArePlain, behind_commas, plain_row}
use Rattle.gw_rows.proofs.PlainFields.{plain_fields}

none_in : IsWithoutFeed []
none_in = λ k d h. absurd (omega (arith, h))

no_feed : (b : ℕ) → needs_byte default_writer b ≡ false → b ≢ 10
no_feed b plain = λ is. absurd (feed_needs (sym (ap (needs_byte default_writer) is) ∙ plain))
  where
    feed_needs : needs_byte default_writer 10 ≡ false → ⊥
    feed_needs h = absurd cc

-- a field that needs no quotes has no line feed
plain_is_one_line : (field : List ℕ) → IsPlain field → IsWithoutFeed field
plain_is_one_line [] plain = none_in
plain_is_one_line (b ∷ rest) plain =
    let parts = or_parts (needs_byte default_writer b) (list_any (needs_byte default_writer) rest) plain in
    All-cons (λ c. c ≢ 10) b rest (no_feed b parts.0) (plain_is_one_line rest parts.1)

fields_are_one_line : (fields : List (List ℕ)) → ArePlain fields → IsWithoutFeed (behind_commas fields)
fields_are_one_line [] plain = none_in
fields_are_one_line (field ∷ rest) (here, more) =
    All-cons (λ c. c ≢ 10) 44 (field ++ behind_commas rest) (λ is. absurd (omega (arith, is)))
    (All-append (λ c. c ≢ 10) field (behind_commas rest) (plain_is_one_line field here) (fields_are_one_line rest more))

-- a line, without its line feed
pub record LineOf (text : List ℕ) : Type 0 where
  pub line : List ℕ
  pub is : IsLine line text
  pub one : IsWithoutFeed line

record_line : (x y : List ℕ) (rest : List (List ℕ)) (text : List ℕ) → ArePlain (x ∷ y ∷ rest) → text ≡ (x ++ behind_commas (y ∷ rest)) ++ 10 ∷ []
    → LineOf text
record_line x y rest text (here, more) is = record {
  line = x ++ behind_commas (y ∷ rest);
  is = is;
  one = All-append (λ c. c ≢ 10) x (behind_commas (y ∷ rest)) (plain_is_one_line x here) (fields_are_one_line (y ∷ rest) more);
}

-- the line of a row
pub line_of_row : (labels : List Label) (s : Source) (number : ℕ) (run : Run) → IsReadable labels s number run → LineOf (row labels s number run)
unfolding row
line_of_row labels s number run readable =
    let plain = plain_fields labels s number run readable in
    let rest = drop 2 (fields labels s number run) in
    record_line s.model (rows_field s.rows) rest (row labels s number run) plain (plain_row s.model (rows_field s.rows) rest plain)

-- the line before rows
pub line_of_header : (labels : List Label) → All (λ l. IsPlain l.name) labels → LineOf (header labels)
unfolding header
line_of_header labels plain =
    let fit = all_plain labels plain in
    let rest = drop 2 (names labels) in
    record_line (codes "model") (codes "rows") rest (header labels) fit (plain_row (codes "model") (codes "rows") rest fit)
