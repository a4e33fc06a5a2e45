-- Records of CSV.
use Rattle.std.specs.Prelude.{ℕ, List}
use Rattle.csv.specs.Writing.{row_text, default_writer, with_terminator}
use Rattle.csv.specs.declared.parser.Terminator.TheVariants.{CRLF}

-- a record of fields, with commas between, and a carriage return and a line feed behind it
unfoldable pub record_text : List (List ℕ) → List ℕ
record_text fields = row_text (with_terminator default_writer CRLF) fields
