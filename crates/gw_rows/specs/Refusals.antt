-- A refusal as a row.
use Rattle.std.specs.Prelude.{ℕ, ◌==◌, List, [], ◌∷◌, ◌++◌, codes, if◌then◌else◌}
use Rattle.csv.specs.Writing.{row_text, default_writer}
use Rattle.gw_rows.specs.declared.refusal.Refused.{Refused}

-- a byte as it stands in a field of one line
abbrev pub byte_in_line : ℕ → List ℕ
byte_in_line b =
    if b == 10 then codes "\\n" else if b == 13 then codes "\\r" else if b == 92 then codes "\\\\" else b ∷ []

-- a text in a field of one line: `\n` stands for a line feed, `\r` for a carriage return, `\\` for a `\`
unfoldable pub in_one_line : List ℕ → List ℕ
in_one_line [] = []
in_one_line (b ∷ rest) = byte_in_line b ++ in_one_line rest

-- the names of the fields of a refusal, and its row
abbrev pub refusal_header : List ℕ
refusal_header = codes "model,refusal\n"

abbrev pub refusal_row : List ℕ → List ℕ → List ℕ
refusal_row model why = row_text default_writer (model ∷ in_one_line why ∷ [])

abbrev pub row_of_refusal : Refused → List ℕ
row_of_refusal refused = refusal_row refused.model.items refused.text.items

abbrev pub refusal_rows : List ℕ → List ℕ → List ℕ
refusal_rows model why = refusal_header ++ refusal_row model why
