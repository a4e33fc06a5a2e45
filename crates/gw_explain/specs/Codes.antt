-- The codes of refusals, and the advice on each.
use Rattle.std.specs.Prelude.{ℕ, List, [], ◌∷◌, ◌++◌, codes, Bool, ◌==◌, Option, Some, None, if◌then◌else◌}
use Rattle.std.specs.Borrow.{Bor}
use Rattle.std.specs.List.{list_any}
use Rattle.gw_answers.specs.declared.names.TheConstants.{NAMES}
use Rattle.gw_explain.specs.declared.advice.TheConstants.{ADVICE}

-- CODES

-- whether a number is the code of a refusal: one that has a name
unfoldable pub is_code : ℕ → Bool
is_code code = list_any (λ row. row.0 == code) NAMES

-- WORDS

-- the words of the first row that has this key
abbrev pub words_in : {R : Type 0} → (R → ℕ) → (R → List ℕ × List ℕ) → List R → ℕ → Option (List ℕ × List ℕ)
words_in key words [] code = None
words_in key words (row ∷ rows) code = if key row == code then Some (words row) else words_in key words rows code

-- those of a code, where a row has it first
abbrev pub words_of_code : List (ℕ × Bor (List ℕ) × Bor (List ℕ)) → ℕ → Option (List ℕ × List ℕ)
words_of_code rows code = words_in (λ row. row.0) (λ row. (row.1.now, row.2.now)) rows code

-- what is wrong by a code, and how to mend it: its row of the table
unfoldable pub advice_words : ℕ → Option (List ℕ × List ℕ)
advice_words code = words_in (λ row. row.0) (λ row. (row.1.now, row.2.now)) ADVICE code

-- a line each, with what is known between them
abbrev pub lines_of_words : List ℕ → List ℕ × List ℕ → List ℕ
lines_of_words known words = codes "wrong: " ++ words.0 ++ codes "\n" ++ known ++ codes "mend: " ++ words.1 ++ codes "\n"

-- those of a code, if it has any
abbrev pub lines_if : List ℕ → Option (List ℕ × List ℕ) → List ℕ
lines_if known None = []
lines_if known (Some words) = lines_of_words known words

abbrev pub advice_lines : List ℕ → ℕ → List ℕ
advice_lines known code = lines_if known (advice_words code)
