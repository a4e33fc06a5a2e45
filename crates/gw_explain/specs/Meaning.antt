-- What the code of a refusal means, in words.
use Rattle.std.specs.Prelude.{ℕ, List, [], ◌++◌, codes}
use Rattle.std.specs.Fmt.{decimal}
use Rattle.gw_answers.specs.Refusal.{code_name}
use Rattle.gw_explain.specs.Codes.{advice_lines}

-- a code and its name, as refusals have them
unfoldable pub code_line : ℕ → List ℕ
code_line code = decimal code ++ codes " " ++ code_name code ++ codes "\n"

-- these, what is wrong by the code, and how to mend it
abbrev pub meaning : ℕ → List ℕ
meaning code = code_line code ++ advice_lines [] code
