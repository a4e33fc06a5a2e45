-- The refusal of a row, as it is printed.
use Rattle.std.specs.Prelude.{ℕ, List, [], ◌∷◌, ◌++◌, codes}
use Rattle.std.specs.Fmt.{decimal}
use Rattle.gw_answers.specs.Reasons.{refusal_with_reason}
use Rattle.gw_answers.specs.declared.codes.TheConstants.{ROW}
use Rattle.gw_summary.specs.declared.fault.RowFault.{RowFault}
use Rattle.gw_summary.specs.declared.fault.RowFault.TheVariants as fault

-- why, in words, where they are the same each time
abbrev pub reason_of : RowFault → List ℕ
reason_of fault.Cut = codes "the line is cut off: no line feed ends it"
reason_of fault.Long = codes "the line is longer than a row can be"
reason_of fault.Form = codes "this isn't a row with the fields that the header names"
reason_of fault.NoHeader = codes "no line names the fields of this row"
reason_of fault.OtherFigures = codes "the header names other figures than the first one"
reason_of fault.OtherModel = codes "the row is of another model than the first one"
reason_of fault.OtherStudy = codes "the row has another count, window or number of rows than the first one"
reason_of fault.OtherNames = codes "the row has other names before its numbers than the first one"
reason_of fault.Unlike = codes "another row has this run with other numbers"
reason_of (fault.Surplus run) = codes " isn't one of the study"
reason_of (fault.Missing run) = codes " is missing"
reason_of (fault.Few there all) = codes " rows are there"

-- of which point a run is one, where that has a name
abbrev pub of_point : List ℕ → List ℕ
of_point [] = []
of_point (c ∷ cs) = codes " of " ++ c ∷ cs

-- a run, and of which point it is one
abbrev pub run_text : ℕ → List ℕ → List ℕ
run_text run point = codes "run " ++ decimal run ++ of_point point

-- what is wrong, before the words of the reason
abbrev pub wrong : List ℕ → RowFault → List ℕ
wrong point (fault.Surplus run) = run_text run point
wrong point (fault.Missing run) = run_text run point
wrong point (fault.Few there all) = decimal there ++ codes " of " ++ decimal all
wrong point other = []

-- the refusal of a line by its number, from 1: the code and its name, the number, and why, with the point of a run that isn't there or
-- shouldn't be
unfoldable pub refusal_text : ℕ → List ℕ → RowFault → List ℕ
refusal_text line point fault = refusal_with_reason ROW (codes "line " ++ decimal line) (wrong point fault ++ reason_of fault)
