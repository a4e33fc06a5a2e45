-- Which experiment comment lines of a model ask for.
use Rattle.std.specs.Prelude.{ℕ, ◌+◌, ◌^◌, nat_lt, nat_le, ℤ, List, [], ◌∷◌, ◌++◌, length, codes, Result, Ok, Err}
use Rattle.std.specs.Prelude.{Bool, true, false, ◌&&◌, if◌then◌else◌, Option, Some, None, option_and_then}
use Rattle.std.specs.Option.{ok_or, option_map, unwrap_or}
use Rattle.std.specs.Result.{result_map_both}
use Rattle.std.specs.Int.Signed.{lt_z}
use Rattle.std.specs.List.{filter, join_by, slice_split}
use Rattle.std.specs.Str.{bytes_eq}
use Rattle.std.specs.Str.Lines.{lines}
use Rattle.gw_num.specs.Numerals.{number_below}
use Rattle.gw_text_tokens.specs.Lines.{is_blank}
use Rattle.gw_parameters.specs.Operands.{after_byte}
use Rattle.gw_parameters.specs.Parameters.{numbers_in}
use Rattle.gw_experiment.specs.Refusals.{refusal_text}
use Rattle.gw_experiment.specs.declared.fault.ExperimentFault.{ExperimentFault}
use Rattle.gw_experiment.specs.declared.fault.ExperimentFault.TheVariants as fault

-- THE WORDS OF A LINE

-- what stands behind `*!` at the front of a line, if it has that
abbrev pub behind_mark : List ℕ → Option (List ℕ)
behind_mark line = option_and_then (after_byte 33) (after_byte 42 line)

-- the words that blanks part
abbrev pub words_in : List ℕ → List (List ℕ)
words_in text = filter (λ word. nat_lt 0 (length word)) (slice_split is_blank text)

-- the number below 2^64 that words say: one word of digits
abbrev pub number_in : List (List ℕ) → Option ℕ
number_in [] = None
number_in (word ∷ []) = number_below (2 ^ 64) word
number_in (word ∷ other ∷ words) = None

-- a number of runs, if it is one from 1 to 512
abbrev pub runs_if_few : ℕ → Option ℕ
runs_if_few number = if nat_le 1 number && nat_le number 512 then Some number else None

-- the number of runs that words say
abbrev pub runs_in : List (List ℕ) → Option ℕ
runs_in words = option_and_then runs_if_few (number_in words)

-- A NAME AND ITS NUMBERS

-- each number is greater than the one before it, the first of them than this one
abbrev pub rises_from : ℤ → List ℤ → Bool
rises_from last [] = true
rises_from last (number ∷ numbers) = lt_z last number && rises_from number numbers

-- there are numbers, which rise
abbrev pub are_rising : Option (List ℤ) → Bool
are_rising None = false
are_rising (Some []) = false
are_rising (Some (number ∷ numbers)) = rises_from number numbers

-- a name and its numbers as one word, `NURSES=2,3`
abbrev pub parameter_word : List ℕ → List (List ℕ) → List ℕ
parameter_word name numbers = name ++ codes "=" ++ join_by (λ number. number) (codes ",") numbers

-- WHAT A LINE ASKS FOR

-- what lines ask for so far: words as `NURSES=2,3`, and each number that a line says
pub record Draft : Type 0 where
  pub parameters : List (List ℕ)
  pub runs : Option ℕ
  pub count : Option ℕ
  pub from : Option ℕ

-- one more word as `NURSES=2,3`, of at most two, whose numbers rise
abbrev pub with_parameter : Draft → List ℕ → Result Draft ExperimentFault
with_parameter draft word =
    if nat_le 2 (length draft.parameters) then Err fault.Names
    else if are_rising (numbers_in word) then Ok (record draft { parameters = draft.parameters ++ word ∷ [] })
    else Err fault.Numbers

-- `vary`: a name, and numbers behind it
abbrev pub with_name : Draft → List (List ℕ) → Result Draft ExperimentFault
with_name draft [] = Err fault.Numbers
with_name draft (name ∷ numbers) = with_parameter draft (parameter_word name numbers)

-- a number that words say, where no line before says it; where they say none, this is wrong
abbrev pub once : Option ℕ → ExperimentFault → Option ℕ → Result (Option ℕ) ExperimentFault
once before wrong None = Err wrong
once None wrong (Some number) = Ok (Some number)
once (Some other) wrong (Some number) = Err fault.Twice

-- the draft with a number, if it may be said
abbrev pub if_said : (Option ℕ → Draft) → Result (Option ℕ) ExperimentFault → Result Draft ExperimentFault
if_said draft said = result_map_both draft (λ wrong. wrong) said

-- `runs`: how many, behind it
abbrev pub with_runs : Draft → List (List ℕ) → Result Draft ExperimentFault
with_runs draft words = if_said (λ runs. record draft { runs = runs }) (once draft.runs fault.Runs (runs_in words))

-- `count`: a number behind it
abbrev pub with_count : Draft → List (List ℕ) → Result Draft ExperimentFault
with_count draft words =
    if_said (λ count. record draft { count = count }) (once draft.count fault.Number (number_in words))

-- `from`: a number behind it
abbrev pub with_from : Draft → List (List ℕ) → Result Draft ExperimentFault
with_from draft words =
    if_said (λ from. record draft { from = from }) (once draft.from fault.Number (number_in words))

-- what words ask for, by the first of them
abbrev pub with_words : Draft → List (List ℕ) → Result Draft ExperimentFault
with_words draft [] = Err fault.Word
with_words draft (word ∷ words) =
    if bytes_eq word (codes "vary") then with_name draft words
    else if bytes_eq word (codes "runs") then with_runs draft words
    else if bytes_eq word (codes "count") then with_count draft words
    else if bytes_eq word (codes "from") then with_from draft words
    else Err fault.Word

-- what a text behind the mark asks for; a line without it asks for nothing
abbrev pub with_text : Draft → Option (List ℕ) → Result Draft ExperimentFault
with_text draft None = Ok draft
with_text draft (Some text) = with_words draft (words_in text)

-- what a line asks for, with what lines before it ask for
abbrev pub with_line : Draft → List ℕ → Result Draft ExperimentFault
with_line draft line = with_text draft (behind_mark line)

-- WHAT ALL LINES ASK FOR

-- an experiment: words as `NURSES=2,3`, the runs of each point, the count, 0 for the model's own, and where figures begin
pub record Experiment : Type 0 where
  pub parameters : List (List ℕ)
  pub runs : ℕ
  pub count : ℕ
  pub from : ℕ

-- what a draft asks for with so many runs of each point
abbrev pub experiment_of_runs : Draft → ℕ → Experiment
experiment_of_runs draft runs = record {
  parameters = draft.parameters;
  runs = runs;
  count = unwrap_or draft.count 0;
  from = unwrap_or draft.from 0;
}

-- the experiment of a draft that says how many runs there are; else the line behind the last is refused
abbrev pub experiment_of : ℕ → Draft → Result Experiment (List ℕ)
experiment_of behind draft =
    ok_or (option_map (experiment_of_runs draft) draft.runs) (refusal_text behind fault.None)

-- what follows of a line of this number, or its refusal
abbrev pub if_taken : (Draft → Result Experiment (List ℕ)) → ℕ → Result Draft ExperimentFault → Result Experiment (List ℕ)
if_taken next number (Ok draft) = next draft
if_taken next number (Err wrong) = Err (refusal_text number wrong)

-- the experiment of lines from a number on, with what those before ask for, or the refusal of the first that isn't taken
unfoldable pub experiment_from : ℕ → Draft → List (List ℕ) → Result Experiment (List ℕ)
experiment_from number draft [] = experiment_of number draft
experiment_from number draft (line ∷ rest) =
    if_taken (λ next. experiment_from (number + 1) next rest) number (with_line draft line)

-- no line asks for anything
abbrev pub empty_draft : Draft
empty_draft = record { parameters = []; runs = None; count = None; from = None }

-- the experiment of all lines, or the refusal of the first that isn't taken
abbrev pub experiment_of_lines : List (List ℕ) → Result Experiment (List ℕ)
experiment_of_lines text_lines = experiment_from 1 empty_draft text_lines

-- the experiment that the lines of a text ask for that begin with `*!`, or the refusal as it is printed
abbrev pub experiment_in : List ℕ → Result Experiment (List ℕ)
experiment_in text = experiment_of_lines (lines text)
