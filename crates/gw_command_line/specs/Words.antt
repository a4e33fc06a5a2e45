-- The words of the command line.
use Rattle.std.specs.Prelude.{ℕ, ◌-◌, ◌*◌, ◌^◌, nat_lt, nat_le, List, [], ◌∷◌, codes, ℤ, pos, Option, Some, None, is_some, is_none, option_map, Bool}
use Rattle.std.specs.Prelude.{not, ◌&&◌, ◌||◌, if◌then◌else◌}
use Rattle.std.specs.Option.{unwrap_or}
use Rattle.std.specs.List.{list_all}
use Rattle.std.specs.Str.{bytes_eq}
use Rattle.gw_num.specs.Numerals.{number_below}
use Rattle.gw_explain.specs.Codes.{is_code}
pub use Rattle.gw_command_line.specs.Options.{Choices, view, options_in}
pub use Rattle.gw_command_line.specs.Rows.{RunsDemand, LoneDemand, runs_view, lone_view, first_count, behind_first, runs_of, summing_of, lone_run_of, shard_of}
use Rattle.gw_command_line.specs.declared.rows.Shard.{Shard}
use Rattle.gw_command_line.specs.declared.rows.Summing.{Summing}
use Rattle.gw_command_line.specs.declared.words.Command.{Command}
use Rattle.gw_command_line.specs.declared.words.Command.TheVariants as commands
use Rattle.gw_command_line.specs.declared.words.Question.{Question}
use Rattle.gw_command_line.specs.declared.words.Question.TheVariants.{Explain, List as Lists, Points, Convert, Trace, Report}
use Rattle.gw_command_line.specs.declared.words.Span.{Span}
use Rattle.gw_command_line.specs.declared.words.Chart.{Chart}
use Rattle.gw_command_line.specs.declared.words.Study.{Study}

-- WHAT IS ASKED FOR

-- many runs: how many, their count, and the options
pub record Demand : Type 0 where
  pub runs : ℕ
  pub count : ℕ
  pub options : Choices

-- what a command line asks for
pub data Act : Type 0 where
  Ask : (question : Question) → Act
  Charts : (span : Span) (name : List ℕ) → Act
  Code : (code : ℕ) → Act
  Help : Act
  Version : Act
  Studies : (demand : Demand) → Act
  Compares : (demand : Demand) → Act
  Rows : (demand : RunsDemand) → Act
  Sums : (summing : Summing) → Act
  Object : (demand : LoneDemand) → Act
  Shares : (shard : Shard) → Act

-- what the code has of it
abbrev pub study_view : Study → Demand
study_view study = record { runs = study.runs; count = study.count; options = view study.options }

abbrev pub study_demand : Option Study → Option Demand
study_demand study = option_map study_view study

abbrev pub act_of : Command → Act
act_of (commands.Ask question) = Ask question
act_of (commands.Chart chart) = Charts chart.span chart.name.now
act_of (commands.Code code) = Code code
act_of commands.Help = Help
act_of commands.Version = Version
act_of (commands.Study study) = Studies (study_view study)
act_of (commands.Compare study) = Compares (study_view study)
act_of (commands.Runs runs) = Rows (runs_view runs)
act_of (commands.Summary summing) = Sums summing
act_of (commands.Object run) = Object (lone_view run)
act_of (commands.Shard shard) = Shares shard

-- the same, where there is a command
abbrev pub act_by : Option Command → Option Act
act_by command = option_map act_of command

-- NUMBERS

-- a time of the clock
abbrev pub time_in : Option ℕ → Option ℤ
time_in None = None
time_in (Some time) = Some (pos time)

abbrev pub clock_in : List ℕ → Option ℤ
clock_in word = time_in (number_below (2 ^ 63) word)

-- a number of runs: 1 to 512
abbrev pub some_runs : Option ℕ → Option ℕ
some_runs None = None
some_runs (Some runs) = if nat_le 1 runs then Some runs else None

abbrev pub runs_in : List ℕ → Option ℕ
runs_in word = some_runs (number_below 513 word)

-- SPANS

-- the whole of any run: no clock is above 2^63 - 1
abbrev pub whole : Span
whole = record { from = 0; to = 2 ^ 63 - 1 }

-- from one time to another that isn't before it
abbrev pub span_between : Option ℕ → Option ℕ → Option Span
span_between None to = None
span_between (Some from) None = None
span_between (Some from) (Some to) = if nat_le from to && nat_lt to (2 ^ 63) then Some (record { from = from; to = to }) else None

abbrev pub span_of : List ℕ → List ℕ → Option Span
span_of from to = span_between (number_below (2 ^ 64) from) (number_below (2 ^ 64) to)

-- COMMANDS OF A FEW WORDS

-- the command that one word names
abbrev pub command_named : List ℕ → Option Act
command_named name =
    if bytes_eq name (codes "explain") then Some (Ask Explain)
    else if bytes_eq name (codes "list") then Some (Ask Lists)
    else if bytes_eq name (codes "chart") then Some (Charts whole [])
    else if bytes_eq name (codes "points") then Some (Ask (Points whole))
    else if bytes_eq name (codes "convert") then Some (Ask Convert)
    else if bytes_eq name (codes "report") then Some (Ask (Report 0 0))
    else if bytes_eq name (codes "help") || bytes_eq name (codes "--help") then Some Help
    else if bytes_eq name (codes "--version") then Some Version
    else None

-- `explain`, and the code of a refusal
abbrev pub explanation_of : ℕ → Option Act
explanation_of code = if is_code code then Some (Code code) else None

abbrev pub explanation_in : Option ℕ → Option Act
explanation_in None = None
explanation_in (Some code) = explanation_of code

abbrev pub command_of_two : List ℕ → List ℕ → Option Act
command_of_two name first = if bytes_eq name (codes "explain") then explanation_in (number_below 1000 first) else None

-- `points`, and `chart` under a name
abbrev pub points_of : Option Span → Option Act
points_of None = None
points_of (Some span) = Some (Ask (Points span))

-- a name in a title has no control characters
abbrev pub is_name : List ℕ → Bool
is_name word = list_all (λ byte. nat_le 32 byte) word

abbrev pub chart_named : Span → List ℕ → Option Act
chart_named span name = if is_name name then Some (Charts span name) else None

abbrev pub chart_of : Option Span → List ℕ → Option Act
chart_of None name = None
chart_of (Some span) name = chart_named span name

-- `chart`, and a name or two times
abbrev pub chart_of_two : List ℕ → List ℕ → Option Act
chart_of_two first second = if bytes_eq first (codes "--name") then chart_named whole second else chart_of (span_of first second) []

-- `trace`, from one time to another
abbrev pub trace_of : Option ℤ → Option ℤ → Option Act
trace_of None to = None
trace_of (Some from) None = None
trace_of (Some from) (Some to) = Some (Ask (Trace from to))

abbrev pub trace_of_words : List ℕ → List ℕ → Option Act
trace_of_words from to = trace_of (clock_in from) (clock_in to)

-- `report`, a seed and a count
abbrev pub report_of : Option ℕ → Option ℕ → Option Act
report_of None count = None
report_of (Some seed) None = None
report_of (Some seed) (Some count) = Some (Ask (Report seed count))

abbrev pub report_of_words : List ℕ → List ℕ → Option Act
report_of_words seed count = report_of (number_below (2 ^ 32) seed) (number_below (2 ^ 64) count)

abbrev pub command_of_three : List ℕ → List ℕ → List ℕ → Option Act
command_of_three name first second =
    if bytes_eq name (codes "chart") then chart_of_two first second
    else if bytes_eq name (codes "points") then points_of (span_of first second)
    else if bytes_eq name (codes "trace") then trace_of_words first second
    else if bytes_eq name (codes "report") then report_of_words first second
    else None

-- `chart`, two times and a name
abbrev pub command_of_five : List ℕ → List ℕ → List ℕ → List ℕ → List ℕ → Option Act
command_of_five name first second key title =
    if bytes_eq name (codes "chart") && bytes_eq key (codes "--name") then chart_of (span_of first second) title else None

-- STUDIES

-- so many runs may be made as options say: as many studies of them as there are runs for, 1 to 16 workers, and one form
abbrev pub is_fit : ℕ → Choices → Bool
is_fit runs o =
    nat_le 1 (unwrap_or o.seeds 1) && nat_le (runs * unwrap_or o.seeds 1) 512 && nat_le 1 (unwrap_or o.workers 1) && nat_le (unwrap_or o.workers 1) 16
    && not (o.csv && is_some o.figure)

abbrev pub study_if_fit : ℕ → ℕ → Choices → Option Demand
study_if_fit runs count o = if is_fit runs o then Some (record { runs = runs; count = count; options = o }) else None

-- the options of a study, if words name any
abbrev pub study_by : ℕ → ℕ → Option Choices → Option Demand
study_by runs count None = None
study_by runs count (Some o) = study_if_fit runs count o

abbrev pub study_with : ℕ → ℕ → List (List ℕ) → Option Demand
study_with runs count words = study_by runs count (options_in words)

-- the count comes first, if it is there
abbrev pub study_counted : ℕ → List (List ℕ) → Option ℕ → Option Demand
study_counted runs words None = study_with runs 0 words
study_counted runs words (Some count) = study_with runs count (behind_first words)

abbrev pub study_of_runs : ℕ → List (List ℕ) → Option Demand
study_of_runs runs words = study_counted runs words (first_count words)

-- how many runs, their count, and the options
abbrev pub study_if_runs : List (List ℕ) → Option ℕ → Option Demand
study_if_runs words None = None
study_if_runs words (Some runs) = study_of_runs runs words

abbrev pub study_of : List (List ℕ) → Option Demand
study_of [] = None
study_of (runs ∷ words) = study_if_runs words (runs_in runs)

-- `study`
abbrev pub studies : Option Demand → Option Act
studies None = None
studies (Some demand) = Some (Studies demand)

-- `compare`, without other numbers
abbrev pub compares : Option Demand → Option Act
compares None = None
compares (Some demand) = if is_none demand.options.first then Some (Compares demand) else None

-- THE COMMAND

abbrev pub command_of_more : List (List ℕ) → Option Act
command_of_more [] = None
command_of_more (name ∷ []) = None
command_of_more (name ∷ first ∷ []) = None
command_of_more (name ∷ first ∷ second ∷ []) = None
command_of_more (name ∷ first ∷ second ∷ key ∷ []) = None
command_of_more (name ∷ first ∷ second ∷ key ∷ title ∷ []) = command_of_five name first second key title
command_of_more (name ∷ first ∷ second ∷ key ∷ title ∷ surplus ∷ words) = None

abbrev pub command_of_few : List (List ℕ) → Option Act
command_of_few [] = None
command_of_few (name ∷ []) = command_named name
command_of_few (name ∷ first ∷ []) = command_of_two name first
command_of_few (name ∷ first ∷ second ∷ []) = command_of_three name first second
command_of_few (name ∷ first ∷ second ∷ key ∷ words) = command_of_more (name ∷ first ∷ second ∷ key ∷ words)

-- the command that these words name
abbrev pub command_in : List (List ℕ) → Option Act
command_in [] = None
command_in (name ∷ words) =
    if bytes_eq name (codes "study") then studies (study_of words)
    else if bytes_eq name (codes "compare") then compares (study_of words)
    else if bytes_eq name (codes "runs") then option_map Rows (runs_of words)
    else if bytes_eq name (codes "summary") then option_map Sums (summing_of words)
    else if bytes_eq name (codes "object") then option_map Object (lone_run_of words)
    else if bytes_eq name (codes "shard") then option_map Shares (shard_of words)
    else command_of_few (name ∷ words)
