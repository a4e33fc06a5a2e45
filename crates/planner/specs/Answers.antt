-- What the program writes.
use Rattle.std.specs.Prelude.{◌⊎◌, ℕ, ◌+◌, List, take, Option, Bool, true, false, MatchOption}
use Rattle.gw_object.specs.declared.limits.TheConstants.{MOST_BYTES}
use Rattle.gw_answers.specs.Status.{end_status, no_memory, wrong_words}
use Rattle.gw_answers.specs.Requests.{Answering}
use Rattle.gw_console.specs.Output.{Writes, Responds, memory_line}
use Rattle.gw_explain.specs.Meaning.{meaning}
use Rattle.gw_command_line.specs.Words.{Act, Ask, Charts, Code, Help, Version, Studies, Compares, Rows, Sums, Object, Shares, command_in}
use Rattle.gw_command_line.specs.declared.rows.Summing.{Summing}
use Rattle.gw_summary.specs.StudyTold.{TellsStudies}
use Rattle.gw_summary.specs.Telling.{IsSummaryOf}
use Rattle.gw_summary.specs.declared.telling.SummaryRequest.{SummaryRequest}
use Rattle.planner.specs.declared.help.TheConstants.{HELP, VERSION, USAGE}
use Rattle.gw_planner.specs.Answers.{act_answering}

-- about what stands on a reader, up to a model's limit and one byte
abbrev pub of_front : Answering → Answering
of_front Asked bytes = Asked (take (MOST_BYTES + 1) bytes)

-- a summary, by what the command line asks for
abbrev pub summary_of : Summing → SummaryRequest
summary_of summing = record { seeds = summing.seeds; all = summing.all }

-- what the rows that stand on a reader tell, or a refusal; of all rows of a study, in any order, the table of the study
abbrev pub summary_answering : Summing → Answering
summary_answering summing bytes text status =
    IsSummaryOf bytes (summary_of summing) text status × TellsStudies bytes (summary_of summing) text status

-- the line on wrong words
abbrev pub usage_line : List ℕ
usage_line = USAGE.now

-- a text is written, with the status of an end; or the line on want of memory
abbrev pub Tells : List ℕ → ℕ → Option (List ℕ) → Option (List ℕ) → Type 0
Tells text result old new = Writes text end_status result old new ⊎ Writes memory_line no_memory result old new

-- a command answers about what stands on its reader, tells what a code means, or writes what the program says of itself
abbrev pub DoesCommand : Act → Option (List ℕ) → ℕ → Option (List ℕ) → Option (List ℕ) → Type 0
DoesCommand (Sums summing) known result old new = Responds (summary_answering summing) known result old new
DoesCommand (Code code) known result old new = Tells (meaning code) result old new
DoesCommand Help known result old new = Writes HELP.now end_status result old new
DoesCommand Version known result old new = Writes VERSION.now end_status result old new
DoesCommand act known result old new = Responds (of_front (act_answering act)) known result old new

-- the words of a command line name a command, which is carried out; or they are wrong, and the usage line is written
abbrev pub DoesWords : List (List ℕ) → Option (List ℕ) → ℕ → Option (List ℕ) → Option (List ℕ) → Type 0
DoesWords words known result old new =
    MatchOption (command_in words) (Writes usage_line wrong_words result old new)
    (λ command. DoesCommand command known result old new)
