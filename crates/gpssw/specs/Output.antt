-- What the program writes.
use Rattle.std.specs.Prelude.{◌≡◌, ◌⊎◌, ℕ, List, codes, map, Option, MatchOption, string_bytes}
use Rattle.std.specs.Global.{Global}
use Rattle.std.specs.declared.string.String.{String}
use Rattle.gw_answers.specs.Requests as requests
use Rattle.gw_answers.specs.Status.{no_memory, wrong_words}
use Rattle.gw_answers.specs.Requests.{Answering}
use Rattle.gw_batch.specs.Batch.{Entry}
use Rattle.gw_batch.specs.Parts.{IsBatchTold, IsPool}
use Rattle.gw_console.specs.Output.{memory_line, Responds, Writes}
use Rattle.gpssw.specs.declared.words.Command.{Command}
use Rattle.gpssw.specs.declared.words.Command.TheVariants.{Single, Pool}
use Rattle.gpssw.specs.Words.{command_in}

-- the line on wrong words
abbrev pub usage_line : List ℕ
usage_line = codes "usage: gpssw asm | check | run SEED COUNT | pool WORKERS SLICE\n"

-- what answers the input of a command
abbrev pub command_answering : Command → Answering
command_answering (Single request) = requests.answers_to request
command_answering (Pool workers slice watched) = IsPool workers slice

-- the output of these words: that of the command that they name, or the line on wrong words
abbrev pub RespondsToWords : List (String Global) → Option (List ℕ) → ℕ → Option (List ℕ) → Option (List ℕ) → Type 0
RespondsToWords words known result old new =
    MatchOption (command_in (map string_bytes words)) (Writes usage_line wrong_words result old new)
    (λ command. Responds (command_answering command) known result old new)

-- what is told of a batch is written, or the line on want of memory; or, where a write failed, a front of that
abbrev pub RespondsToBatch : List Entry → ℕ → Option (List ℕ) → Option (List ℕ) → Type 0
RespondsToBatch es result old new =
    (text : List ℕ) × (status : ℕ) × (IsBatchTold es text status ⊎ ((text ≡ memory_line) × (status ≡ no_memory))) × Writes text status result old new
