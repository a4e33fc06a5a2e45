-- What the program tells of its calls of the reader and of the writer.
use Rattle.std.specs.Prelude.{ℕ, List, map, MatchOption, string_bytes}
use Rattle.std.specs.Global.{Global}
use Rattle.std.specs.declared.string.String.{String}
use Rattle.gw_streams.specs.Streams.{Source, Sink}
use Rattle.gw_console.specs.Calls.{Account, TellsCalls}
use Rattle.gpssw.specs.declared.words.Command.{Command}
use Rattle.gpssw.specs.declared.words.Command.TheVariants.{Single, Pool}
use Rattle.gpssw.specs.Words.{command_in}
use Rattle.gpssw.specs.Framing.{LosesBatch, most_bytes_of_batch}

-- of `pool`: the batch is read and nothing behind it, or nothing at all where the words are out of range
unfoldable pub TellsPoolCalls : ℕ → ℕ → ℕ → Source → Source → Sink → Sink → Type 0
TellsPoolCalls workers slice status from to old new = Account (LosesBatch workers slice) most_bytes_of_batch status from to old new

-- what a status tells where a command is carried out
abbrev pub tells_calls : Command → ℕ → Source → Source → Sink → Sink → Type 0
tells_calls (Single request) = TellsCalls
tells_calls (Pool workers slice watched) = TellsPoolCalls workers slice

-- what it tells of these words: of the command that they name, or of a usage line
abbrev pub TellsCallsOf : List (String Global) → ℕ → Source → Source → Sink → Sink → Type 0
TellsCallsOf words status from to old new =
    MatchOption (command_in (map string_bytes words)) (TellsCalls status from to old new)
    (λ command. tells_calls command status from to old new)
