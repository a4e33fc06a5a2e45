-- A command that is answered about what stands on its reader is carried out.
use Rattle.std.proofs.Common.{◌≡◌, ℕ, List, Option, Bool, true, false}
use Rattle.gw_console.specs.Output.{Responds}
use Rattle.gw_command_line.specs.Words.{Act, Ask, Charts, Code, Help, Version, Studies, Compares, Rows, Sums, Object, Shares}
use Rattle.gw_planner.specs.Answers.{act_answering}
use Rattle.planner.specs.Answers.{of_front, DoesCommand}

-- whether a command is answered so
abbrev pub is_asked : Act → Bool
is_asked (Ask question) = true
is_asked (Charts span name) = true
is_asked (Studies demand) = true
is_asked (Compares demand) = true
is_asked (Rows demand) = true
is_asked (Object demand) = true
is_asked (Shares shard) = true
is_asked (Code code) = false
is_asked (Sums summing) = false
is_asked Help = false
is_asked Version = false

pub does : (a : Act) (known : Option (List ℕ)) (result : ℕ) (old new : Option (List ℕ)) → is_asked a ≡ true
    → Responds (of_front (act_answering a)) known result old new → DoesCommand a known result old new
does (Ask question) known result old new asked h = h
does (Charts span name) known result old new asked h = h
does (Studies demand) known result old new asked h = h
does (Compares demand) known result old new asked h = h
does (Rows demand) known result old new asked h = h
does (Object demand) known result old new asked h = h
does (Shares shard) known result old new asked h = h
does (Code code) known result old new asked h = absurd cc
does (Sums summing) known result old new asked h = absurd cc
does Help known result old new asked h = absurd cc
does Version known result old new asked h = absurd cc
