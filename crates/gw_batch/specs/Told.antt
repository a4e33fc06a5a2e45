-- What is told of an entry.
use Rattle.std.specs.Prelude.{ℕ, List, ◌++◌, Bool, true, false}
use Rattle.gw_console.specs.Output.{memory_line}
use Rattle.gw_batch.specs.declared.told.Told.{Told}
use Rattle.gw_batch.specs.declared.told.Told.TheVariants as kinds
use Rattle.gw_batch.specs.Parts.{job_line}

-- its text
abbrev pub told_text : Told → List ℕ
told_text (kinds.Report text) = text.items
told_text (kinds.Refusal text) = text.items
told_text kinds.NoMemory = memory_line

-- behind the line of the entry with this number
abbrev pub part_of : ℕ → Told → List ℕ
part_of number told = job_line number ++ told_text told

-- whether it is a refusal
abbrev pub told_refused : Told → Bool
told_refused (kinds.Report text) = false
told_refused (kinds.Refusal text) = true
told_refused kinds.NoMemory = true
