-- The words of the command line.
use Rattle.std.specs.Prelude.{ℕ, ◌^◌, List, [], ◌∷◌, codes, Option, Some, None, Bool, true, false, ◌&&◌, if◌then◌else◌}
use Rattle.std.specs.Str.{bytes_eq}
use Rattle.gw_num.specs.Numerals.{number_below}
use Rattle.gpssw.specs.declared.words.Command.{Command}
use Rattle.gpssw.specs.declared.words.Command.TheVariants.{Single, Pool}
use Rattle.gw_answers.specs.declared.request.Request.TheVariants.{Run, Check, Asm}

-- the command `run`, where both words spell numbers in range
abbrev pub run_of : Option ℕ → Option ℕ → Option Command
run_of None count = None
run_of (Some seed) None = None
run_of (Some seed) (Some count) = Some (Single (Run seed count))

-- the command `pool`, watched or not, where both words spell numbers
abbrev pub pool_of : Bool → Option ℕ → Option ℕ → Option Command
pool_of watched None slice = None
pool_of watched (Some workers) None = None
pool_of watched (Some workers) (Some slice) = Some (Pool workers slice watched)

-- the command that one word names: `asm` or `check`
abbrev pub command_named : List ℕ → Option Command
command_named name =
    if bytes_eq name (codes "asm") then Some (Single Asm) else if bytes_eq name (codes "check") then Some (Single Check) else None

-- the command that a word names which two others follow: `run`, a seed below 2^32 and a count below 2^64; or `pool`, and two numbers below 2^32
abbrev pub command_with : List ℕ → List ℕ → List ℕ → Option Command
command_with name first second =
    if bytes_eq name (codes "run") then run_of (number_below (2 ^ 32) first) (number_below (2 ^ 64) second)
    else if bytes_eq name (codes "pool") then pool_of false (number_below (2 ^ 32) first) (number_below (2 ^ 32) second)
    else None

-- the command that a word names which three others follow: `pool`, two numbers below 2^32, and `-v`
abbrev pub command_before : List ℕ → List ℕ → List ℕ → List ℕ → Option Command
command_before name first second last =
    if bytes_eq name (codes "pool") && bytes_eq last (codes "-v") then pool_of true (number_below (2 ^ 32) first) (number_below (2 ^ 32) second)
    else None

-- the command that these words name: `asm`, `check`, `run SEED COUNT`, or `pool WORKERS SLICE` with or without `-v`
abbrev pub command_in : List (List ℕ) → Option Command
command_in [] = None
command_in (name ∷ []) = command_named name
command_in (name ∷ first ∷ []) = None
command_in (name ∷ first ∷ second ∷ []) = command_with name first second
command_in (name ∷ first ∷ second ∷ last ∷ []) = command_before name first second last
command_in (name ∷ first ∷ second ∷ last ∷ surplus ∷ words) = None
