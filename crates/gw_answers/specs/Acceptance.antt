-- How an accepted object is printed.
use Rattle.std.specs.Prelude.{ℕ, List, ◌++◌, codes}
use Rattle.std.specs.Fmt.{decimal}

-- an accepted object: how many blocks and procedures it has, and the greatest weight of a block
abbrev pub accepted_text : ℕ → ℕ → ℕ → List ℕ
accepted_text blocks procedures weight =
    codes "accepted " ++ decimal blocks ++ codes " blocks " ++ decimal procedures ++ codes " procedures weight " ++ decimal weight
