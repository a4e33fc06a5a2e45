-- What an input is.
use Rattle.std.specs.Prelude.{nat_eq, List, ℕ, codes, Bool}
use Rattle.std.specs.List.{starts_with}

-- an object begins so; a model text that does, by its first label, is taken for one
abbrev pub is_object : List ℕ → Bool
is_object input = starts_with nat_eq input (codes "GPSO")
