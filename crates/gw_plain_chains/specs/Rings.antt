-- A list that is kept as a ring.
use Rattle.std.specs.Prelude.{ℕ, List, ◌++◌, take, drop}

module _ {T : Type 0} where
  -- a list kept in memory as those from n on, and behind them the first n
  abbrev pub rotation : ℕ → List T → List T
  rotation n xs = drop n xs ++ take n xs
