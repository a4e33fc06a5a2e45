use Rattle.std.proofs.Common.{take}
use Rattle.std.specs.List.{AllPairs}
use Rattle.gw_object.specs.Entities.{AreNamesakes}
use Rattle.gw_object_bytes.proofs.entities.names_are_own.Given as goal

abbrev pub invariant-loop-number : goal.invariant-loop-number
invariant-loop-number l = AllPairs (λ a b. ¬ AreNamesakes a b) (take l.number l.entities)
