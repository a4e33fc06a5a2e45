-- The first of the current events chain becomes active.
use Rattle.std.proofs.Common.{◌≡◌, List, [], ◌∷◌, map, Some, option_map, ap}
use Rattle.gw_members.specs.Chain.{first, rest}
use Rattle.gw_members.specs.declared.tx.Tx.{Tx}
use Rattle.gw_members.specs.declared.tx.Member.{Member}
use Rattle.gw_machine.specs.View.{member_number}

-- the number of the first, and those of the rest
pub first-number : (xs : List Member) (tx : Tx) → option_map (λ (m : Member). m.tx) (first xs) ≡ Some tx → map member_number xs ≡ tx.number
    ∷ map member_number (rest xs)
first-number [] tx h = absurd cc
first-number (x ∷ xs) tx h = let is : x.tx ≡ tx = cc in ap (λ (t : Tx). t.number ∷ map member_number xs) is
