-- Header fields that are added one by one.
use Rattle.std.proofs.Common.{◌≡◌, List, [], ◌∷◌, ◌++◌, ap, refl}

-- four, and then others, stand behind those that there were
pub four : {X : Type 0} (xs : List X) (a b c d : X) (rest : List X)
    → ((((xs ++ a ∷ []) ++ b ∷ []) ++ c ∷ []) ++ d ∷ []) ++ rest ≡ xs ++ a ∷ b ∷ c ∷ d ∷ rest
four [] a b c d rest = refl
four (x ∷ xs) a b c d rest = ap (λ l. x ∷ l) (four xs a b c d rest)
