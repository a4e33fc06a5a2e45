-- Four added one after the other.
use Rattle.std.proofs.Common.{◌≡◌, ◌∙◌, List, ◌++◌, ◌∷◌, [], ap}
use Rattle.std.specs.Prelude.{Result, Ok, Err, OnOk}
use Rattle.std.proofs.lemmas.List.{append_assoc}

pub four : {X E : Type 0} (r : Result (Unit {0}) E) (s0 s1 s2 s3 s4 : List X) (a b c d : X)
    → s1 ≡ s0 ++ a ∷ [] → s2 ≡ s1 ++ b ∷ [] → s3 ≡ s2 ++ c ∷ [] → OnOk r (s4 ≡ s3 ++ d ∷ []) → OnOk r (s4 ≡ s0 ++ a ∷ b ∷ c ∷ d ∷ [])
four (Ok u) s0 s1 s2 s3 s4 a b c d one two three h =
    h ∙ ap (λ s. s ++ d ∷ [])
    (three ∙ ap (λ s. s ++ c ∷ []) (two ∙ ap (λ s. s ++ b ∷ []) one ∙ append_assoc s0 (a ∷ []) (b ∷ [])) ∙ append_assoc s0 (a ∷ b ∷ []) (c ∷ []))
    ∙ append_assoc s0 (a ∷ b ∷ c ∷ []) (d ∷ [])
four (Err e) s0 s1 s2 s3 s4 a b c d one two three h = tt
