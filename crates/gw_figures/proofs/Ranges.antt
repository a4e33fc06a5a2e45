-- One number more.
use Rattle.std.proofs.Common.{◌≡◌, ◌∙◌, ℕ, ◌+◌, List, [], ◌∷◌, ◌++◌, map, sym, ap}
use Rattle.std.specs.List.{range_with_len}
use Rattle.std.proofs.lemmas.List.FromFn.{map-range_with_len_more}

-- what stood for the numbers so far, and the next, stand for one number more
pub one_more : {X : Type 0} (f : ℕ → X) (a n j : ℕ) (old new : List X) (x : X)
    → old ≡ map f (range_with_len a n) → new ≡ old ++ x ∷ [] → x ≡ f j → a + n ≡ j → new ≡ map f (range_with_len a (n + 1))
one_more f a n j old new x so_far added is next =
    added ∙ ap (λ xs. xs ++ x ∷ []) so_far ∙ ap (λ y. map f (range_with_len a n) ++ y ∷ []) is ∙ sym (map-range_with_len_more f a n j next)
