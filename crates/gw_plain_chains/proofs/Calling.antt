-- Calls that are made one after the other: what is left to do on the way.
use Rattle.std.proofs.Common.{◌≡◌, ◌++◌, ℕ, List, drop}

module _ {K S A : Type 0} (after : List K → S → S) (answers : List K → S → List A) where
  -- the calls from the i-th on leave what all of them leave of the first state, and answer the rest of what all answer
  abbrev pub DoTheRest : List K → ℕ → S → S → List A → List A → Type 0
  DoTheRest calls i first now before so_far =
      (after (drop i calls) now ≡ after calls first) × (so_far ++ answers (drop i calls) now ≡ before ++ answers calls first)
