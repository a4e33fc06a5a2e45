-- The first of a list that passes a test: the list without it, and with it changed.
use Rattle.std.specs.Prelude.{List, [], ◌∷◌, Bool, if◌then◌else◌}

module _ {A : Type 0} where
  -- a list without the first that passes
  abbrev pub without_first : (A → Bool) → List A → List A
  without_first passes [] = []
  without_first passes (x ∷ xs) = if passes x then xs else x ∷ without_first passes xs

  -- a list with the first that passes changed
  abbrev pub with_first_changed : (A → Bool) → (A → A) → List A → List A
  with_first_changed passes change [] = []
  with_first_changed passes change (x ∷ xs) = if passes x then change x ∷ xs else x ∷ with_first_changed passes change xs
