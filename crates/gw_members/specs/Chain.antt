-- The chain discipline: where a newcomer joins a chain, what is due, and waking.
use Rattle.std.specs.Prelude.{ℕ, ℤ, List, [], ◌∷◌, Option, Some, None, Bool, if◌then◌else◌, int_le, int_lt}

-- what a contract sees of a chain: its members in order, and how many more fit with no allocation
pub record Chain (E : Type 0) : Type 0 where
  pub items : List E
  pub room : ℕ

module _ {A : Type 0} where
  -- x behind the longest front whose members pass
  abbrev pub placed_behind : (A → Bool) → A → List A → List A
  placed_behind passes x [] = x ∷ []
  placed_behind passes x (y ∷ ys) = if passes y then y ∷ placed_behind passes x ys else x ∷ y ∷ ys

  -- x by its priority, behind all of equal or higher priority
  abbrev pub behind : (A → ℤ) → A → List A → List A
  behind priority x xs = placed_behind (λ y. int_le (priority x) (priority y)) x xs

  -- x by its priority, ahead of all of equal or lower priority
  abbrev pub ahead : (A → ℤ) → A → List A → List A
  ahead priority x xs = placed_behind (λ y. int_lt (priority x) (priority y)) x xs

  -- x by its time, behind all that were scheduled for the same time or an earlier one
  abbrev pub in_time : (A → ℤ) → A → List A → List A
  in_time time x xs = placed_behind (λ y. int_le (time y) (time x)) x xs

  -- waking: all of xs, in their order, each behind its peers in ys
  abbrev pub all_behind : (A → ℤ) → List A → List A → List A
  all_behind priority [] ys = ys
  all_behind priority (x ∷ xs) ys = all_behind priority xs (behind priority x ys)

  -- the longest front whose times are at most now
  abbrev pub due : (A → ℤ) → ℤ → List A → List A
  due time now [] = []
  due time now (x ∷ xs) = if int_le (time x) now then x ∷ due time now xs else []

  -- what is left behind that front
  abbrev pub later : (A → ℤ) → ℤ → List A → List A
  later time now [] = []
  later time now (x ∷ xs) = if int_le (time x) now then later time now xs else x ∷ xs

  -- the first, if there is one
  abbrev pub first : List A → Option A
  first [] = None
  first (x ∷ xs) = Some x

  -- all but the first
  abbrev pub rest : List A → List A
  rest [] = []
  rest (x ∷ xs) = xs

  -- all but the first where that leaves, else all
  abbrev pub rest_if : Bool → List A → List A
  rest_if leaves xs = if leaves then rest xs else xs
