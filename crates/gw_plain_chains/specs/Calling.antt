-- Calls on a chain that are made one after the other, each on what the one before left.
use Rattle.std.specs.Prelude.{◌≡◌, ℕ, List, [], ◌∷◌, ◌++◌, Result, OnOk, Vec}

-- a chain: its members in order, and to which place a walk over it has come, 0 where nobody walks
pub record BodyState (M : Type 0) : Type 0 where
  pub members : List M
  pub place : ℕ

module _ {K S : Type 0} (after : K → S → S) where
  -- what calls leave
  abbrev pub state_after : List K → S → S
  state_after [] s = s
  state_after (call ∷ calls) s = state_after calls (after call s)

  -- what each of them answers
  abbrev pub answers_in_turn : {A : Type 0} → (K → S → A) → List K → S → List A
  answers_in_turn answer [] s = []
  answers_in_turn answer (call ∷ calls) s = answer call s ∷ answers_in_turn answer calls (after call s)

  -- what each of them answers is added behind others, unless there was no memory
  abbrev pub AddsOnOk : {A X E Z : Type 0} → Result X E → (K → S → A) → List K → S → Vec A Z → Vec A Z → Type 0
  AddsOnOk result answer calls s old new = OnOk result (new.items ≡ old.items ++ answers_in_turn answer calls s)
