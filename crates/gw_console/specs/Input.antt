-- Reading a part of the input.
use Rattle.std.specs.Prelude.{◌≡◌, ◌≤◌, ℕ, List, ◌++◌, length, Option, Result, IfOk, Vec}
use Rattle.std.specs.Global.{Global}
use Rattle.std.specs.Io.KnownBytes.{Consumes, IsAtEnd}

-- n bytes, at most so many, went from the reader to the input; none where it is at its end
pub record TakesSome (n most : ℕ) (old new : List ℕ) (before after : Option (List ℕ)) : Type 0 where
  pub bytes : List ℕ
  pub count : length bytes ≡ n
  pub bound : n ≤ most
  pub grown : new ≡ old ++ bytes
  pub taken : Consumes before after bytes
  pub end : n ≡ 0 → IsAtEnd after

-- a read takes some bytes, at most so many, unless it fails
abbrev pub ReadsSome : {E : Type 0} → ℕ → Result ℕ E → Vec ℕ Global → Vec ℕ Global → Option (List ℕ) → Option (List ℕ) → Type 0
ReadsSome most result old new before after = IfOk result (λ n. TakesSome n most old.items new.items before after)
