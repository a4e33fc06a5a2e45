-- What contracts see of a reader and of a writer: its bytes, and what became of the calls.
use Rattle.std.specs.Prelude.{◌≡◌, ℕ, List, Option, Result, Ok, Err, Bool, true}

-- a reader: the bytes that it has left, where it tells them, and whether a call failed
pub record Source : Type 0 where
  pub left : Option (List ℕ)
  pub failed : Bool

-- a writer: the bytes that it holds, where it tells them; whether a call failed; and whether bytes that it took wait for a flush
pub record Sink : Type 0 where
  pub held : Option (List ℕ)
  pub failed : Bool
  pub waits : Bool

-- a call that fails sets the mark, and no other changes it
abbrev pub MarksFailure : {T E : Type 0} → Result T E → Bool → Bool → Type 0
MarksFailure (Ok x) before after = after ≡ before
MarksFailure (Err e) before after = after ≡ true
