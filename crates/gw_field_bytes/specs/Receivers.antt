-- What a receiver holds, and what it holds behind more bytes.
use Rattle.std.specs.Prelude.{◌≡◌, ℕ, ◌-◌, nat_le, if◌then◌else◌, List, ◌++◌, length, Option, Some, None, Result, OnOk}

-- what is known of a receiver: the bytes in it; or how many more it takes, unless it took too many
pub data Content : Type 0 where
  of_bytes : List ℕ → Content
  of_room : Option ℕ → Content

-- how many bytes a room takes behind so many, if it takes those
abbrev pub room_behind : ℕ → Option ℕ → Option ℕ
room_behind n None = None
room_behind n (Some room) = if nat_le n room then Some (room - n) else None

-- what a receiver holds, with these bytes behind it
unfoldable pub with_bytes : List ℕ → Content → Content
with_bytes bytes (of_bytes front) = of_bytes (front ++ bytes)
with_bytes bytes (of_room room) = of_room (room_behind (length bytes) room)

-- a call that succeeds put these bytes behind what a receiver held, and no others
abbrev pub Puts : {R E : Type 0} → (R → Content) → R → R → List ℕ → Result (Unit {0}) E → Type 0
Puts content old new bytes result = OnOk result (content new ≡ with_bytes bytes (content old))
