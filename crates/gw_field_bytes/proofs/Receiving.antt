-- Bytes put behind others are put as one, and what is left of a room.
use Rattle.std.proofs.Common.{◌≡◌, ℕ, ◌-◌, ◌+◌, ◌≤◌, ◌<◌, List, [], ◌∷◌, ◌++◌, length, get_or, take, Option, Some, None, refl, sym, ap, ◌∙◌}
use Rattle.std.proofs.Common.{append_assoc, add-one, arith, inl, inr}
use Rattle.std.specs.Prelude.{SomeIff}
use Rattle.std.specs.List.{flat_map}
use Rattle.std.proofs.Math.Seq.{take-suc}
use Rattle.std.proofs.lemmas.Bool.{cases_lt, lt-leb, le-leb}
use Rattle.std.proofs.lemmas.List.{append-nil, length-append}
use Rattle.std.proofs.lemmas.List.Concat.{flat_map-append}
use Rattle.gw_field_bytes.specs.Receivers.{Content, of_bytes, of_room, room_behind, with_bytes}
use Rattle.gw_fields.specs.Fields.{Leaves}

-- a room behind m bytes, and then behind n
room_twice : (m n : ℕ) (room : Option ℕ) → room_behind n (room_behind m room) ≡ room_behind (m + n) room
room_twice m n None = refl
room_twice m n (Some room) =
    elim (cases_lt room m) [
      | inl few ↦ rw (lt-leb m room few, lt-leb (m + n) room (omega arith)) refl
      | inr first ↦
          elim (cases_lt (room - m) n) [
            | inl few ↦ rw (le-leb m room first, lt-leb n (room - m) few, lt-leb (m + n) room (omega arith)) refl
            | inr second ↦
                let rest : room - m - n ≡ room - (m + n) = omega arith in
                rw (le-leb m room first, le-leb n (room - m) second, le-leb (m + n) room (omega arith), rest) refl
          ]
    ]

-- bytes behind bytes are all of them behind what was there before
pub with_bytes_twice : (a b : List ℕ) (content : Content) → with_bytes b (with_bytes a content) ≡ with_bytes (a ++ b) content
unfolding with_bytes
with_bytes_twice a b (of_bytes front) = ap (λ bytes. of_bytes bytes) (append_assoc front a b)
with_bytes_twice a b (of_room room) = rw (length-append a b, room_twice (length a) (length b) room) refl

room_behind_none : (room : Option ℕ) → room_behind 0 room ≡ room
room_behind_none None = refl
room_behind_none (Some room) =
    let whole : room - 0 ≡ room = omega arith in
    rw (le-leb 0 room (omega arith), whole) refl

pub with_no_bytes : (content : Content) → with_bytes [] content ≡ content
unfolding with_bytes
with_no_bytes (of_bytes front) = ap (λ bytes. of_bytes bytes) (append-nil front)
with_no_bytes (of_room room) = ap (λ left. of_room left) (room_behind_none room)

-- what is put one behind the other is put as one
pub ruleset joining = (with_bytes_twice, with_no_bytes)

-- one more element is put behind those before it
one_more : {A : Type 0} (f : A → List ℕ) (xs : List A) (i : ℕ) (x : A) → i < length xs → x ≡ get_or xs i x → flat_map f (take (i + 1) xs)
    ≡ flat_map f (take i xs) ++ f x
one_more f xs i x lt is =
    let more : take (i + 1) xs ≡ take i xs ++ x ∷ [] = rw (add-one, take-suc xs i x lt, ← is) refl in
    ap (flat_map f) more ∙ flat_map-append f (take i xs) (x ∷ []) ∙ ap (λ (t : List ℕ). flat_map f (take i xs) ++ t) (append-nil (f x))

pub one_more_put : {A : Type 0} (f : A → List ℕ) (xs : List A) (i : ℕ) (x : A) (start before behind : Content) → i < length xs → x
    ≡ get_or xs i x → before ≡ with_bytes (flat_map f (take i xs)) start → behind ≡ with_bytes (f x) before → behind
    ≡ with_bytes (flat_map f (take (i + 1) xs)) start
one_more_put f xs i x start before behind lt is front last =
    last ∙ ap (with_bytes (f x)) front ∙ with_bytes_twice (flat_map f (take i xs)) (f x) start
    ∙ ap (λ bytes. with_bytes bytes start) (sym (one_more f xs i x lt is))

left_is : (n room : ℕ) (left : Option ℕ) → left ≡ room_behind n (Some room) → SomeIff left (n ≤ room) (room - n)
left_is n room left is =
    elim (cases_lt room n) [
      | inl few ↦ let none : left ≡ None = is ∙ rw (lt-leb n room few) refl in rw none (λ fits. absurd (omega arith))
      | inr fit ↦ let some : left ≡ Some (room - n) = is ∙ rw (le-leb n room fit) refl in rw some (fit, refl)
    ]

-- what a room takes behind bytes
pub leaves : (bytes : List ℕ) (room : ℕ) (left : Option ℕ) → of_room left ≡ with_bytes bytes (of_room (Some room)) → Leaves bytes room left
unfolding with_bytes
leaves bytes room left is = left_is (length bytes) room left (cc)

-- what a vector holds behind bytes
pub keeps : (bytes front all : List ℕ) → of_bytes all ≡ with_bytes bytes (of_bytes front) → all ≡ front ++ bytes
unfolding with_bytes
keeps bytes front all is = cc
