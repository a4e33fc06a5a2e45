-- How many more transactions fit, in room for themselves and, where they have any, for their parameters.
use Rattle.std.proofs.Common.{◌≡◌, ℕ, ◌+◌, ◌<◌, ◌≤◌, ◌==◌, if◌then◌else◌, true, false, refl, inl, inr, arith}
use Rattle.std.specs.Prelude.{min}
use Rattle.std.proofs.lemmas.Bool.{cases_lt, eq-eqb, ne_eqb}

abbrev pub room_of : ℕ → ℕ → ℕ → ℕ
room_of last slots beside = if last == 0 then slots else min slots beside

no_last : (last : ℕ) → last ≤ 0 → (last == 0) ≡ true
no_last last past = eq-eqb last 0 (omega (arith, past))

a_last : (last : ℕ) → 0 < last → (last == 0) ≡ false
a_last last some = ne_eqb last 0 (λ same. absurd (omega (arith, some, same)))

pub room-slots : (last slots beside : ℕ) → room_of last slots beside ≤ slots
room-slots last slots beside =
    elim (cases_lt 0 last) [ inl some ↦ rw (a_last last some) (omega arith) | inr past ↦ rw (no_last last past) (omega arith) ]

pub room-beside : (last slots beside : ℕ) → 0 < last → room_of last slots beside ≤ beside
room-beside last slots beside some = rw (a_last last some) (omega arith)

pub room-most : (last slots beside n : ℕ) → n ≤ slots → (0 < last → n ≤ beside) → n ≤ room_of last slots beside
room-most last slots beside n fits fits_beside =
    elim (cases_lt 0 last) [
      | inl some ↦ rw (a_last last some) (omega (arith, fits, fits_beside some))
      | inr past ↦
          rw (no_last last past) (omega (arith, fits))
    ]

-- room of both kinds falls by one at most
pub room-falls : (last slots beside new new_beside : ℕ) → slots ≤ new + 1 → (0 < last → beside ≤ new_beside + 1)
    → room_of last slots beside ≤ room_of last new new_beside + 1
room-falls last slots beside new new_beside less less_beside =
    elim (cases_lt 0 last) [
      | inl some ↦ rw (a_last last some) (omega (arith, less, less_beside some))
      | inr past ↦
          rw (no_last last past) (omega (arith, less))
    ]

-- or rises
pub room-rises : (last slots beside new new_beside : ℕ) → slots < new → (0 < last → beside < new_beside) → room_of last slots beside
    < room_of last new new_beside
room-rises last slots beside new new_beside more more_beside =
    elim (cases_lt 0 last) [
      | inl some ↦ rw (a_last last some) (omega (arith, more, more_beside some))
      | inr past ↦
          rw (no_last last past) (omega (arith, more))
    ]
