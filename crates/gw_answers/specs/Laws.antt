-- The laws of answers.
use Rattle.std.specs.Prelude.{◌≡◌, ℕ, List}
use Rattle.gw_answers.specs.Answer.{IsAnswer}

-- bytes, a seed and a count have an answer
abbrev pub SomeAnswer : Type 0
SomeAnswer = (seed count : ℕ) (bytes : List ℕ) → (text : List ℕ) × (status : ℕ) × IsAnswer seed count bytes text status

-- and no second one
abbrev pub OneAnswer : Type 0
OneAnswer =
    (seed count : ℕ) (bytes text other : List ℕ) (status otherwise : ℕ) → IsAnswer seed count bytes text status → IsAnswer seed count bytes other otherwise
    → (text ≡ other) × (status ≡ otherwise)
