-- Lines that begin as they should, one behind the other.
use Rattle.std.specs.Prelude.{◌≡◌, ℕ, zero, suc, List, [], ◌∷◌, ◌++◌, codes, Bool, true, ◌==◌, not, Result, OnOk, Vec}
use Rattle.std.specs.Global.{Global}
use Rattle.std.specs.List.{list_all}

-- whether no line ends here
abbrev pub is_within : ℕ → Bool
is_within byte = not (byte == 10)

-- words with no end of a line among them
abbrev pub AreWords : List ℕ → Type 0
AreWords words = list_all is_within words ≡ true

-- a line, by what it begins with
pub data Opening : Type 0 where
  -- it is this and no more
  Whole : List ℕ → Opening
  -- words stand behind this
  Front : List ℕ → Opening

-- a line is so
abbrev pub IsLine : Opening → List ℕ → Type 0
IsLine (Whole text) line = line ≡ text ++ codes "\n"
IsLine (Front text) line = (words : List ℕ) × AreWords words × (line ≡ text ++ words ++ codes "\n")

-- a text is lines that are so: one for each, in this order, and no other
abbrev pub AreLines : List Opening → List ℕ → Type 0
AreLines [] text = text ≡ []
AreLines (opening ∷ openings) text = (line rest : List ℕ) × IsLine opening line × AreLines openings rest × (text ≡ line ++ rest)

-- such lines are added to a text
pub record AddsLines (openings : List Opening) (old new : List ℕ) : Type 0 where
  pub lines : List ℕ
  pub are : AreLines openings lines
  pub added : new ≡ old ++ lines

-- unless there is no memory for them, such lines come behind what there is
abbrev pub PutsLines : {A E : Type 0} → Result A E → Vec ℕ Global → Vec ℕ Global → List Opening → Type 0
PutsLines result old new openings = OnOk result (AddsLines openings old.items new.items)

-- words and the end of a line are added to a text
pub record EndsLine (old new : List ℕ) : Type 0 where
  pub words : List ℕ
  pub are : AreWords words
  pub added : new ≡ old ++ words ++ codes "\n"

-- those of the numbers below this one, ascending from 0
abbrev pub openings_below : (ℕ → List Opening) → ℕ → List Opening
openings_below lines zero = []
openings_below lines (suc n) = openings_below lines n ++ lines n
