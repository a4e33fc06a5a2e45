-- The words that a query names.
use Rattle.std.specs.Prelude.{◌≡◌, ℕ, ◌==◌, List, [], ◌∷◌, ◌++◌, length, map, Bool, false, ◌&&◌, Vec, if◌then◌else◌}
use Rattle.std.specs.Global.{Global}
use Rattle.std.specs.List.{flat_map}
use Rattle.std.specs.Str.Lossy.{utf8_lossy}
use Rattle.std.specs.String.{string_bytes}
use Rattle.std.specs.declared.string.String.{String}
use Rattle.form_urlencoded.specs.Form.{decode, raw_pairs}

-- what a piece of a query stands for: its bytes by the rules of web forms, where what isn't text becomes U+FFFD
abbrev pub word_in : List ℕ → List ℕ
word_in piece = utf8_lossy (decode piece)

-- a word as `NURSES=2,3`
abbrev pub parameter : List ℕ → List ℕ → List ℕ
parameter key value = key ++ 61 ∷ value

-- a word begins with `--`
abbrev pub is_option : List ℕ → Bool
is_option [] = false
is_option (a ∷ []) = false
is_option (a ∷ b ∷ rest) = (a == 45) && (b == 45)

-- an option and its word, or one word
abbrev pub words_with : List ℕ → List ℕ → List (List ℕ)
words_with key value = if is_option key then key ∷ value ∷ [] else parameter key value ∷ []

-- what stands on the two sides of a `=`; where nothing stands behind it, a lone word
abbrev pub words_of_pair : List ℕ × List ℕ → List (List ℕ)
words_of_pair pair = if length pair.1 == 0 then word_in pair.0 ∷ [] else words_with (word_in pair.0) (word_in pair.1)

-- words are added to others
abbrev pub AddsWords : Vec (String Global) Global → Vec (String Global) Global → List (List ℕ) → Type 0
AddsWords old new added = map string_bytes new.items ≡ map string_bytes old.items ++ added

-- those of a query, whose pieces stand between `&`
abbrev pub words_in : List ℕ → List (List ℕ)
words_in query = flat_map words_of_pair (raw_pairs query)
