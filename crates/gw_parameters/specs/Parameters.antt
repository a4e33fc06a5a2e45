-- What `NAME=2,3` asks for.
use Rattle.std.specs.Prelude.{◌≡◌, Result, MatchResult, ℕ, ◌+◌, ◌^◌, nat_lt, List, [], ◌∷◌, ◌++◌, length, take, drop, ℤ, pos, neg_ℤ, Bool, ◌==◌, ◌&&◌}
use Rattle.std.specs.Prelude.{if◌then◌else◌, Option, Some, None, option_and_then, option_map}
use Rattle.std.specs.List.{slice_split, position_or_len}
use Rattle.gw_num.specs.Numerals.{is_number}
use Rattle.gw_text_tokens.specs.Numbers.{spelled_number}
use Rattle.gw_parameters.specs.Refusals.{refusal_text}
use Rattle.gw_parameters.specs.declared.fault.NoAnswer.{NoAnswer}
use Rattle.gw_parameters.specs.declared.fault.NoAnswer.TheVariants.{Refused, Memory}
use Rattle.gw_parameters.specs.declared.fault.ParameterFault.TheVariants.{Form}
use Rattle.gw_parameters.specs.declared.parameters.Parameter.{Parameter}

-- `=`
abbrev pub is_equals : ℕ → Bool
is_equals byte = byte == 61

-- `,`
abbrev pub is_comma : ℕ → Bool
is_comma byte = byte == 44

-- the number that digits spell, if it is below 2^63
abbrev pub count_in : List ℕ → Option ℕ
count_in digits = if is_number digits && nat_lt (spelled_number 0 digits) (2 ^ 63) then Some (spelled_number 0 digits) else None

abbrev pub positive : Option ℕ → Option ℤ
positive None = None
positive (Some n) = Some (pos n)

abbrev pub negative : Option ℕ → Option ℤ
negative None = None
negative (Some n) = Some (neg_ℤ (pos n))

-- the whole number that a word spells, with a `-` or none
abbrev pub value_in : List ℕ → Option ℤ
value_in [] = None
value_in (byte ∷ bytes) = if byte == 45 then negative (count_in bytes) else positive (count_in (byte ∷ bytes))

-- these numbers, and those that words spell, if each of them spells one
unfoldable pub values_behind : List ℤ → List (List ℕ) → Option (List ℤ)
values_behind values [] = Some values
values_behind values (word ∷ words) = option_and_then (λ value. values_behind (values ++ value ∷ []) words) (value_in word)

-- the words that commas part, if there are any
abbrev pub words_left : Option (List ℕ) → List (List ℕ)
words_left None = []
words_left (Some bytes) = slice_split is_comma bytes

-- the numbers that a list with commas spells
abbrev pub values_in : List ℕ → Option (List ℤ)
values_in bytes = values_behind [] (slice_split is_comma bytes)

-- where the first `=` of a word stands, or the word's length
abbrev pub equals_at : List ℕ → ℕ
equals_at word = position_or_len is_equals word

-- the name before it
abbrev pub name_in : List ℕ → List ℕ
name_in word = take (equals_at word) word

-- what follows it
abbrev pub behind_equals : List ℕ → Option (List ℕ)
behind_equals word = if nat_lt (equals_at word) (length word) then Some (drop (equals_at word + 1) word) else None

-- the numbers there
unfoldable pub numbers_in : List ℕ → Option (List ℤ)
numbers_in word = option_and_then values_in (behind_equals word)

-- a word asks for nothing: it isn't a name, `=` and numbers; or memory ran out
abbrev pub HasNoForm : List ℕ → NoAnswer → Type 0
HasNoForm word (Refused text) = (numbers_in word ≡ None) × (text.items ≡ refusal_text (name_in word) Form)
HasNoForm word Memory = Unit {0}

-- what a word asks for, or why it asks for nothing
abbrev pub IsParameter : List ℕ → Result Parameter NoAnswer → Type 0
IsParameter word result =
    MatchResult result (λ parameter. (parameter.name.items ≡ name_in word) × (numbers_in word ≡ Some parameter.values.items)) (HasNoForm word)
