-- The points that parameters ask for, and their texts.
use Rattle.std.specs.Prelude.{◌≡◌, ◌⊎◌, ℕ, ◌*◌, ◌/◌, ◌%◌, nat_lt, List, [], ◌∷◌, ◌++◌, length, slice_get, ℤ, codes, Bool, true, false, ◌||◌}
use Rattle.std.specs.Prelude.{if◌then◌else◌, Option, Some, None, Result, Ok, Err, MatchResult, Vec}
use Rattle.std.specs.Option.{option_map_or}
use Rattle.std.specs.Fmt.{signed_decimal}
use Rattle.std.specs.Global.{Global}
use Rattle.std.specs.Str.{str_eq_ignore_ascii_case}
use Rattle.std.specs.Str.Lines.{lines}
use Rattle.gw_parameters.specs.Parameters.{name_in, numbers_in, HasNoForm}
use Rattle.gw_parameters.specs.Refusals.{refusal_text, Tells}
use Rattle.gw_parameters.specs.Texts.{IsRenumbered, IsRefused}
use Rattle.gw_parameters.specs.declared.fault.NoAnswer.{NoAnswer}
use Rattle.gw_parameters.specs.declared.fault.NoAnswer.TheVariants.{Refused, Memory}
use Rattle.gw_parameters.specs.declared.fault.ParameterFault.{ParameterFault}
use Rattle.gw_parameters.specs.declared.fault.ParameterFault.TheVariants as faults
use Rattle.gw_parameters.specs.declared.parameters.Parameter.{Parameter}
use Rattle.gw_parameters.specs.declared.points.Points.{Points}
use Rattle.gw_parameters.specs.declared.points.Points.TheVariants.{One, Line, Grid}

-- WHAT IS ASKED FOR

-- so many numbers of one name, with so many of another, are more than 64 points
abbrev pub are_too_many : ℕ → ℕ → Bool
are_too_many first second = nat_lt 64 first || nat_lt 64 second || nat_lt 64 (first * second)

-- a word asks for this name and these numbers
abbrev pub Asks : List ℕ → Parameter → Type 0
Asks word parameter = (parameter.name.items ≡ name_in word) × (numbers_in word ≡ Some parameter.values.items)

-- why two names have no points, if they have none: they are one, or there are too many
abbrev pub fault_of : Parameter → Parameter → Option ParameterFault
fault_of first second =
    if str_eq_ignore_ascii_case first.name.items second.name.items then Some faults.Names
    else if are_too_many (length first.values.items) (length second.values.items) then Some faults.Points
    else None

-- the points of a name
abbrev pub IsLine : Parameter → Result Points NoAnswer → Type 0
IsLine parameter (Ok points) = (points ≡ Line parameter) × (are_too_many (length parameter.values.items) 1 ≡ false)
IsLine parameter (Err (Refused text)) =
    (are_too_many (length parameter.values.items) 1 ≡ true) × (text.items ≡ refusal_text parameter.name.items faults.Points)
IsLine parameter (Err Memory) = Unit {0}

-- the points of two names
abbrev pub IsGrid : Parameter → Parameter → Result Points NoAnswer → Type 0
IsGrid first second (Ok points) = (points ≡ Grid first second) × (fault_of first second ≡ None)
IsGrid first second (Err (Refused text)) =
    (fault : ParameterFault) × (fault_of first second ≡ Some fault) × (text.items ≡ refusal_text second.name.items fault)
IsGrid first second (Err Memory) = Unit {0}

-- a word asks for nothing
abbrev pub IsUnread : List ℕ → Result Points NoAnswer → Type 0
IsUnread word (Ok points) = ⊥
IsUnread word (Err none) = HasNoForm word none

-- the points of a name and another word
abbrev pub AsksWith : Parameter → List ℕ → Result Points NoAnswer → Type 0
AsksWith first word result = ((second : Parameter) × Asks word second × IsGrid first second result) ⊎ IsUnread word result

-- there are no points for this reason, or for want of memory
abbrev pub AsksInVain : List ℕ → ParameterFault → Result Points NoAnswer → Type 0
AsksInVain name fault (Ok points) = ⊥
AsksInVain name fault (Err none) = Tells name fault none

-- the points that words ask for: the model as it is, those of a name, or those of two
abbrev pub AsksFor : List (List ℕ) → Result Points NoAnswer → Type 0
AsksFor [] result = result ≡ Ok One
AsksFor (word ∷ []) result = ((parameter : Parameter) × Asks word parameter × IsLine parameter result) ⊎ IsUnread word result
AsksFor (word ∷ other ∷ []) result = ((first : Parameter) × Asks word first × AsksWith first other result) ⊎ IsUnread word result
AsksFor (word ∷ other ∷ third ∷ words) result = AsksInVain (name_in third) faults.Names result

-- THE TEXT OF A POINT

-- a text has a number of a name, by the number's place among those of the name
abbrev pub IsOnLine : List ℕ → Parameter → ℕ → List ℕ → Type 0
IsOnLine text parameter i made =
    (value : ℤ) × (slice_get parameter.values.items i ≡ Some value) × IsRenumbered (lines text) parameter.name.items value made

abbrev pub HasNoLine : List ℕ → Parameter → NoAnswer → Type 0
HasNoLine text parameter none = IsRefused (lines text) parameter.name.items none

-- such a text, or why there is none
abbrev pub IsLineText : List ℕ → Parameter → ℕ → Result (Vec ℕ Global) NoAnswer → Type 0
IsLineText text parameter i result =
    MatchResult result (λ made. IsOnLine text parameter i made.items) (HasNoLine text parameter)

-- a text has a number of each of two names: the second goes through all its numbers first
abbrev pub IsOnGrid : List ℕ → Parameter → Parameter → ℕ → List ℕ → Type 0
IsOnGrid text first second point made =
    (middle : List ℕ) × IsOnLine text first (point / length second.values.items) middle
    × IsOnLine middle second (point % length second.values.items) made

-- it has no line of the first, or with a number of the first none of the second
abbrev pub HasNoGrid : List ℕ → Parameter → Parameter → NoAnswer → Type 0
HasNoGrid text first second none =
    HasNoLine text first none ⊎ ((i : ℕ) × (middle : List ℕ) × IsOnLine text first i middle × HasNoLine middle second none)

-- a text with a number of each of two names, or why there is none
abbrev pub IsGridText : List ℕ → Parameter → Parameter → ℕ → Result (Vec ℕ Global) NoAnswer → Type 0
IsGridText text first second point result =
    MatchResult result (λ made. IsOnGrid text first second point made.items) (HasNoGrid text first second)

-- how many points there are
abbrev pub count_of : Points → ℕ
count_of One = 1
count_of (Line parameter) = length parameter.values.items
count_of (Grid first second) = length first.values.items * length second.values.items

-- the text of a point, by its number from 0
abbrev pub IsPoint : List ℕ → Points → ℕ → List ℕ → Type 0
IsPoint text One point made = made ≡ text
IsPoint text (Line parameter) point made = IsOnLine text parameter point made
IsPoint text (Grid first second) point made = IsOnGrid text first second point made

-- why there is none
abbrev pub HasNoPoint : List ℕ → Points → NoAnswer → Type 0
HasNoPoint text One none = none ≡ Memory
HasNoPoint text (Line parameter) none = HasNoLine text parameter none
HasNoPoint text (Grid first second) none = HasNoGrid text first second none

-- that text, or why there is none
abbrev pub IsPointText : List ℕ → Points → ℕ → Result (Vec ℕ Global) NoAnswer → Type 0
IsPointText text points point result =
    MatchResult result (λ made. IsPoint text points point made.items) (HasNoPoint text points)

-- WHAT A POINT IS CALLED

-- a name and one of its numbers
abbrev pub value_text : Parameter → ℕ → List ℕ
value_text parameter i = parameter.name.items ++ codes "=" ++ option_map_or signed_decimal (slice_get parameter.values.items i) []

-- two names, each with one of its numbers
abbrev pub pair_text : Parameter → Parameter → ℕ → List ℕ
pair_text first second point =
    value_text first (point / length second.values.items) ++ codes " " ++ value_text second (point % length second.values.items)

abbrev pub name_of : Points → ℕ → List ℕ
name_of One point = []
name_of (Line parameter) point = value_text parameter point
name_of (Grid first second) point = pair_text first second point
