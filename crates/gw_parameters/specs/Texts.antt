-- A text with another number on the line of a name.
use Rattle.std.specs.Prelude.{◌≡◌, ℕ, ◌+◌, ◌<◌, List, [], ◌∷◌, ◌++◌, slice_index_or, ℤ, is_some, ◌==◌, if◌then◌else◌, Option, Some, None, Result}
use Rattle.std.specs.Prelude.{MatchResult, Vec, map}
use Rattle.std.specs.Borrow.{Bor}
use Rattle.std.specs.Global.{Global}
use Rattle.gw_parameters.specs.Operands.{operand_of, cut_of, with_number_between}
use Rattle.gw_parameters.specs.Refusals.{refusal_text}
use Rattle.gw_parameters.specs.declared.fault.NoAnswer.{NoAnswer}
use Rattle.gw_parameters.specs.declared.fault.NoAnswer.TheVariants.{Refused, Memory}
use Rattle.gw_parameters.specs.declared.fault.ParameterFault.{ParameterFault}
use Rattle.gw_parameters.specs.declared.fault.ParameterFault.TheVariants.{Form, Points, Names, Unknown, Doubled, NotPlain, Figure}

-- the numbers of the lines of a name, where the first of these lines has this number
unfoldable pub lines_of : List ℕ → ℕ → List (List ℕ) → List ℕ
lines_of name i [] = []
lines_of name i (line ∷ lines) = if is_some (operand_of name line) then i ∷ lines_of name (i + 1) lines else lines_of name (i + 1) lines

-- the number that was found, if one was
abbrev pub list_of : Option ℕ → List ℕ
list_of None = []
list_of (Some number) = number ∷ []

-- a line of a number, or the other one in its place
abbrev pub line_or : ℕ → ℕ → List ℕ → List ℕ → List ℕ
line_or i number other line = if i == number then other else line

-- lines, each with its end, where that of a number is another; the first of them has this number
unfoldable pub text_from : ℕ → ℕ → List ℕ → List (List ℕ) → List ℕ
text_from i number other [] = []
text_from i number other (line ∷ lines) = (line_or i number other line ++ 10 ∷ []) ++ text_from (i + 1) number other lines

-- the text of lines where that of a number is another
abbrev pub text_with_line : ℕ → List ℕ → List (Bor (List ℕ)) → List ℕ
text_with_line number other lines = text_from 0 number other (map (λ line. line.now) lines)

-- the same, where that line is cut and a number put in between
abbrev pub text_with_value : ℕ → ℤ → List ℕ × List ℕ → List (Bor (List ℕ)) → List ℕ
text_with_value number value cut lines = text_with_line number (with_number_between value cut) lines

-- a text has these lines, but for another number on the one line of a name
pub record IsRenumbered (lines : List (List ℕ)) (name : List ℕ) (value : ℤ) (text : List ℕ) : Type 0 where
  pub number : ℕ
  pub cut : List ℕ × List ℕ
  pub one : lines_of name 0 lines ≡ number ∷ []
  pub there : cut_of name (slice_index_or lines number []) ≡ Some cut
  pub made : text ≡ text_from 0 number (with_number_between value cut) lines

-- two lines or more are the name's, and the second is at fault
pub record AreMany (lines : List (List ℕ)) (name : List ℕ) (line : ℕ) : Type 0 where
  pub first : ℕ
  pub second : ℕ
  pub more : List ℕ
  pub many : lines_of name 0 lines ≡ first ∷ second ∷ more
  pub line_is : line ≡ second + 1

-- the one line of the name has something else than a whole number
pub record HasNoNumber (lines : List (List ℕ)) (name : List ℕ) (line : ℕ) : Type 0 where
  pub number : ℕ
  pub one : lines_of name 0 lines ≡ number ∷ []
  pub none : cut_of name (slice_index_or lines number []) ≡ None
  pub line_is : line ≡ number + 1

-- why lines have no place for a number of a name
abbrev pub HasNoPlace : List (List ℕ) → List ℕ → ParameterFault → Type 0
HasNoPlace lines name Form = ⊥
HasNoPlace lines name Points = ⊥
HasNoPlace lines name Names = ⊥
HasNoPlace lines name Unknown = lines_of name 0 lines ≡ []
HasNoPlace lines name (Doubled line) = AreMany lines name line
HasNoPlace lines name (NotPlain line) = HasNoNumber lines name line
HasNoPlace lines name Figure = ⊥

-- the one line of a name, or why there isn't one
abbrev pub IsOne : List ℕ → List (List ℕ) → Result ℕ ParameterFault → Type 0
IsOne name lines result = MatchResult result (λ number. lines_of name 0 lines ≡ number ∷ []) (HasNoPlace lines name)

-- a name is refused for a reason, or memory ran out
abbrev pub IsRefused : List (List ℕ) → List ℕ → NoAnswer → Type 0
IsRefused lines name (Refused text) = (fault : ParameterFault) × (text.items ≡ refusal_text name fault) × HasNoPlace lines name fault
IsRefused lines name Memory = Unit {0}

-- the text of lines with another number on the one line of a name, or why there is none
abbrev pub IsTextWith : List (List ℕ) → List ℕ → ℤ → Result (Vec ℕ Global) NoAnswer → Type 0
IsTextWith lines name value result =
    MatchResult result (λ text. IsRenumbered lines name value text.items) (IsRefused lines name)
