-- The refusal of a parameter, as it is printed.
use Rattle.std.specs.Prelude.{◌≡◌, ℕ, List, [], ◌++◌, codes, Option, Some, None, Result, MatchResult, Vec}
use Rattle.std.specs.Fmt.{decimal}
use Rattle.std.specs.Global.{Global}
use Rattle.gw_answers.specs.Reasons.{refusal_with_reason}
use Rattle.gw_answers.specs.declared.codes.TheConstants.{PARAMETER}
use Rattle.gw_parameters.specs.declared.fault.NoAnswer.{NoAnswer}
use Rattle.gw_parameters.specs.declared.fault.NoAnswer.TheVariants.{Refused, Memory}
use Rattle.gw_parameters.specs.declared.fault.ParameterFault.{ParameterFault}
use Rattle.gw_parameters.specs.declared.fault.ParameterFault.TheVariants.{Form, Points, Names, Unknown, Doubled, NotPlain, Figure}

-- why, in words
abbrev pub reason_of : ParameterFault → List ℕ
reason_of Form = codes "a parameter is a name, =, and whole numbers with commas between"
reason_of Points = codes "there are more than 64 points"
reason_of Names = codes "there are at most two names, and each stands once"
reason_of Unknown = codes "no line of the model is NAME STORAGE, NAME EQU or INITIAL X$NAME, of this name"
reason_of (Doubled line) = codes "more than one line of the model gives this name a number"
reason_of (NotPlain line) = codes "what stands on its line isn't a whole number"
reason_of Figure = codes "no figure of the model has this name"

-- the line at fault, if there is one
abbrev pub line_of : ParameterFault → Option ℕ
line_of Form = None
line_of Points = None
line_of Names = None
line_of Unknown = None
line_of (Doubled line) = Some line
line_of (NotPlain line) = Some line
line_of Figure = None

abbrev pub place_of : Option ℕ → List ℕ
place_of None = []
place_of (Some line) = codes " line " ++ decimal line

-- what is refused: the name of the parameter, and the line at fault
abbrev pub subject : List ℕ → ParameterFault → List ℕ
subject name fault = name ++ place_of (line_of fault)

-- the refusal: the code and its name, what is refused, and why
unfoldable pub refusal_text : List ℕ → ParameterFault → List ℕ
refusal_text name fault = refusal_with_reason PARAMETER (subject name fault) (reason_of fault)

-- this text, or want of memory
abbrev pub Makes : List ℕ → Result (Vec ℕ Global) NoAnswer → Type 0
Makes text result = MatchResult result (λ made. made.items ≡ text) (λ none. none ≡ Memory)

-- there is no point for this reason, or for want of memory
abbrev pub Tells : List ℕ → ParameterFault → NoAnswer → Type 0
Tells name fault (Refused text) = text.items ≡ refusal_text name fault
Tells name fault Memory = Unit {0}
