-- The refusal of a line, as it is printed.
use Rattle.std.specs.Prelude.{◌≡◌, ℕ, List, ◌++◌, codes}
use Rattle.std.specs.Fmt.{decimal}
use Rattle.gw_answers.specs.Reasons.{refusal_with_reason}
use Rattle.gw_answers.specs.declared.codes.TheConstants.{EXPERIMENT}
use Rattle.gw_experiment.specs.declared.fault.ExperimentFault.{ExperimentFault}
use Rattle.gw_experiment.specs.declared.fault.ExperimentFault.TheVariants as fault
use Rattle.gw_parameters.specs.declared.fault.NoAnswer.{NoAnswer}
use Rattle.gw_parameters.specs.declared.fault.NoAnswer.TheVariants.{Refused, Memory}

-- why, in words
abbrev pub reason_of : ExperimentFault → List ℕ
reason_of fault.Word = codes "behind *! stands vary, runs, count or from"
reason_of fault.Numbers = codes "vary has a name and whole numbers behind it, each greater than the one before"
reason_of fault.Names = codes "at most two lines are *! vary"
reason_of fault.Runs = codes "runs has one number, from 1 to 512"
reason_of fault.Number = codes "count and from have one number each, below 2^64"
reason_of fault.Twice = codes "another line says this too"
reason_of fault.None = codes "no line is *! runs, with how many runs each point has"

-- the refusal of a line by its number, from 1: the code and its name, the number, and why
unfoldable pub refusal_text : ℕ → ExperimentFault → List ℕ
refusal_text line fault = refusal_with_reason EXPERIMENT (codes "line " ++ decimal line) (reason_of fault)

-- there is no experiment for this reason, or for want of memory
abbrev pub Tells : ℕ → ExperimentFault → NoAnswer → Type 0
Tells line fault (Refused text) = text.items ≡ refusal_text line fault
Tells line fault Memory = Unit {0}
