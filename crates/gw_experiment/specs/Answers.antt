-- What the code has of an experiment, and what it answers.
use Rattle.std.specs.Prelude.{◌≡◌, ℕ, ◌+◌, List, length, map, Vec, Result, Ok, Err, MatchResult}
use Rattle.std.specs.Borrow.{Bor}
use Rattle.std.specs.Global.{Global}
use Rattle.gw_experiment.specs.Experiments.{Draft, Experiment, experiment_of, experiment_of_lines}
use Rattle.gw_experiment.specs.declared.draft.Draft as drafts
use Rattle.gw_experiment.specs.declared.experiment.Experiment as experiments
use Rattle.gw_experiment.specs.declared.draft.Refused as refusals
use Rattle.gw_experiment.specs.declared.draft.Refused.TheVariants as refused
use Rattle.gw_experiment.specs.declared.fault.ExperimentFault.{ExperimentFault}
use Rattle.gw_parameters.specs.declared.fault.NoAnswer.{NoAnswer}
use Rattle.gw_parameters.specs.declared.fault.NoAnswer.TheVariants.{Refused, Memory}

-- the bytes of words, or of lines
abbrev pub lent_texts : List (Bor (List ℕ)) → List (List ℕ)
lent_texts words = map (λ w. w.now) words

-- the same of words with memory of their own
abbrev pub texts : List (Vec ℕ Global) → List (List ℕ)
texts words = map (λ w. w.items) words

-- what the code has of what lines ask for
abbrev pub view_of_draft : drafts.Draft → Draft
view_of_draft d = record { parameters = texts d.parameters.items; runs = d.runs; count = d.count; from = d.from }

-- what the code has of an experiment
abbrev pub view : experiments.Experiment → Experiment
view e = record { parameters = texts e.parameters.items; runs = e.runs; count = e.count; from = e.from }

-- this is the fault, or memory ran out
abbrev pub IsFault : {A : Type 0} → Result A ExperimentFault → refusals.Refused → Type 0
IsFault asked (refused.Fault wrong) = asked ≡ Err wrong
IsFault asked refused.Memory = Unit {0}

-- a number is what is asked for, or the fault is told
abbrev pub Gives : {A : Type 0} → Result A ExperimentFault → Result A refusals.Refused → Type 0
Gives asked result = MatchResult result (λ x. asked ≡ Ok x) (IsFault asked)

-- the same of a draft
abbrev pub Takes : Result Draft ExperimentFault → drafts.Draft → Result (Unit {0}) refusals.Refused → Type 0
Takes asked draft result = MatchResult result (λ u. asked ≡ Ok (view_of_draft draft)) (IsFault asked)

-- this is the refusal, or memory ran out
abbrev pub IsRefusal : Result Experiment (List ℕ) → NoAnswer → Type 0
IsRefusal asked (Refused text) = asked ≡ Err text.items
IsRefusal asked Memory = Unit {0}

-- the draft is that of all lines, or the refusal is told
abbrev pub IsDraftOf : List (List ℕ) → Result drafts.Draft NoAnswer → Type 0
IsDraftOf text_lines result =
    let asked = experiment_of_lines text_lines in
    MatchResult result (λ d. asked ≡ experiment_of (length text_lines + 1) (view_of_draft d)) (IsRefusal asked)

-- what is answered is the experiment that is asked for, or its refusal
abbrev pub Answers : Result Experiment (List ℕ) → Result experiments.Experiment NoAnswer → Type 0
Answers asked result = MatchResult result (λ e. asked ≡ Ok (view e)) (IsRefusal asked)
