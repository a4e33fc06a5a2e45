-- What a command needs of its input.
use Rattle.std.specs.Prelude.{◌≡◌, ◌≢◌, ◌≤◌, ℕ, List, [], length, Bool, true, false, Result, MatchResult, Vec}
use Rattle.std.specs.Global.{Global}
use Rattle.gw_object.specs.declared.fault.Fault.{Fault}
use Rattle.gw_step.specs.Job.{Job}
use Rattle.gw_answers.specs.ModelJobs.{IsJobOf, IsJobWith, IsRefusalWith}
use Rattle.gw_answers.specs.Refusal.{refusal_line}
use Rattle.gw_answers.specs.Status.{end_status, refusal_status, run_budget}
use Rattle.gw_answers.specs.declared.answer.Answer.{Answer}
use Rattle.gw_study.specs.Study.{IsStudyRefusal}
use Rattle.gw_parameters.specs.declared.fault.NoAnswer.{NoAnswer}
use Rattle.gw_alternatives.specs.Alternatives.{ArePoints, AreModels}
use Rattle.gw_alternatives.specs.declared.study_point.StudyPoint.{StudyPoint}
use Rattle.gw_command_line.specs.Words.{Act, Ask, Charts, Code, Help, Version, Studies, Compares, Rows, Sums, Object, Shares}
use Rattle.gw_command_line.specs.declared.words.Question.{Question}
use Rattle.gw_command_line.specs.declared.words.Question.TheVariants.{Explain, List as Lists, Points as Sheet, Convert, Trace, Report}
use Rattle.gw_planner.specs.Answers.{act_answering, words_of, IsPair}
use Rattle.gw_planner.specs.declared.work.Work.{Work}
use Rattle.gw_planner.specs.declared.work.Work.TheVariants.{Input, Job as JobOf, Points, Refused}

-- whether a command needs the input as it stands
abbrev pub needs_input : Act → Bool
needs_input (Ask Explain) = true
needs_input (Ask Lists) = true
needs_input (Ask Convert) = true
needs_input (Ask (Sheet span)) = false
needs_input (Ask (Trace from to)) = false
needs_input (Ask (Report seed count)) = false
needs_input (Charts span name) = false
needs_input (Code code) = true
needs_input (Object demand) = true
needs_input (Shares shard) = true
needs_input (Studies demand) = false
needs_input (Compares demand) = false
needs_input (Rows demand) = false
needs_input (Sums summing) = false
needs_input Help = false
needs_input Version = false

-- a job is that which a question needs
abbrev pub IsJobOfQuestion : Question → List ℕ → Job → Type 0
IsJobOfQuestion (Sheet span) bytes j = IsJobOf bytes j
IsJobOfQuestion (Trace from to) bytes j = IsJobOf bytes j
IsJobOfQuestion (Report seed count) bytes j = IsJobWith seed count bytes j
IsJobOfQuestion _ bytes j = ⊥

-- a job is that which a command needs
abbrev pub IsJobFor : Act → List ℕ → Job → Type 0
IsJobFor (Ask question) bytes j = IsJobOfQuestion question bytes j
IsJobFor (Charts span name) bytes j = IsJobOf bytes j
IsJobFor _ bytes j = ⊥

-- points are those of a comparison of two models
abbrev pub ArePairPoints : ℕ → List ℕ → List StudyPoint → Type 0
ArePairPoints count bytes points = (first : List ℕ) × (second : List ℕ) × IsPair bytes first second × AreModels first second count points

-- points are those that a command needs
abbrev pub ArePointsFor : Act → List ℕ → List StudyPoint → Type 0
ArePointsFor (Studies d) bytes points = ArePoints bytes (words_of d.options) d.count points
ArePointsFor (Compares d) bytes points = ArePairPoints d.count bytes points
ArePointsFor (Rows d) bytes points = ArePoints bytes (words_of d.options) d.count points
ArePointsFor _ bytes points = ⊥

-- points whose runs are asked for are at most 64
abbrev pub HasFewPoints : Work → Type 0
HasFewPoints (Points points) = length points.items ≤ 64
HasFewPoints _ = Unit {0}

-- what a command needs: the input as it stands, a job, points; or an answer that refuses something
abbrev pub IsWorkOf : Act → List ℕ → Work → Type 0
IsWorkOf act bytes Input = needs_input act ≡ true
IsWorkOf act bytes (JobOf j) = IsJobFor act bytes j × (j.budget ≡ run_budget)
IsWorkOf act bytes (Points points) = ArePointsFor act bytes points.items
IsWorkOf act bytes (Refused a) = act_answering act bytes a.text.items a.status × (a.status ≢ end_status)

-- an answer is the line of a refusal of which this is said
abbrev pub TellsFault : (Fault → Type 0) → Answer → Type 0
TellsFault Said a = (a.status ≡ refusal_status) × ((fault : Fault) × Said fault × (a.text.items ≡ refusal_line fault))

-- the job of a model with a seed and a count, or the line of its refusal
abbrev pub IsJobWork : ℕ → ℕ → List ℕ → Work → Type 0
IsJobWork seed count bytes (JobOf j) = IsJobWith seed count bytes j × (j.budget ≡ run_budget)
IsJobWork seed count bytes (Refused a) = TellsFault (IsRefusalWith seed count bytes) a
IsJobWork seed count bytes Input = ⊥
IsJobWork seed count bytes (Points points) = ⊥

-- the one point of a model as it is, or the line of its refusal
abbrev pub IsLoneWork : ℕ → List ℕ → Work → Type 0
IsLoneWork count bytes (Points points) = ArePoints bytes [] count points.items
IsLoneWork count bytes (Refused a) = TellsFault (IsStudyRefusal bytes count) a
IsLoneWork count bytes Input = ⊥
IsLoneWork count bytes (JobOf j) = ⊥

-- the points that were found, or an answer that refuses
abbrev pub IsPointsWork : Result (Vec StudyPoint Global) NoAnswer → Work → Type 0
IsPointsWork found (Points points) = MatchResult found (λ all. all ≡ points) (λ none. ⊥)
IsPointsWork found (Refused a) = a.status ≡ refusal_status
IsPointsWork found Input = ⊥
IsPointsWork found (JobOf j) = ⊥
