-- What a request may cost.
use Rattle.std.specs.Prelude.{◌≡◌, ◌⊎◌, ℕ, ◌<◌, ◌≤◌, ◌+◌, ◌-◌, ◌*◌, ◌/◌, ◌^◌, min, max, List, length, All, Any, ℤ, pos, Bool, true, false, Ok}
use Rattle.std.specs.Option.{unwrap_or}
use Rattle.gw_step.specs.Job.{Job}
use Rattle.gw_answers.specs.ModelJobs.{IsJobOf, IsJobWith}
use Rattle.gw_figures.specs.Labels.{labels_of}
use Rattle.gw_study.specs.Runs.{run_job}
use Rattle.gw_alternatives.specs.Alternatives.{ArePoints}
use Rattle.gw_alternatives.specs.declared.study_point.StudyPoint.{StudyPoint}
use Rattle.gw_command_line.specs.Words.{Choices, Act, Ask, Charts, Code, Help, Version, Studies, Compares, Rows, Sums, Object, Shares, Demand, RunsDemand}
use Rattle.gw_command_line.specs.declared.words.Question.{Question}
use Rattle.gw_command_line.specs.declared.words.Question.TheVariants.{Explain, List as Lists, Points, Convert, Trace, Report}
use Rattle.gw_planner.specs.Answers.{words_of}
use Rattle.gw_page.specs.Counting.{TakesAtMost, TakesMore, IsCounted, end_of_time}
use Rattle.gw_page.specs.declared.limits.Allowance.{Allowance}
use Rattle.gw_page.specs.declared.limits.Allowance.TheVariants.{Within, Exceeded, Uncounted}

-- steps of a run, or of all runs together; steps until the last time of a trace; and figures of all runs together
abbrev pub most_steps : ℕ
most_steps = 50000000

abbrev pub most_traced : ℕ
most_traced = 250000

abbrev pub most_numbers : ℕ
most_numbers = 2000000

-- whether the run of a model is within so many steps until a time
abbrev pub IsOfModel : List ℕ → ℤ → ℕ → Bool → Type 0
IsOfModel text time most within = (j : Job) × IsJobOf text j × IsCounted time most j within

-- whether that of a model with a seed and a count is within the limit
abbrev pub IsOfReport : List ℕ → ℕ → ℕ → Bool → Type 0
IsOfReport text seed count within = (j : Job) × IsJobWith seed count text j × IsCounted end_of_time most_steps j within

-- whether a run of this number of a job's object has no more than so many steps and figures
abbrev pub IsShare : ℕ → ℕ → ℕ → Job → Bool → Type 0
IsShare number steps numbers j true = TakesAtMost end_of_time steps (run_job j number) × (length (labels_of j.parts) ≤ numbers)
IsShare number steps numbers j false = TakesMore end_of_time steps (run_job j number) ⊎ (numbers < length (labels_of j.parts))

-- how many runs there are of so many points: at least one
abbrev pub all_runs : ℕ → List StudyPoint → ℕ
all_runs runs points = max (runs * length points) 1

-- whether each of these points' runs of this number has no more than so many steps and figures
abbrev pub AreShares : ℕ → ℕ → ℕ → List StudyPoint → Bool → Type 0
AreShares number steps numbers points true = All (λ a. IsShare number steps numbers a.spec true) points
AreShares number steps numbers points false = Any (λ a. IsShare number steps numbers a.spec false) points

-- whether each has no more than its share of the limits, where there are so many runs of each point
abbrev pub AreWithin : ℕ → ℕ → List StudyPoint → Bool → Type 0
AreWithin number runs points within =
    AreShares number (most_steps / all_runs runs points) (most_numbers / all_runs runs points) points within

-- the same of the points that words ask for of a text, with a count
abbrev pub IsOfPoints : List ℕ → List (List ℕ) → ℕ → ℕ → ℕ → Bool → Type 0
IsOfPoints text words count number runs within =
    (points : List StudyPoint) × ArePoints text words count points × AreWithin number runs points within

-- the same where options name the words
abbrev pub IsOfOptions : List ℕ → Choices → ℕ → ℕ → ℕ → Bool → Type 0
IsOfOptions text options count number runs within = IsOfPoints text (words_of options) count number runs within

-- the first run of a study
abbrev pub first_of : Demand → ℕ
first_of d = (unwrap_or d.options.seeds 1 - 1) * d.runs

-- whether a question about a text costs what it may: for what is shown of a part of a run, too, the run is made to its end
abbrev pub QuestionCosts : Question → List ℕ → Bool → Type 0
QuestionCosts Explain text within = within ≡ true
QuestionCosts Lists text within = within ≡ true
QuestionCosts Convert text within = within ≡ true
QuestionCosts (Points span) text within = IsOfModel text end_of_time most_steps within
QuestionCosts (Trace from to) text within = IsOfModel text to most_traced within
QuestionCosts (Report seed count) text within = IsOfReport text seed count within

-- whether what is asked of a text costs what it may
abbrev pub Costs : Act → List ℕ → Bool → Type 0
Costs (Ask question) text within = QuestionCosts question text within
Costs (Charts span name) text within = IsOfModel text end_of_time most_steps within
Costs (Studies d) text within = IsOfOptions text d.options d.count (first_of d) d.runs within
Costs (Rows d) text within = IsOfOptions text d.options d.count (min d.first 511) (d.end - d.first) within
Costs _ text within = within ≡ true

-- what was found of a cost: it is within the limits, or it isn't; where what is asked is refused, nothing is known
abbrev pub IsFound : Allowance → (Bool → Type 0) → Type 0
IsFound Within Cost = Cost true
IsFound Exceeded Cost = Cost false
IsFound Uncounted Cost = Unit {0}

-- that of what is asked of a text
abbrev pub IsAllowance : Act → List ℕ → Allowance → Type 0
IsAllowance act text allowance = IsFound allowance (Costs act text)
