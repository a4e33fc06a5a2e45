-- What a command costs is what was counted of the job or the points that it needs.
use Rattle.std.proofs.Common.{◌≡◌, ℕ, ℤ, List, Result, Ok, Err, IfOk, true, refl}
use Rattle.gw_step.specs.Job.{Job}
use Rattle.gw_alternatives.specs.Alternatives.{ArePoints}
use Rattle.gw_alternatives.specs.declared.study_point.StudyPoint.{StudyPoint}
use Rattle.gw_answers.specs.ModelJobs.{IsJobOf, IsJobWith}
use Rattle.gw_command_line.specs.Words.{Act, Ask, Charts, Code, Help, Version, Studies, Compares, Rows, Sums, Object, Shares}
use Rattle.gw_command_line.specs.declared.words.Question.TheVariants.{Explain, List as Lists, Points as Sheet, Convert, Trace, Report}
use Rattle.gw_command_line.specs.declared.words.Span.{Span}
use Rattle.gw_planner.specs.Works.{needs_input, IsJobOfQuestion}
use Rattle.gw_page.specs.Counting.{IsCounted, end_of_time}
use Rattle.gw_page.specs.Limits.{AreWithin, Costs, IsAllowance, IsFound, IsOfPoints, most_steps, most_traced}
use Rattle.gw_page.specs.declared.limits.Allowance.{Allowance}
use Rattle.gw_page.specs.declared.limits.Allowance.TheVariants.{Within, Exceeded, Uncounted}

-- of a job that is such a job
pub job_found : {E : Type 0} (Is : Job → Type 0) (time : ℤ) (most : ℕ) (j : Job) (r : Result Allowance E) → Is j
    → IfOk r (λ found. IsFound found (IsCounted time most j))
    → IfOk r (λ found. IsFound found (λ within. (i : Job) × Is i × IsCounted time most i within))
job_found Is time most j (Ok Within) is h = (j, is, h)
job_found Is time most j (Ok Exceeded) is h = (j, is, h)
job_found Is time most j (Ok Uncounted) is h = tt
job_found Is time most j (Err e) is h = tt

-- of points that words ask for
pub points_found : {E : Type 0} (text : List ℕ) (words : List (List ℕ)) (count number runs : ℕ) (points : List StudyPoint) (r : Result Allowance E)
    → ArePoints text words count points → IfOk r (λ found. IsFound found (AreWithin number runs points))
    → IfOk r (λ found. IsFound found (IsOfPoints text words count number runs))
points_found text words count number runs points (Ok Within) are h = (points, are, h)
points_found text words count number runs points (Ok Exceeded) are h = (points, are, h)
points_found text words count number runs points (Ok Uncounted) are h = tt
points_found text words count number runs points (Err e) are h = tt

-- BY COMMANDS

pub trace_found : {E : Type 0} (from to : ℤ) (text : List ℕ) (j : Job) (r : Result Allowance E) → IsJobOfQuestion (Trace from to) text j
    → IfOk r (λ found. IsFound found (IsCounted to most_traced j)) → IfOk r (IsAllowance (Ask (Trace from to)) text)
trace_found from to text j r is h = job_found (IsJobOf text) to most_traced j r is h

pub points_of_job_found : {E : Type 0} (span : Span) (text : List ℕ) (j : Job) (r : Result Allowance E) → IsJobOfQuestion (Sheet span) text j
    → IfOk r (λ found. IsFound found (IsCounted end_of_time most_steps j)) → IfOk r (IsAllowance (Ask (Sheet span)) text)
points_of_job_found span text j r is h = job_found (IsJobOf text) end_of_time most_steps j r is h

pub report_found : {E : Type 0} (seed count : ℕ) (text : List ℕ) (j : Job) (r : Result Allowance E) → IsJobOfQuestion (Report seed count) text j
    → IfOk r (λ found. IsFound found (IsCounted end_of_time most_steps j)) → IfOk r (IsAllowance (Ask (Report seed count)) text)
report_found seed count text j r is h = job_found (IsJobWith seed count text) end_of_time most_steps j r is h

pub chart_found : {E : Type 0} (span : Span) (name text : List ℕ) (j : Job) (r : Result Allowance E) → IsJobOf text j
    → IfOk r (λ found. IsFound found (IsCounted end_of_time most_steps j)) → IfOk r (IsAllowance (Charts span name) text)
chart_found span name text j r is h = job_found (IsJobOf text) end_of_time most_steps j r is h

-- what needs no more than the input as it stands
pub input_costs : (a : Act) (text : List ℕ) → needs_input a ≡ true → Costs a text true
input_costs (Ask Explain) text needs = refl
input_costs (Ask Lists) text needs = refl
input_costs (Ask Convert) text needs = refl
input_costs (Ask (Sheet span)) text needs = absurd cc
input_costs (Ask (Trace from to)) text needs = absurd cc
input_costs (Ask (Report seed count)) text needs = absurd cc
input_costs (Charts span name) text needs = absurd cc
input_costs (Code code) text needs = refl
input_costs (Object demand) text needs = refl
input_costs (Shares shard) text needs = refl
input_costs (Studies demand) text needs = absurd cc
input_costs (Compares demand) text needs = absurd cc
input_costs (Rows demand) text needs = absurd cc
input_costs (Sums summing) text needs = absurd cc
input_costs Help text needs = absurd cc
input_costs Version text needs = absurd cc
