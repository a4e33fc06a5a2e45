-- What a command needs of its input.
use Rattle.std.proofs.Common.{◌≡◌, ◌≢◌, ◌≤◌, ℕ, ℤ, List, [], length, map, Bool, true, false, Option, Some, None, Result, Ok, Err, IfOk, MatchResult, arith, refl, sym, subst, inl, inr}
use Rattle.std.specs.Prelude.{MatchBool, Vec, is_none, not, ◌&&◌, ◌++◌, option_to_list}
use Rattle.std.specs.Global.{Global}
use Rattle.gw_step.specs.Job.{Job}
use Rattle.gw_answers.specs.ModelJobs.{IsJobOf, IsJobWith, IsRefusalWith}
use Rattle.gw_answers.specs.Status.{end_status, refusal_status}
use Rattle.gw_answers.specs.declared.answer.Answer.{Answer}
use Rattle.gw_parameters.specs.declared.fault.NoAnswer.{NoAnswer}
use Rattle.gw_alternatives.specs.Alternatives.{ArePoints, AreModels}
use Rattle.gw_alternatives.specs.declared.study_point.StudyPoint.{StudyPoint}
use Rattle.gw_study.specs.Study.{IsStudy, IsStudyRefusal}
use Rattle.gw_command_line.specs.Options.{Choices}
use Rattle.gw_command_line.specs.Words.{Act, Ask, Charts, Studies, Compares, Rows, Demand, RunsDemand}
use Rattle.gw_command_line.specs.declared.words.Question.TheVariants.{Points as Sheet, Trace, Report}
use Rattle.gw_command_line.specs.declared.words.Span.{Span}
use Rattle.gw_planner.specs.Answers.{act_answering, is_plain, request_of, studied_with, words_of, IsPair}
use Rattle.gw_planner.specs.Works.{IsJobFor, IsJobWork, IsLoneWork, IsPointsWork, IsWorkOf, TellsFault}
use Rattle.gw_planner.specs.declared.work.Work.{Work}
use Rattle.gw_planner.specs.declared.work.Work.TheVariants.{Input, Job as JobOf, Points, Refused}

-- a refusal is no end
not_an_end : (status : ℕ) → status ≡ refusal_status → status ≢ end_status
not_an_end status refused ends = absurd (omega (arith, refused, ends))

-- JOBS

job_work : (act : Act) (seed count : ℕ) (bytes : List ℕ) (work : Work) → ((j : Job) → IsJobWith seed count bytes j → IsJobFor act bytes j)
    → ((a : Answer) → TellsFault (IsRefusalWith seed count bytes) a → act_answering act bytes a.text.items a.status)
    → IsJobWork seed count bytes work → IsWorkOf act bytes work
job_work act seed count bytes (JobOf j) found told h = (found j h.0, h.1)
job_work act seed count bytes (Refused a) found told h = (told a h, not_an_end a.status h.0)
job_work act seed count bytes Input found told h = absurd h
job_work act seed count bytes (Points points) found told h = absurd h

pub points_work : {E : Type 0} (span : Span) (bytes : List ℕ) (r : Result Work E) → IfOk r (IsJobWork 0 0 bytes) → IfOk r (IsWorkOf (Ask (Sheet span)) bytes)
points_work span bytes (Ok work) h = job_work (Ask (Sheet span)) 0 0 bytes work (λ j is. is) (λ a told. inr told) h
points_work span bytes (Err e) h = tt

pub trace_work : {E : Type 0} (from to : ℤ) (bytes : List ℕ) (r : Result Work E) → IfOk r (IsJobWork 0 0 bytes) → IfOk r (IsWorkOf (Ask (Trace from to)) bytes)
trace_work from to bytes (Ok work) h = job_work (Ask (Trace from to)) 0 0 bytes work (λ j is. is) (λ a told. inr told) h
trace_work from to bytes (Err e) h = tt

pub report_work : {E : Type 0} (seed count : ℕ) (bytes : List ℕ) (r : Result Work E) → IfOk r (IsJobWork seed count bytes)
    → IfOk r (IsWorkOf (Ask (Report seed count)) bytes)
report_work seed count bytes (Ok work) h = job_work (Ask (Report seed count)) seed count bytes work (λ j is. is) (λ a told. inr told) h
report_work seed count bytes (Err e) h = tt

pub chart_work : {E : Type 0} (span : Span) (name bytes : List ℕ) (r : Result Work E) → IfOk r (IsJobWork 0 0 bytes) → IfOk r (IsWorkOf (Charts span name) bytes)
chart_work span name bytes (Ok work) h = job_work (Charts span name) 0 0 bytes work (λ j is. is) (λ a told. inr told) h
chart_work span name bytes (Err e) h = tt

-- POINTS

no_words : (first second third figure : Option (List ℕ)) (csv : Bool)
    → is_none first && is_none second && is_none third && is_none figure && not csv ≡ true
    → option_to_list first ++ option_to_list second ++ option_to_list third ≡ []
no_words None None None figure csv plain = refl
no_words (Some w) second third figure csv plain = absurd cc
no_words None (Some w) third figure csv plain = absurd cc
no_words None None (Some w) figure csv plain = absurd cc

-- a plain study has no words
pub plain_words : (o : Choices) → is_plain o ≡ true → words_of o ≡ []
plain_words o plain = no_words o.first o.second o.third o.figure o.csv plain

lone : (d : Demand) (bytes : List ℕ) (work : Work) → is_plain d.options ≡ true → IsLoneWork d.count bytes work → IsWorkOf (Studies d) bytes work
lone d bytes (Points points) plain h = subst (λ ws. ArePoints bytes ws d.count points.items) (sym (plain_words d.options plain)) h
lone d bytes (Refused a) plain h = (
  subst (λ b. MatchBool b (IsStudy bytes (request_of d) a.text.items a.status) (studied_with d bytes a.text.items a.status)) (sym plain) (inr h),
  not_an_end a.status h.0,
)
lone d bytes Input plain h = absurd h
lone d bytes (JobOf j) plain h = absurd h

pub lone_study_work : {E : Type 0} (d : Demand) (bytes : List ℕ) (r : Result Work E) → is_plain d.options ≡ true → IfOk r (IsLoneWork d.count bytes)
    → IfOk r (IsWorkOf (Studies d) bytes)
lone_study_work d bytes (Ok work) plain h = lone d bytes work plain h
lone_study_work d bytes (Err e) plain h = tt

of_found : (Are : List StudyPoint → Type 0) (found : Result (Vec StudyPoint Global) NoAnswer) (points : Vec StudyPoint Global)
    → IfOk found (λ all. Are all.items) → MatchResult found (λ all. all ≡ points) (λ none. ⊥) → Are points.items
of_found Are (Ok all) points h is = subst (λ (v : Vec StudyPoint Global). Are v.items) is h
of_found Are (Err none) points h is = absurd is

found_study : (d : Demand) (bytes : List ℕ) (found : Result (Vec StudyPoint Global) NoAnswer) (work : Work) → is_plain d.options ≡ false
    → IfOk found (λ all. ArePoints bytes (words_of d.options) d.count all.items) → IsPointsWork found work → IsWorkOf (Studies d) bytes work
found_study d bytes found (Points points) plain h is = of_found (ArePoints bytes (words_of d.options) d.count) found points h is
found_study d bytes found (Refused a) plain h is = (
  subst (λ b. MatchBool b (IsStudy bytes (request_of d) a.text.items a.status) (studied_with d bytes a.text.items a.status)) (sym plain) (inr is),
  not_an_end a.status is,
)
found_study d bytes found Input plain h is = absurd is
found_study d bytes found (JobOf j) plain h is = absurd is

pub study_work : {E : Type 0} (d : Demand) (bytes : List ℕ) (words : List (List ℕ)) (found : Result (Vec StudyPoint Global) NoAnswer) (r : Result Work E)
    → is_plain d.options ≡ false → words ≡ words_of d.options → IfOk found (λ all. ArePoints bytes words d.count all.items)
    → IfOk r (IsPointsWork found) → IfOk r (IsWorkOf (Studies d) bytes)
study_work d bytes words found (Ok work) plain same h is =
    found_study d bytes found work plain (subst (λ ws. IfOk found (λ all. ArePoints bytes ws d.count all.items)) same h) is
study_work d bytes words found (Err e) plain same h is = tt

found_comparison : (d : Demand) (bytes first second : List ℕ) (found : Result (Vec StudyPoint Global) NoAnswer) (work : Work) → IsPair bytes first second
    → IfOk found (λ all. AreModels first second d.count all.items) → IsPointsWork found work → IsWorkOf (Compares d) bytes work
found_comparison d bytes first second found (Points points) pair h is =
    (first, second, pair, of_found (AreModels first second d.count) found points h is)
found_comparison d bytes first second found (Refused a) pair h is = (inr is, not_an_end a.status is)
found_comparison d bytes first second found Input pair h is = absurd is
found_comparison d bytes first second found (JobOf j) pair h is = absurd is

pub comparison_work : {E : Type 0} (d : Demand) (bytes first second : List ℕ) (found : Result (Vec StudyPoint Global) NoAnswer) (r : Result Work E)
    → IsPair bytes first second → IfOk found (λ all. AreModels first second d.count all.items) → IfOk r (IsPointsWork found)
    → IfOk r (IsWorkOf (Compares d) bytes)
comparison_work d bytes first second found (Ok work) pair h is = found_comparison d bytes first second found work pair h is
comparison_work d bytes first second found (Err e) pair h is = tt

-- rows are refused as a row
pub row_is_refusal : (status : ℕ) → status ≡ refusal_status → status ≢ end_status
row_is_refusal status refused = not_an_end status refused
