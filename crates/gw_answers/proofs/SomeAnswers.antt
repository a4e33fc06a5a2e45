-- Bytes, a seed and a count have an answer.
use Rattle.std.proofs.Common.{◌≡◌, ℕ, List, Option, Some, None, Result, Ok, Err, MatchResult, arith, refl, subst}
use Rattle.std.specs.Option.{option_map}
use Rattle.gw_object.specs.declared.fault.Fault.{Fault}
use Rattle.gw_object.specs.declared.parts.Parts.{Parts}
use Rattle.gw_object.specs.Reading.{first_fault}
use Rattle.gw_rules.specs.Accepted.{Checked, fault_of}
use Rattle.gw_rules.proofs.AllPass.{is_checked}
use Rattle.gw_scan.specs.Making.{spec_fault, job_from}
use Rattle.gw_step.specs.Job.{Job}
use Rattle.gw_answers.specs.Status.{refusal_status, run_budget}
use Rattle.gw_answers.specs.Refusal.{refusal_line, start_refusal}
use Rattle.gw_answers.specs.Answer.{◌>>=◌, Concludes, job_of, unless, verdict_of, job_made, seeds_given}
use Rattle.gw_answers.specs.Laws.{SomeAnswer}
use Rattle.gw_answers.proofs.Conclusions.{job_concludes}

kept : {A : Type 0} (o : Option Fault) (x y : A) → unless o x ≡ Ok y → x ≡ y
kept None x y h = cc
kept (Some fault) x y h = absurd cc

-- a job that is made of an object that was read is one of a checked object, and has the budget of a run
record MayRun (j : Job) : Type 0 where
  checked : Checked j.parts
  budget : j.budget ≡ run_budget

made_of : (seed count : ℕ) (p : Parts) (j : Job) → Checked p → job_made seed count p ≡ Ok j → MayRun j
made_of seed count p j checked h =
    let seeds = seeds_given seed in
    let same = kept (option_map start_refusal (spec_fault seeds count run_budget)) (job_from p seeds count run_budget) j h in
    subst MayRun same (record { checked = checked; budget = refl })

may_run_of : (seed count : ℕ) (o : Option Fault) (p : Parts) (j : Job) → fault_of p ≡ o → ((unless o p) >>= job_made seed count) ≡ Ok j → MayRun j
may_run_of seed count None p j is h = made_of seed count p j (is_checked p is) h
may_run_of seed count (Some fault) p j is h = absurd cc

may_run_read : (seed count : ℕ) (r : Result Parts Fault) (j : Job) → (r >>= verdict_of >>= job_made seed count) ≡ Ok j → MayRun j
may_run_read seed count (Ok p) j h = may_run_of seed count (fault_of p) p j refl h
may_run_read seed count (Err fault) j h = absurd cc

may_run : (seed count : ℕ) (bytes : List ℕ) (j : Job) → job_of seed count bytes ≡ Ok j → MayRun j
unfolding job_of
may_run seed count bytes j h = may_run_read seed count (first_fault bytes) j h

abbrev Answered : Result Job Fault → Type 0
Answered r = (text : List ℕ) × (status : ℕ) × MatchResult r (λ j. Concludes j text status) (λ fault. (status ≡ refusal_status) × (text ≡ refusal_line fault))

by_job : (r : Result Job Fault) → ((j : Job) → r ≡ Ok j → MayRun j) → Answered r
by_job (Ok j) may = let runs = may j refl in job_concludes j runs.checked (omega (arith, runs.budget))
by_job (Err fault) may = (refusal_line fault, refusal_status, (refl, refl))

pub some_answer : SomeAnswer
some_answer seed count bytes = by_job (job_of seed count bytes) (λ j h. may_run seed count bytes j h)
