use Rattle.std.proofs.Common.{rules, ◌≡◌, ◌∙◌, ℕ, ◌≤◌, ◌<◌, ◌^◌, List, length, None, ap, sym, subst}
use Rattle.std.specs.List.{All}
use Rattle.std.proofs.lemmas.List.Elements.{All-from_recursion}
use Rattle.gw_scan.specs.Making.{spec_fault, seeds_or, count_or}
use Rattle.gw_scan.specs.JobView.{job_of}
use Rattle.gw_step.specs.Job.{Job, JobFits, streams_of}
use Rattle.gw_scan.proofs.Fits.{in_range, seeds-within, length-streams, streams_fit, count-within}
use Rattle.gw_scan.proofs.spec.Spec.reseed.Goals as goal

pub streams_of-streams-requires : goal.streams_of-streams-requires
streams_of-streams-requires c =
    let own = c.args.self.now.parts.seeds in
    let is : c.seeds_or.result.now ≡ seeds_or c.args.seeds.now own = search rules in
    let none : spec_fault c.args.seeds.now c.args.count c.args.self.now.budget ≡ None = search rules in
    let range = in_range c.args.seeds.now c.args.count c.args.self.now.budget none in
    let within = seeds-within c.args.seeds.now own range.0 c.verified_object.ensures.fits.spelled.limits.each_seed in
    subst (All (λ seed. seed ≤ 2147483646)) (sym is) (All-from_recursion (λ seed. seed ≤ 2147483646) (seeds_or c.args.seeds.now own) within)

none : (c : goal.In-Ok-try_clone) → spec_fault c.args.seeds.now c.args.count c.args.self.now.budget ≡ None
none c = search rules

made : (c : goal.In-Ok-try_clone) → c.streams_of-streams.result ≡ streams_of (seeds_or c.args.seeds.now c.args.self.now.parts.seeds)
made c = search rules

counts : (c : goal.In-Ok-try_clone) → (0 < c.count_or-count.result) × (c.count_or-count.result ≤ 2 ^ 40)
counts c =
    let e : c.count_or-count.result ≡ count_or c.args.count c.args.self.now.parts.count = search rules in
    let range = in_range c.args.seeds.now c.args.count c.args.self.now.budget (none c) in
    let limits = c.verified_object.ensures.fits.spelled.limits in
    subst (λ (n : ℕ). (0 < n) × (n ≤ 2 ^ 40)) (sym e) (count-within c.args.count c.args.self.now.parts.count range.1 limits.count_least limits.count_most)

-- the job of the same object
fits : (c : goal.In-Ok-try_clone)
    → JobFits (record {
      parts = c.args.self.now.parts;
      streams = c.streams_of-streams.result;
      count = c.count_or-count.result;
      budget =
          c.args.self.now.budget;
    })
fits c =
    let j = c.verified_object.ensures.fits in
    let seeds = seeds_or c.args.seeds.now c.args.self.now.parts.seeds in
    let range = in_range c.args.seeds.now c.args.count c.args.self.now.budget (none c) in
    let within = seeds-within c.args.seeds.now c.args.self.now.parts.seeds range.0 j.spelled.limits.each_seed in
    record {
      checked = j.checked;
      weighted = j.weighted;
      spelled = j.spelled;
      count_least = (counts c).0;
      count_most = (counts c).1;
      budget_least = j.budget_least;
      budget_most = j.budget_most;
      streams = ap length (made c) ∙ length-streams seeds within;
      each_stream = subst (λ (xs : List ℕ). All (λ seed. (1 ≤ seed) × (seed ≤ 2147483646)) xs) (sym (made c)) (streams_fit seeds within);
    }

-- it is the one that is shared, with these seeds and this count
same : (c : goal.In-Ok-try_clone)
    → record { parts = c.args.self.now.parts; streams = c.streams_of-streams.result; count = c.count_or-count.result; budget = c.args.self.now.budget }
    ≡ job_of (record {
      verified = c.in-Ok-try_clone.verified;
      decoded = c.in-Ok.decoded;
      streams = c.streams_of-streams.result;
      count =
          c.count_or-count.result;
      budget = c.self.inside.budget;
    })
same c = search rules

pub invariant_of-result : goal.invariant_of-result
invariant_of-result c = record {
  fits = subst JobFits (same c) (fits c);
  decoded = search rules;
}

pub returns-in-Ok-try_clone-clause-made : goal.returns-in-Ok-try_clone-clause-made
returns-in-Ok-try_clone-clause-made c =
    let j = c.args.self.now in
    let job : List ℕ → ℕ → Job = λ streams count. record { parts = j.parts; streams = streams; count = count; budget = j.budget } in
    let counted : c.count_or-count.result ≡ count_or c.args.count j.parts.count = search rules in
    sym (same c) ∙ ap (λ streams. job streams c.count_or-count.result) (made c)
    ∙ ap (job (streams_of (seeds_or c.args.seeds.now j.parts.seeds))) counted
