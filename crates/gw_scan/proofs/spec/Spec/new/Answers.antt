use Rattle.std.proofs.Common.{rules, ◌≡◌, ◌∙◌, ℕ, ◌≤◌, ◌<◌, ◌^◌, List, length, None, ap, sym, subst}
use Rattle.std.specs.List.{All}
use Rattle.std.proofs.lemmas.List.Elements.{All-from_recursion}
use Rattle.gw_object.specs.declared.parts.Parts.{Parts}
use Rattle.gw_object.specs.Grammar.{HasSpelling}
use Rattle.gw_rules.proofs.WeightsPassing.{weights_pass_where_weighted}
use Rattle.gw_scan.specs.Making.{spec_fault, seeds_or, count_or}
use Rattle.gw_step.specs.Job.{Job, JobFits, streams_of}
use Rattle.gw_scan.proofs.Fits.{in_range, seeds-within, length-streams, streams_fit, count-within}
use Rattle.gw_scan.proofs.spec.Spec.new.Goals as goal

pub streams_of-streams-requires : goal.streams_of-streams-requires
streams_of-streams-requires c =
    let own = c.args.verified.seeds in
    let is : c.seeds_or.result.now ≡ seeds_or c.args.seeds.now own = search rules in
    let none : spec_fault c.args.seeds.now c.args.count c.args.budget ≡ None = search rules in
    let spelled : HasSpelling c.args.verified = rw c.object.ensures.value at c.parts-parts.ensures.limits in
    let range = in_range c.args.seeds.now c.args.count c.args.budget none in
    let within = seeds-within c.args.seeds.now own range.0 spelled.limits.each_seed in
    subst (All (λ seed. seed ≤ 2147483646)) (sym is) (All-from_recursion (λ seed. seed ≤ 2147483646) (seeds_or c.args.seeds.now own) within)

spelled : (c : goal.In-Ok-new) → HasSpelling c.args.verified
spelled c = rw c.object.ensures.value at c.parts-parts.ensures.limits

none : (c : goal.In-Ok-new) → spec_fault c.args.seeds.now c.args.count c.args.budget ≡ None
none c = search rules

made : (c : goal.In-Ok-new) → c.streams_of-streams.result ≡ streams_of (seeds_or c.args.seeds.now c.args.verified.seeds)
made c = search rules

counts : (c : goal.In-Ok-new) → (0 < c.count_or-count.result) × (c.count_or-count.result ≤ 2 ^ 40)
counts c =
    let e : c.count_or-count.result ≡ count_or c.args.count c.args.verified.count = search rules in
    let range = in_range c.args.seeds.now c.args.count c.args.budget (none c) in
    let limits = (spelled c).limits in
    subst (λ (n : ℕ). (0 < n) × (n ≤ 2 ^ 40)) (sym e) (count-within c.args.count c.args.verified.count range.1 limits.count_least limits.count_most)

-- the job of the object that was handed in
fits : (c : goal.In-Ok-new)
    → JobFits (record { parts = c.args.verified; streams = c.streams_of-streams.result; count = c.count_or-count.result; budget = c.args.budget })
fits c =
    let seeds = seeds_or c.args.seeds.now c.args.verified.seeds in
    let range = in_range c.args.seeds.now c.args.count c.args.budget (none c) in
    let within = seeds-within c.args.seeds.now c.args.verified.seeds range.0 (spelled c).limits.each_seed in
    record {
      checked = c.object.ensures.checked;
      weighted = (weights_pass_where_weighted c.args.verified (spelled c)).0 c.object.ensures.weights;
      spelled = spelled c;
      count_least = (counts c).0;
      count_most = (counts c).1;
      budget_least = range.2;
      budget_most = range.3;
      streams = ap length (made c) ∙ length-streams seeds within;
      each_stream = subst (λ (xs : List ℕ). All (λ seed. (1 ≤ seed) × (seed ≤ 2147483646)) xs) (sym (made c)) (streams_fit seeds within);
    }

pub invariant_of-result : goal.invariant_of-result
invariant_of-result c = record {
  fits = subst (λ (p : Parts). JobFits
      (record { parts = p; streams = c.streams_of-streams.result; count = c.count_or-count.result; budget = c.args.budget }))
      (sym c.in-Ok-new.ensures.ok) (fits c);
  decoded = search rules;
}

pub returns-in-Ok-new-clause-made : goal.returns-in-Ok-new-clause-made
returns-in-Ok-new-clause-made c =
    let a = c.args in
    let job : Parts → List ℕ → ℕ → Job = λ parts streams count. record { parts = parts; streams = streams; count = count; budget = a.budget } in
    let counted : c.count_or-count.result ≡ count_or a.count a.verified.count = search rules in
    ap (λ parts. job parts c.streams_of-streams.result c.count_or-count.result) c.in-Ok-new.ensures.ok
    ∙ ap (λ streams. job a.verified streams c.count_or-count.result) (made c)
    ∙ ap (job a.verified (streams_of (seeds_or a.seeds.now a.verified.seeds))) counted
