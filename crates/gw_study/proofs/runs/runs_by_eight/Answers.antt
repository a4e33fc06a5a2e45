use Rattle.std.proofs.Common.{rules, arith, ◌≡◌, ◌∙◌, ◌+◌, ◌-◌, ◌/◌, ◌++◌, length, ap, sym, subst}
use Rattle.std.proofs.lemmas.List.{length-append}
use Rattle.gw_study.specs.Runs.{AreRunsFrom, AreRunsOf}
use Rattle.gw_study.proofs.Following.{following}
use Rattle.gw_study.proofs.runs.runs_by_eight.Goals as goal

pub returns : goal.returns
returns g c =
    let j = c.args.setup.now.spec.now in
    let from = c.args.setup.now.from in
    let first = c.args.first in
    let middle = first + (c.args.end - first) / 2 in
    let runs = c.in_ok-runs.runs.items in
    let others = c.in_ok-more.more.items in
    let own : (first + length runs ≡ middle) × AreRunsFrom j from first runs =
    subst (λ r. AreRunsOf c.args.setup.now first middle r) c.in_ok-runs.was c.join-left.ensures.first in
    let behind : (middle + length others ≡ c.args.end) × AreRunsFrom j from middle others =
    subst (λ r. AreRunsOf c.args.setup.now middle c.args.end r) c.in_ok-more.was c.join-left.ensures.second in
    let added : c.append.new.self.items ≡ runs ++ others = search rules in
    let longer : length c.append.new.self.items ≡ length runs + length others = ap length added ∙ length-append runs others in (
      omega (arith, longer, own.0, behind.0),
      subst (λ xs. AreRunsFrom j from first xs) (sym added) (following j from first middle runs others own.1 own.0 behind.1),
    )
