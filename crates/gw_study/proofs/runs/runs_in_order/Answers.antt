use Rattle.std.proofs.Common.{rules, arith, ◌≡◌, ◌∙◌, ◌+◌, ◌++◌, length, ap, sym, subst}
use Rattle.std.proofs.lemmas.List.{length-append}
use Rattle.gw_study.specs.Runs.{AreRunsFrom}
use Rattle.gw_study.proofs.Following.{following}
use Rattle.gw_study.proofs.runs.runs_in_order.Goals as goal

pub loop-made-preserved : goal.loop-made-preserved
loop-made-preserved g c =
    let j = c.args.setup.now.spec.now in
    let from = c.args.setup.now.from in
    let first = c.args.first in
    let start = first + c.loop-made.made in
    let old = c.loop-made.runs.items in
    let others = c.in_ok-more.more.items in
    let behind = c.in_ok-more.ensures in
    let there : first + length old ≡ start = omega (arith, c.loop-made.invariant.1) in
    let added : c.append.new.self.items ≡ old ++ others = search rules in
    let longer : length c.append.new.self.items ≡ length old + length others = ap length added ∙ length-append old others in (
      omega arith,
      omega (arith, longer, c.loop-made.invariant.1, behind.0),
      subst (λ xs. AreRunsFrom j from first xs) (sym added) (following j from first start old others c.loop-made.invariant.2 there behind.1),
    )
