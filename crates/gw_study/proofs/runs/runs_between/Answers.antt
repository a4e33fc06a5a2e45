use Rattle.std.proofs.Common.{rules, arith, ◌≡◌, ◌+◌, ◌++◌, ◌∷◌, [], length, ap, ◌∙◌, subst, sym}
use Rattle.std.proofs.lemmas.List.{length-append}
use Rattle.gw_study.specs.Runs.{AreRunsFrom}
use Rattle.gw_study.proofs.Following.{run_more}
use Rattle.gw_study.proofs.runs.runs_between.Goals as goal

pub loop-number-preserved : goal.loop-number-preserved
loop-number-preserved c =
    let setup = c.args.setup.now in
    let old = c.loop-number.runs.items in
    let run = c.in_ok-run.run' in
    let added : c.push.new.self.items ≡ old ++ run ∷ [] = search rules in
    let more = run_more setup.spec.now setup.from c.args.first c.loop-number.number old run c.loop-number.invariant.1
    c.loop-number.invariant.0 c.in_ok-run.ensures in
    let longer : length c.push.new.self.items ≡ length old + 1 = ap length added ∙ length-append old (run ∷ []) in
    (omega (arith, longer, c.loop-number.invariant.0), subst (λ runs. AreRunsFrom setup.spec.now setup.from c.args.first runs) (sym added) more)
