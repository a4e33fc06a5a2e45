use Rattle.std.proofs.Common.{◌++◌, List, ℕ, append_assoc, ap, ◌∙◌}
use Rattle.gw_object.specs.declared.parts.Parts.{Parts}
use Rattle.gw_step.specs.Job.{Job}
use Rattle.std.proofs.lemmas.Result.{IfOk-equal}
use Rattle.gw_trace.specs.declared.happening.Happening.{Happening}
use Rattle.gw_trace.specs.Lines.{columns, words, step_line}
use Rattle.gw_trace.proofs.line.put_line.Goals as goal

pub returns : goal.returns
unfolding step_line
returns c =
    let out = c.args.out.now.items in
    let before = c.args.before.now in
    let after = c.args.sim.now.state in
    let what = c.what_happened-happening.result in
    let parts = c.parts-parts.result.now in
    let is = c.what_happened-happening.ensures in
    let same = c.parts-parts.ensures.value ∙ c.object.ensures.value ∙ c.verified_object.ensures.value ∙ ap (λ (j : Job). j.parts) c.spec.ensures in
    IfOk-equal c.put_words.result _ _ _ c.put_words.ensures
    (ap (λ (xs : List ℕ). xs ++ words parts before after what) c.in_ok-put_columns.ensures
    ∙ append_assoc out (columns before after what) (words parts before after what)
    ∙ ap (λ (p : Parts). out ++ (columns before after what ++ words p before after what)) same
    ∙ ap (λ (h : Happening). out ++ (columns before after h ++ words c.args.sim.now.job.parts before after h)) is)
