use Rattle.std.proofs.Common.{◌∙◌, ◌++◌, refl, ap}
use Rattle.gw_summary.proofs.HoldingRows.{one_waits, then_well}
use Rattle.gw_summary.proofs.Taking.{then_ok, takes_pushed}
use Rattle.gw_summary.proofs.rows.Rows.wait.Goals as goal

pub returns-clause-takes : goal.returns-clause-takes
returns-clause-takes c =
    let old = c.args.self.now in
    let copied = c.in_ok-extend_from_slice.ensures.items ∙ ap (λ ls. ls ++ c.args.line.now) c.in_ok-copy.ensures.items in
    then_ok c.push_waiting.result (λ is. takes_pushed c.args.line.now old _ _ is copied refl refl) c.push_waiting.ensures.items

pub returns-clause-study : goal.returns-clause-study
returns-clause-study c =
    let old = c.args.self.now in
    let copied = c.in_ok-extend_from_slice.ensures.items ∙ ap (λ ls. ls ++ c.args.line.now) c.in_ok-copy.ensures.items in
    λ s none readable row held. then_well c.push_waiting.result _ _
    (λ done is. one_waits s c.args.line.now old _ _ is copied refl row none held) c.push_waiting.ensures.memory
