use Rattle.std.proofs.Common.{◌∙◌, sym, subst, arith}
use Rattle.gw_scan.specs.Answers.{IsSlice}
use Rattle.gw_answers.proofs.Exhausting.{exhausts}
use Rattle.gw_answers.proofs.answer.run_to_end.Goals as goal

pub returns-clause-over : goal.returns-clause-over
returns-clause-over c =
    let e = c.in_ok-run_slice.ensures in
    let slice = c.in_ok-run_slice.field-0 in
    exhausts c.run_slice.new.self slice e.reached (subst (λ budget. IsSlice budget slice) (sym (rw e.job c.requires)) e.all) e.ended (omega (arith, e.made))
