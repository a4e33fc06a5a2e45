use Rattle.std.proofs.Common.{◌≡◌, ◌∙◌, get_or, ap, sym, arith}
use Rattle.std.specs.Str.{bytes_eq}
use Rattle.gw_step.specs.declared.ends.End.TheVariants.{Done}
use Rattle.gw_scan.specs.declared.sim.Status.TheVariants.{Ended}
use Rattle.gw_report.specs.Report.{status_word}
use Rattle.gw_rows.proofs.EndWords.{all_ends, elsewhere, place_below}
use Rattle.gw_rows.proofs.ends.end_in.Goals as goal

pub loop-end-preserved : goal.loop-end-preserved
loop-end-preserved c = λ end is.
    let i = c.loop-end.end-index in
    let word : c.word_of.result.now ≡ status_word (Ended (get_or all_ends i Done)) = c.word_of.ensures in
    let other = ap (λ w. bytes_eq w c.args.word.now) (sym (c.as_bytes.ensures.value ∙ word)) ∙ sym c.eq.ensures ∙ c.if-eq.false in
    omega (arith, elsewhere i end c.args.word.now other is, c.loop-end.invariant end is)

pub returns : goal.returns
returns c = λ end is. absurd (omega (arith, c.loop-end.invariant end is, place_below end, c.loop-end-test.false))
