use Rattle.std.proofs.Common.{◌∙◌, ◌<◌, ◌+◌, ◌++◌, ◌∷◌, [], length, get_or, take, sym, ap, arith}
use Rattle.std.specs.Prelude.{None}
use Rattle.std.proofs.lemmas.List.{length_push, take_more, take_all}
use Rattle.std.proofs.lemmas.List.Elements.{All-get_or}
use Rattle.gw_rows.specs.Reading.{IsAmount}
use Rattle.gw_rows.proofs.RowFields.{value_field}
use Rattle.gw_rows.proofs.reading.values_in.Goals as goal

pub loop-i-preserved : goal.loop-i-preserved
loop-i-preserved c = record {
  many = ap length c.in_ok-push.ensures.items ∙ length_push c.loop-i.values.items _ ∙ ap (λ n. n + 1) c.loop-i.invariant.many;
  read = λ named s number run are same.
      let i = c.loop-i.i in
      let values = run.values.items in
      let below : i < length values = omega (arith, are.readable.figures.values, same, c.loop-i-test.true) in
      let field = c.part_at.ensures ∙ ap (λ ls. get_or ls (9 + i) []) are.fields ∙ value_field named s number run i below in
      let value = c.amount_in.ensures (get_or values i None) (All-get_or IsAmount values i None below are.readable.range.values) field in
      c.in_ok-push.ensures.items ∙ ap (λ ls. ls ++ c.amount_in.result ∷ []) (c.loop-i.invariant.read named s number run are same)
      ∙ ap (λ x. take i values ++ x ∷ []) value ∙ sym (take_more values i None below);
}

pub returns-clause-read : goal.returns-clause-read
returns-clause-read c = λ named s number run are same.
    c.loop-i.invariant.read named s number run are same
    ∙ take_all c.loop-i.i run.values.items (omega (arith, are.readable.figures.values, same, c.loop-i-test.false))
