use Rattle.std.proofs.Common.{◌≡◌, ◌∙◌, ◌<◌, ◌+◌, ◌++◌, ◌∷◌, [], length, map, drop, take, sym, ap, subst, arith}
use Rattle.std.specs.Prelude.{None}
use Rattle.std.specs.List.{AllZip}
use Rattle.std.proofs.lemmas.List.{length-map, take_more, take_all}
use Rattle.std.proofs.lemmas.List.Elements.{All-get_or}
use Rattle.gw_figures.specs.Labels.{label_of, labels as labels_of}
use Rattle.gw_rows.specs.Reading.{IsAmount, MayChange}
use Rattle.gw_rows.specs.Rows.{trend_fields}
use Rattle.gw_rows.proofs.RowFields.{behind_values, label_at, labels_many, none_yet, place_within, fields_left, change_read, changes_many}
use Rattle.gw_rows.proofs.RowFields.{change_more, change_at}
use Rattle.gw_rows.proofs.reading.trends_in.Goals as goal

pub loop-i-init : goal.loop-i-init
loop-i-init c = record {
  within = omega arith;
  may = none_yet c.in_ok-trends.trends.items c.in_ok-trends.ensures.items;
  left = λ s number run are.
      let figures = c.args.figures.now in
      ap (λ n. drop (9 + n) (map (λ p. p.now) c.args.parts.now)) (sym (length-map figures label_of))
      ∙ ap (drop (9 + length (labels_of figures))) are.fields ∙ behind_values (labels_of figures) s number run are.readable.figures;
  read = λ s number run are. c.in_ok-trends.ensures.items;
}

pub loop-i-preserved : goal.loop-i-preserved
loop-i-preserved c =
    let figures = c.args.figures.now in
    let named = labels_of figures in
    let i = c.loop-i.i in
    let label = label_of c.index-figures-i.result in
    let here = label_at figures i c.index-figures-i.result c.loop-i-test.true c.index-figures-i.is in
    let next = c.place_behind-place.ensures in
    let many = labels_many figures in
    let parts = map (λ p. p.now) c.args.parts.now in
    let told = c.trend_in.result in
    record {
      within = place_within label c.loop-i.place _ (9 + length figures) i c.loop-i.invariant.within next;
      may = change_more named i label c.loop-i.trends.items c.push.new.self.items told (omega (arith, many, c.loop-i-test.true)) here
          c.loop-i.invariant.may c.trend_in.ensures.may c.in_ok-push.ensures.items;
      left = λ s number run are.
          let rest = drop (i + 1) named in
          fields_left label rest i c.loop-i.place _ parts run.trend.items
          (subst (λ ls. drop c.loop-i.place parts ≡ trend_fields ls i run.trend.items) here (c.loop-i.invariant.left s number run are)) next;
      read = λ s number run are.
          let rest = drop (i + 1) named in
          let trends = run.trend.items in
          let zip = are.readable.figures.trend in
          let below : i < length trends = omega (arith, many, changes_many named trends zip, c.loop-i-test.true) in
          let left = subst (λ ls. drop c.loop-i.place parts ≡ trend_fields ls i trends) here (c.loop-i.invariant.left s number run are) in
          let one = change_read label rest i c.loop-i.place parts trends told left (All-get_or IsAmount trends i None below are.readable.range.trend)
          (change_at named i label trends here zip) c.trend_in.ensures.may c.trend_in.ensures.read in
          c.in_ok-push.ensures.items ∙ ap (λ ls. ls ++ told ∷ []) (c.loop-i.invariant.read s number run are)
          ∙ ap (λ x. take i trends ++ x ∷ []) one ∙ sym (take_more trends i None below);
    }

pub returns-clause-read : goal.returns-clause-read
returns-clause-read c = λ s number run are.
    let named = labels_of c.args.figures.now in
    c.loop-i.invariant.read s number run are
    ∙ take_all c.loop-i.i run.trend.items
    (omega (arith, changes_many named run.trend.items are.readable.figures.trend, labels_many c.args.figures.now, c.loop-i-test.false))

pub returns-clause-may : goal.returns-clause-may
returns-clause-may c =
    let named = labels_of c.args.figures.now in
    subst (λ ls. AllZip MayChange ls c.loop-i.trends.items) (take_all c.loop-i.i named (omega (arith, labels_many c.args.figures.now, c.loop-i-test.false)))
    c.loop-i.invariant.may
