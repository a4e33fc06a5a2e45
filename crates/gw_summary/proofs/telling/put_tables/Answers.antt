use Rattle.std.proofs.Common.{◌≡◌, ◌∙◌, ◌<◌, ◌+◌, ◌++◌, ◌∷◌, [], length, take, refl, ap, sym, subst, arith}
use Rattle.std.proofs.lemmas.List.{take_more}
use Rattle.gw_summary.specs.Telling.{TellsPoints}
use Rattle.gw_summary.specs.declared.point.PointRows.{PointRows}
use Rattle.gw_summary.proofs.Points.{none_told, told_more, next_added}
use Rattle.gw_summary.proofs.telling.put_tables.Goals as goal

pub loop-i-init : goal.loop-i-init
loop-i-init c = ([], none_told c.args.rows.now c.args.study.now c.args.request c.args.out.now.items, refl, c.requires.behind)

pub loop-i-preserved : goal.loop-i-preserved
loop-i-preserved c =
    let rows = c.args.rows.now in
    let study = c.args.study.now in
    let xs = c.args.points.now in
    let i = c.loop-i.i in
    let x = c.index-points-i.result in
    let below : i < length xs = omega arith in
    let told = c.loop-i.invariant.0 in
    let point = c.in_ok-point.point in
    let more = told_more rows study c.args.request (take i xs) x told point c.args.out.now.items c.loop-i.out.items c.point_told.new.out.items
    c.loop-i.invariant.1 c.in_ok-point.ensures in
    let same : take (i + 1) xs ≡ take i xs ++ x ∷ [] = take_more xs i x below ∙ ap (λ (y : PointRows). take i xs ++ y ∷ []) (sym c.index-points-i.is) in
    let next = next_added c.args.request.all told point c.loop-i.first c.put_next.new.first [] c.loop-i.behind.items c.put_next.new.behind.items
    c.loop-i.invariant.2 c.loop-i.invariant.3 c.in_ok-put_next.ensures in (
      told ++ point ∷ [],
      subst (λ ys. TellsPoints rows study c.args.request ys (told ++ point ∷ []) c.args.out.now.items c.point_told.new.out.items) (sym same)
          more,
      next.0,
      next.1,
    )
