use Rattle.std.proofs.Common.{◌≡◌, ◌∙◌, ◌<◌, ◌+◌, ◌++◌, ◌∷◌, [], length, take, sym, ap, subst, arith}
use Rattle.std.proofs.lemmas.List.{take_more}
use Rattle.gw_comparison.specs.declared.point.Point.{Point}
use Rattle.gw_comparison.specs.Sheets.{AddsEach, AddsColumns}
use Rattle.gw_comparison.proofs.Each.{none, one_more}
use Rattle.gw_comparison.proofs.sheet.put_points.Goals as goal

pub loop-i-init : goal.loop-i-init
loop-i-init c = none (AddsColumns c.args.all) c.args.out.now.items

pub loop-i-preserved : goal.loop-i-preserved
loop-i-preserved c =
    let xs = c.args.points.now in
    let i = c.loop-i.i in
    let x = c.index-points-i.result in
    let below : i < length xs = omega arith in
    let grown = one_more (AddsColumns c.args.all) (take i xs) x c.args.out.now.items c.loop-i.out.items c.put_point.new.out.items
    c.loop-i.invariant c.in_ok-put_point.ensures in
    let same : take (i + 1) xs ≡ take i xs ++ x ∷ [] =
    take_more xs i x below ∙ ap (λ (y : Point). take i xs ++ y ∷ []) (sym c.index-points-i.is) in
    subst (λ ys. AddsEach (AddsColumns c.args.all) ys c.args.out.now.items c.put_point.new.out.items) (sym same) grown
