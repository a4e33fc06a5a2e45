use Rattle.std.proofs.Common.{◌≡◌, ◌∙◌, ◌<◌, ◌+◌, ◌++◌, ◌∷◌, [], length, take, sym, ap, subst, arith}
use Rattle.std.proofs.lemmas.List.{take_more}
use Rattle.gw_comparison.specs.declared.point.Point.{Point}
use Rattle.gw_comparison.specs.Sheets.{AddsEach}
use Rattle.gw_comparison.proofs.Each.{none, one_more}
use Rattle.gw_alternatives.specs.Told.{AddsBlock}
use Rattle.gw_alternatives.proofs.told.put_blocks.Goals as goal

pub loop-i-init : goal.loop-i-init
loop-i-init c = none (AddsBlock c.args.all c.args.first.now) c.args.out.now.items

pub loop-i-preserved : goal.loop-i-preserved
loop-i-preserved c =
    let xs = c.args.others.now in
    let i = c.loop-i.i in
    let x = c.index-others-i.result in
    let below : i < length xs = omega arith in
    let grown = one_more (AddsBlock c.args.all c.args.first.now) (take i xs) x c.args.out.now.items c.loop-i.out.items
    c.put_block.new.out.items c.loop-i.invariant c.in_ok-put_block.ensures in
    let same : take (i + 1) xs ≡ take i xs ++ x ∷ [] =
    take_more xs i x below ∙ ap (λ (y : Point). take i xs ++ y ∷ []) (sym c.index-others-i.is) in
    subst (λ ys. AddsEach (AddsBlock c.args.all c.args.first.now) ys c.args.out.now.items c.put_block.new.out.items) (sym same) grown
