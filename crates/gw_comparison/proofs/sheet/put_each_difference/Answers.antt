use Rattle.std.proofs.Common.{◌≡◌, ◌∙◌, ◌<◌, ◌+◌, ◌++◌, ◌∷◌, [], length, take, sym, ap, subst, arith}
use Rattle.std.proofs.lemmas.List.{take_more}
use Rattle.gw_comparison.specs.declared.point.Column.{Column}
use Rattle.gw_comparison.specs.Sheets.{AddsEach, AddsDifferenceIfTold}
use Rattle.gw_comparison.proofs.Each.{none, one_more}
use Rattle.gw_comparison.proofs.sheet.put_each_difference.Goals as goal

pub loop-i-init : goal.loop-i-init
loop-i-init c = none (AddsDifferenceIfTold c.args.all c.args.name.now c.args.others.now) c.args.out.now.items

pub loop-i-preserved : goal.loop-i-preserved
loop-i-preserved c =
    let xs = c.args.columns.now in
    let i = c.loop-i.i in
    let x = c.index-columns-i.result in
    let below : i < length xs = omega arith in
    let grown = one_more (AddsDifferenceIfTold c.args.all c.args.name.now c.args.others.now) (take i xs) x c.args.out.now.items
    c.loop-i.out.items c.put_difference.new.out.items c.loop-i.invariant c.in_ok-put_difference.ensures in
    let same : take (i + 1) xs ≡ take i xs ++ x ∷ [] =
    take_more xs i x below ∙ ap (λ (y : Column). take i xs ++ y ∷ []) (sym c.index-columns-i.is) in
    subst (λ ys. AddsEach (AddsDifferenceIfTold c.args.all c.args.name.now c.args.others.now) ys c.args.out.now.items
    c.put_difference.new.out.items) (sym same) grown
