use Rattle.std.proofs.Common.{rules, arith, ◌≡◌, ◌∙◌, ◌<◌, ◌+◌, ◌++◌, ◌∷◌, [], length, take, ap, sym, subst, List}
use Rattle.std.proofs.lemmas.List.{take_more}
use Rattle.gw_comparison.specs.declared.point.Point.{Point}
use Rattle.gw_alternatives.specs.declared.study_point.StudyPoint.{StudyPoint}
use Rattle.gw_alternatives.specs.Told.{TellsAlternatives}
use Rattle.gw_alternatives.proofs.Following.{none_told, told_more}
use Rattle.gw_alternatives.proofs.told.points_told.Goals as goal

pub loop-i-init : goal.loop-i-init
loop-i-init g c =
    subst (λ (ps : List Point). TellsAlternatives c.args.form c.args.request.now [] ps c.args.out.now.items c.args.out.now.items)
    (sym c.new-points.ensures.items)
    (none_told c.args.form c.args.request.now c.args.out.now.items)

pub loop-i-preserved : goal.loop-i-preserved
loop-i-preserved g c =
    let xs = c.args.alternatives.now in
    let i = c.loop-i.i in
    let x = c.index-alternatives-i.result in
    let below : i < length xs = omega arith in
    let old = c.loop-i.points.items in
    let point = c.in_ok-point_told.field-0 in
    let added : c.push.new.self.items ≡ old ++ point ∷ [] = search rules in
    let more = told_more c.args.form c.args.request.now (take i xs) x old point c.args.out.now.items c.loop-i.out.items
    c.point_told.new.out.items c.loop-i.invariant c.in_ok-point_told.ensures in
    let same : take (i + 1) xs ≡ take i xs ++ x ∷ [] = take_more xs i x below ∙ ap (λ (y : StudyPoint). take i xs ++ y ∷ []) (sym c.index-alternatives-i.is) in
    let of_all = subst (λ ys. TellsAlternatives c.args.form c.args.request.now ys (old ++ point ∷ []) c.args.out.now.items
    c.point_told.new.out.items) (sym same) more in
    subst (λ (ps : List Point). TellsAlternatives c.args.form c.args.request.now (take (i + 1) xs) ps c.args.out.now.items
    c.point_told.new.out.items) (sym added) of_all
