use Rattle.std.proofs.Common.{rules, arith, ◌≡◌, ◌∙◌, ◌+◌, ◌++◌, ◌∷◌, [], length, ap, sym, subst}
use Rattle.std.proofs.lemmas.List.{length-append}
use Rattle.gw_alternatives.specs.Alternatives.{ArePointsFrom}
use Rattle.gw_alternatives.proofs.Following.{no_points, point_more}
use Rattle.gw_alternatives.proofs.alternatives.points_in.Goals as goal

pub loop-point-init : goal.loop-point-init
loop-point-init c = (
  subst (λ xs. ArePointsFrom c.args.text.now c.args.points.now c.args.count 0 xs) (sym c.new-alternatives.ensures.items)
      (no_points c.args.text.now c.args.points.now c.args.count 0),
  ap length c.new-alternatives.ensures.items,
)

pub loop-point-preserved : goal.loop-point-preserved
loop-point-preserved c =
    let old = c.loop-point.alternatives.items in
    let x = c.in_ok-alternative.alternative in
    let added : c.add.new.alternatives.items ≡ old ++ x ∷ [] = search rules in
    let more = point_more c.args.text.now c.args.points.now c.args.count 0 c.loop-point.point old x c.loop-point.invariant.0
    (omega (arith, c.loop-point.invariant.1)) c.in_ok-alternative.ensures in
    let longer : length c.add.new.alternatives.items ≡ length old + 1 = ap length added ∙ length-append old (x ∷ []) in
    (subst (λ xs. ArePointsFrom c.args.text.now c.args.points.now c.args.count 0 xs) (sym added) more, longer ∙ ap (λ n. n + 1) c.loop-point.invariant.1)
