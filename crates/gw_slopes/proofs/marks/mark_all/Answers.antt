use Rattle.std.proofs.Common.{◌≡◌, ◌<◌, List, Bool, false, length, sym, ◌∙◌, subst, arith}
use Rattle.gw_slopes.specs.Marking.{is_due}
use Rattle.gw_slopes.proofs.Marking.{most_missing, are_marks}
use Rattle.gw_slopes.proofs.marks.mark_all.Goals as goal

pub loop-init : goal.loop-init
loop-init c = (c.requires.many, c.requires.sound, omega (arith, most_missing c.args.marks.now, c.requires.many))

pub returns-then-not-mark_round : goal.returns-then-not-mark_round
returns-then-not-mark_round c =
    let p = c.args.parts.now in
    let round = c.mark_round.ensures in
    let none = c.if-not-mark_round.true in
    let before = c.loop.invariant in
    let same = round.same none in
    are_marks p c.args.parameter c.mark_round.new.marks (round.many ∙ before.0) (round.sound before.1)
    (λ i within. subst (λ (ms : List Bool). is_due p c.args.parameter ms i ≡ false) (sym same)
    (round.none none i (subst (λ (ms : List Bool). i < length ms) same within)))
