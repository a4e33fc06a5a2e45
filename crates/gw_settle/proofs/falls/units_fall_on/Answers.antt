use Rattle.std.proofs.Common.{arith, refl, subst}
use Rattle.std.specs.Prelude.{All}
use Rattle.std.proofs.lemmas.List.{take_all}
use Rattle.std.proofs.lemmas.List.Elements.{All-more}
use Rattle.gw_flow.specs.declared.abstract_state.Amount.{Amount}
use Rattle.gw_settle.specs.Drafts.{HeldFallOn}
use Rattle.gw_settle.proofs.falls.units_fall_on.Goals as goal

pub loop-i-preserved : goal.loop-i-preserved
loop-i-preserved c =
    let none : Amount = record { entity = 0; number = 0 } in
    All-more (HeldFallOn c.args.times c.args.next.now c.args.second.now c.args.last.now) c.args.units.now c.loop-i.i none
    c.loop-i-test.true c.loop-i.invariant (c.amount_falls_on.ensures.0 c.if-not-amount_falls_on.false)

pub returns : goal.returns
returns c =
    let falls = HeldFallOn c.args.times c.args.next.now c.args.second.now c.args.last.now in
    (λ yes. subst (All falls) (take_all c.loop-i.i c.args.units.now (omega (arith, c.loop-i-test.false))) c.loop-i.invariant, λ all. refl)
