use Rattle.std.proofs.Common.{◌∙◌, Some, Bool, true, false, refl, sym, ap, subst}
use Rattle.std.specs.Prelude.{Ok, Err}
use Rattle.gw_machine.specs.View.{state_of}
use Rattle.gw_step.specs.Turning.{turn_to}
use Rattle.gw_scan.specs.Trying.{TellsOfNext}
use Rattle.gw_scan.specs.Visiting.{MayMake}
use Rattle.gw_scan.specs.declared.visit.Visit.{Visit}
use Rattle.gw_scan.proofs.Turned.{made, found_then, turns, is_refused, ends}
use Rattle.gw_scan.proofs.visit.Visit.turn_unless_refused.Goals as goal

pub is_refused-requires : goal.is_refused-requires
is_refused-requires c =
    let v = c.args.self.now in
    let e = c.turn.ensures in
    subst (λ (v : Visit). MayMake v c.turn.new.self) (sym c.towards-turned.ensures)
    (made v c.args.next c.args.machine.now c.turn.new.self c.turn.new.self c.requires e.state e.held e.frame refl)

pub turn-requires-in-Ok-true-clause-found : goal.turn-requires-in-Ok-true-clause-found
turn-requires-in-Ok-true-clause-found c =
    let e = c.turn.ensures in
    found_then c.args.self.now c.args.next c.args.machine.now c.turn.new.self c.is_refused.new.machine c.requires e.state e.held e.frame
    c.is_refused.ensures.frame
    ∙ ap (λ (v : Visit). Some v.transaction) (sym c.towards-turned.ensures)

pub turn-requires-in-Err-clause-found : goal.turn-requires-in-Err-clause-found
turn-requires-in-Err-clause-found c =
    let e = c.turn.ensures in
    found_then c.args.self.now c.args.next c.args.machine.now c.turn.new.self c.is_refused.new.machine c.requires e.state e.held e.frame
    c.is_refused.ensures.frame
    ∙ ap (λ (v : Visit). Some v.transaction) (sym c.towards-turned.ensures)

pub returns-in-Ok-false : goal.returns-in-Ok-false
returns-in-Ok-false c =
    let e = c.turn.ensures in
    turns c.args.self.now c.args.next c.args.machine.now c.turn.new.self c.is_refused.new.machine c.requires e.state e.held e.frame c.is_refused.ensures.frame
    (subst (λ (v : Visit). TellsOfNext (Ok false) v c.turn.new.self c.is_refused.new.machine) c.towards-turned.ensures
    (subst (λ (b : Bool). TellsOfNext (Ok b) c.towards-turned.result c.turn.new.self c.is_refused.new.machine) c.in-Ok-false.field-0-test
    c.in-Ok-false.ensures.answer))

pub returns-in-Ok-true : goal.returns-in-Ok-true
returns-in-Ok-true c =
    let e = c.turn.ensures in
    is_refused c.args.self.now c.args.next c.args.machine.now c.turn.new.self c.is_refused.new.machine c.requires e.state e.held e.frame
    c.is_refused.ensures.frame
    c.turn-in-Ok-true.new.self
    (c.turn-in-Ok-true.ensures.state
    ∙ ap (λ (v : Visit). turn_to c.args.self.now.tx.number v.transaction c.args.self.now.transaction.next
    (state_of c.is_refused.new.machine)) c.towards-turned.ensures)
    c.turn-in-Ok-true.ensures.frame c.is_refused.ensures.streams c.turn-in-Ok-true.ensures.held
    (subst (λ (v : Visit). TellsOfNext (Ok true) v c.turn.new.self c.is_refused.new.machine) c.towards-turned.ensures
    (subst (λ (b : Bool). TellsOfNext (Ok b) c.towards-turned.result c.turn.new.self c.is_refused.new.machine) c.in-Ok-true.field-0-test
    c.in-Ok-true.ensures.answer))

pub returns-in-Err : goal.returns-in-Err
returns-in-Err c =
    let e = c.turn.ensures in
    ends c.args.self.now c.args.next c.args.machine.now c.turn.new.self c.is_refused.new.machine c.requires e.state e.held e.frame c.is_refused.ensures.frame
    c.turn-in-Err.new.self (c.turn-in-Err.ensures.state
    ∙ ap (λ (v : Visit). turn_to c.args.self.now.tx.number v.transaction c.args.self.now.transaction.next
    (state_of c.is_refused.new.machine)) c.towards-turned.ensures)
    c.turn-in-Err.ensures.frame c.in-Err.end
    (subst (λ (v : Visit). TellsOfNext (Err c.in-Err.end) v c.turn.new.self c.is_refused.new.machine) c.towards-turned.ensures c.in-Err.ensures.answer)
