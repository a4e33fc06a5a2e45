use Rattle.std.proofs.Common.{Bool, subst}
use Rattle.std.specs.Prelude.{Ok}
use Rattle.gw_scan.specs.Trying.{TurnsTo}
use Rattle.gw_scan.proofs.Turned.{first_turns, first_ends, second_tried, try-drawn}
use Rattle.gw_scan.proofs.visit.Visit.turn_to_one.Goals as goal

pub turn_unless_refused-requires-in-Ok-false : goal.turn_unless_refused-requires-in-Ok-false
turn_unless_refused-requires-in-Ok-false c =
    let m1 = c.turn_unless_refused.new.machine in
    let refused = subst (λ (b : Bool). TurnsTo (Ok b) c.args.self.now c.args.pair.0 c.args.machine.now m1) c.in-Ok-false.field-0-test c.in-Ok-false.ensures in
    try-drawn c.args.self.now c.args.pair.1 c.args.machine.now m1 c.requires.second refused.1 refused.2

pub returns-in-Ok-false : goal.returns-in-Ok-false
returns-in-Ok-false c =
    let m1 = c.turn_unless_refused.new.machine in
    let refused = subst (λ (b : Bool). TurnsTo (Ok b) c.args.self.now c.args.pair.0 c.args.machine.now m1) c.in-Ok-false.field-0-test c.in-Ok-false.ensures in
    second_tried c.args.self.now c.args.pair c.args.machine.now m1 refused c.turn_unless_refused-in-Ok-false.result
    c.turn_unless_refused-in-Ok-false.new.machine c.turn_unless_refused-in-Ok-false.ensures

pub returns-in-Ok-true : goal.returns-in-Ok-true
returns-in-Ok-true c =
    let m1 = c.turn_unless_refused.new.machine in
    first_turns c.args.self.now c.args.pair c.args.machine.now m1
    (subst (λ (b : Bool). TurnsTo (Ok b) c.args.self.now c.args.pair.0 c.args.machine.now m1) c.in-Ok-true.field-0-test c.in-Ok-true.ensures)

pub returns-in-Err : goal.returns-in-Err
returns-in-Err c = first_ends c.args.self.now c.args.pair c.args.machine.now c.turn_unless_refused.new.machine c.in-Err.end c.in-Err.ensures
