use Rattle.std.proofs.Common.{rules, [], ◌≡◌, sym, subst}
use Rattle.gw_rules.specs.Values.{Value, operand_value}
use Rattle.gw_step.specs.Outcome.{Outcome}
use Rattle.gw_step.specs.State.{State, with_streams}
use Rattle.gw_step.specs.Blocks.{plus, then_placed}
use Rattle.gw_machine.specs.View.{state_of}
use Rattle.gw_scan.specs.Makes.{Makes}
use Rattle.gw_scan.specs.Visiting.{environment_in}
use Rattle.gw_scan.proofs.BlocksWithValue.{act-plus}
use Rattle.gw_scan.proofs.Meeting.{first_may}
use Rattle.gw_scan.proofs.visit.Visit.plus.Goals as goal

pub returns-in-Ok : goal.returns-in-Ok
returns-in-Ok c =
    let v = c.args.self.now in
    let n = v.tx.number in
    let t = v.transaction in
    let s = state_of c.args.machine.now in
    let is : operand_value v.verified.now (environment_in v c.args.machine.now) c.args.plus.value s.streams
    ≡ Value (c.in-Ok.value, c.value.new.streams) = rw c.streams-streams.ensures at c.in-Ok.ensures in
    let made = act-plus v.verified.now n t s c.args.plus c.in-Ok.value c.value.new.streams is in
    let taken : Makes c.take_value.result
    (then_placed n (plus v.verified.now.blocks n t c.args.plus.parameter c.in-Ok.value (with_streams c.value.new.streams s))) s
    (state_of c.take_value.new.machine) = search (rules, c.take_value.ensures.0) in
    (subst (λ (o : Outcome State). Makes c.take_value.result o s (state_of c.take_value.new.machine)) (sym made) taken, c.take_value.ensures.1)

pub value-requires-clause-operand : goal.value-requires-clause-operand
value-requires-clause-operand c = first_may c.args.self.now.verified.now _ c.args.plus.value [] c.requires.values
