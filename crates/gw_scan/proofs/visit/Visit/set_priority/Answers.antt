use Rattle.std.proofs.Common.{rules, [], ◌≡◌, ◌∙◌}
use Rattle.gw_rules.specs.Values.{Value, operand_value}
use Rattle.gw_step.specs.Outcome.{Gives}
use Rattle.gw_step.specs.Blocks.{set_priority, then_placed}
use Rattle.gw_machine.specs.View.{state_of}
use Rattle.gw_step.specs.State.{with_streams}
use Rattle.gw_scan.specs.Visiting.{environment_in}
use Rattle.gw_scan.proofs.BlocksWithValue.{act-priority}
use Rattle.gw_scan.proofs.Meeting.{first_may}
use Rattle.gw_scan.proofs.visit.Visit.set_priority.Goals as goal

value_is : (c : goal.In_ok-pass_with_priority)
    → operand_value c.args.self.now.verified.now (environment_in c.args.self.now c.args.machine.now) c.args.change.value
    c.args.machine.now.streams ≡ Value (c.in-Ok.value, c.value.new.streams)
value_is c = rw c.streams-streams.ensures at c.in-Ok.ensures

made : (c : goal.In_ok-pass_with_priority)
    → then_placed c.args.self.now.tx.number
    (set_priority c.args.self.now.verified.now.blocks c.args.self.now.tx.number c.args.self.now.transaction c.args.change.behind
    c.in-Ok.value (with_streams c.value.new.streams (state_of c.args.machine.now))) ≡ Gives (state_of c.pass_with_priority.new.machine)
made c = search rules

pub returns : goal.returns
returns c =
    let v = c.args.self.now in (
      act-priority v.verified.now v.tx.number v.transaction (state_of c.args.machine.now) c.args.change c.in-Ok.value c.value.new.streams
          (value_is c) ∙ made c,
      search rules,
    )

pub value-requires-clause-operand : goal.value-requires-clause-operand
value-requires-clause-operand c = first_may c.args.self.now.verified.now _ c.args.change.value [] c.requires.values
