use Rattle.std.proofs.Common.{rules, [], ◌≡◌, ◌∙◌}
use Rattle.gw_rules.specs.Values.{Value, operand_value}
use Rattle.gw_step.specs.Outcome.{Gives}
use Rattle.gw_step.specs.Blocks.{assign, then_placed}
use Rattle.gw_machine.specs.View.{state_of}
use Rattle.gw_step.specs.State.{with_streams}
use Rattle.gw_scan.specs.Visiting.{environment_in}
use Rattle.gw_scan.proofs.BlocksWithValue.{act-assign}
use Rattle.gw_scan.proofs.Meeting.{first_may}
use Rattle.gw_scan.proofs.visit.Visit.assign.Goals as goal
use Rattle.gw_scan.proofs.visit.Visit.assign.Goals.{After-set_streams}

value_is : (c : After-set_streams)
    → operand_value c.args.self.now.verified.now (environment_in c.args.self.now c.args.machine.now) c.args.assign.value
    c.args.machine.now.streams ≡ Value (c.in-Ok.value, c.value.new.streams)
value_is c = rw c.streams-streams.ensures at c.in-Ok.ensures

made : (c : After-set_streams)
    → then_placed c.args.self.now.tx.number
    (assign c.args.self.now.verified.now.blocks c.args.self.now.tx.number c.args.self.now.transaction c.args.assign c.in-Ok.value
    (with_streams c.value.new.streams (state_of c.args.machine.now))) ≡ Gives (state_of c.set_streams.new.self)
made c = search rules

pub returns : goal.returns
returns c =
    let here = (goal.at.returns c).After-set_streams in
    let v = c.args.self.now in (
      act-assign v.verified.now v.tx.number v.transaction (state_of c.args.machine.now) c.args.assign c.in-Ok.value c.value.new.streams
          (value_is here) ∙ made here,
      search rules,
    )

pub value-requires-clause-operand : goal.value-requires-clause-operand
value-requires-clause-operand c = first_may c.args.self.now.verified.now _ c.args.assign.value [] c.requires.values
