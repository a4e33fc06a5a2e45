use Rattle.std.proofs.Common.{◌≡◌, ◌+◌, ◌-◌, ◌≤◌}
use Rattle.gw_step.specs.Blocks.{unlink_members}
use Rattle.gw_machine.specs.View.{state_of}
use Rattle.gw_machine.proofs.machine.Machine.unlink.Given as goal

-- the members that are still to leave lead where all of them lead
abbrev pub invariant-loop : goal.invariant-loop
invariant-loop l = record {
  state : unlink_members (l.count - l.counter) l.chain l.target (state_of l.self) ≡ unlink_members l.count l.chain l.target (state_of l.fn.self);
  frame : l.self ≡ record l.fn.self { transactions = l.self.transactions; current_events = l.self.current_events; chains = l.self.chains };
  room : l.count ≤ l.self.current_events.room + l.counter;
  left : l.fn.self.current_events.room ≤ l.self.current_events.room + l.counter;
}
