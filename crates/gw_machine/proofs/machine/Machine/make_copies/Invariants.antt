use Rattle.std.proofs.Common.{◌≡◌, ◌+◌, ◌^◌, ◌≤◌, ◌<◌, length, replicate}
use Rattle.gw_transactions.specs.Transactions.{Holds, kept_of}
use Rattle.gw_step.specs.Changes.{copies_made}
use Rattle.gw_machine.specs.View.{state_of}
use Rattle.gw_machine.proofs.machine.Machine.make_copies.Given as goal

-- the copies that are still to be made lead where all of them lead
abbrev pub invariant-loop-for_copy : goal.invariant-loop-for_copy
invariant-loop-for_copy l = record {
  state : copies_made (length l.parameters.items) l.tx.number l.transaction l.target (state_of l.self)
      ≡ copies_made l.copies l.tx.number l.transaction l.target (state_of l.fn.self);
  same : l.parameters.items ≡ replicate (length l.parameters.items) (kept_of l.tx.number l.self.transactions);
  frame : l.self ≡ record l.fn.self { transactions = l.self.transactions; current_events = l.self.current_events };
  held : Holds l.self.transactions l.tx;
  few : length l.self.transactions.txs + length l.parameters.items < 2 ^ 60;
  transactions : length l.parameters.items ≤ l.self.transactions.room;
  current_events : length l.parameters.items ≤ l.self.current_events.room;
}

abbrev pub decreases-loop-for_copy : goal.decreases-loop-for_copy
decreases-loop-for_copy l = length l.parameters.items
