use Rattle.std.proofs.Common.{[], ◌≡◌, ◌+◌, ◌-◌, ◌≤◌, ◌<◌, length}
use Rattle.gw_num.specs.Table.{at}
use Rattle.gw_machine.specs.Coherence.{IsSteady}
use Rattle.gw_machine.specs.View.{state_of}
use Rattle.gw_step.specs.State.{delay_list}
use Rattle.gw_step.specs.Blocks.{admission}
use Rattle.gw_machine.proofs.Walks.{rest_of_walk}
use Rattle.gw_machine.proofs.machine.Machine.admit.Given as goal

-- what is left of the walk still leads where the whole of it leads
abbrev pub invariant-loop-tx : goal.invariant-loop-tx
invariant-loop-tx l = record {
  walk : rest_of_walk l.blocks l.e (at 0 l.self.waits.places l.e) l.self ≡ admission l.blocks l.e (delay_list l.e (state_of l.fn.self)) (state_of l.fn.self);
  steady : IsSteady l.blocks (l.fn.self.steps + 1) l.self;
  steps : l.self.steps ≡ l.fn.self.steps;
  slots : l.self.last ≡ l.fn.self.last;
  there : l.e < length l.self.entities.facilities.values;
  place : at 0 l.self.waits.places l.e ≤ length (at [] l.self.waits.lists l.e);
  room : length (at [] l.self.waits.lists l.e) ≤ l.self.current_events.room + at 0 l.self.waits.places l.e;
}

abbrev pub decreases-loop-tx : goal.decreases-loop-tx
decreases-loop-tx l = length (at [] l.self.waits.lists l.e) - at 0 l.self.waits.places l.e
