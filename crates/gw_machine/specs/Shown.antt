-- What is shown of a machine's fields, and what holds of them.
use Rattle.gw_machine.specs.Configuration.{Configuration}
use Rattle.gw_machine.specs.Coherence.{Linked}
use Rattle.gw_machine.specs.View.{state_of}
use Rattle.gw_machine.specs.Wants.{AreKnown}
use Rattle.gw_machine.specs.declared.machine.Machine.TheInside.{Inside}

-- a machine's parts
abbrev pub configuration_of : Inside → Configuration
configuration_of m = record {
  clock = m.clock;
  count = m.count;
  steps = m.steps;
  streams = m.streams;
  stir = m.stir;
  scheduled = m.scheduled.items;
  transactions = m.transactions;
  last = m.transactions.last;
  active = m.active;
  current_events = m.current_events;
  future_events = m.future_events;
  waits = m.waits;
  assemblies = m.assemblies;
  chains = m.chains;
  entities = m.entities;
  entries = m.entries.items;
  ended = m.ended;
}

-- each handle leads to its transaction, each live transaction resides exactly once, and the time is one; and what is known of who waits is so
abbrev pub IsLinked : Inside → Type 0
IsLinked m = Linked (configuration_of m) × AreKnown m.wants (state_of (configuration_of m))
