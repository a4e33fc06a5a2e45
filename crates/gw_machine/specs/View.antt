-- The simulation state that a machine is in: it holds handles, and the state has their numbers.
use Rattle.std.specs.Prelude.{ℕ, map, length, option_map}
use Rattle.gw_members.specs.declared.tx.Tx.{Tx}
use Rattle.gw_members.specs.declared.tx.Member.{Member}
use Rattle.gw_members.specs.declared.tx.Event.{Event}
use Rattle.gw_assemblies.specs.declared.assemblies.Assembly.{Assembly as HeldAssembly}
use Rattle.gw_machine.specs.Configuration.{Configuration}
use Rattle.gw_machine.specs.EntityTables.{states_of}
use Rattle.gw_step.specs.State.{FutureEvent, Assembly, Lists, State}

-- the number of a transaction, by its handle
abbrev pub handle_number : Tx → ℕ
handle_number tx = tx.number

-- the number of a member of a list by priority
abbrev pub member_number : Member → ℕ
member_number m = m.tx.number

-- a member of the future events chain, by its number
abbrev pub event_of : Event → FutureEvent
event_of e = record { time = e.time; number = e.tx.number }

-- an assembly, by the number of who waits
abbrev pub assembly_of : HeldAssembly → Assembly
assembly_of a = record { block = a.block; set = a.set; number = a.first.number; missing = a.missing }

-- which transactions reside where
abbrev pub lists_of : Configuration → Lists
lists_of m = record {
  active = option_map (λ (tx : Tx). tx.number) m.active;
  current_events = map member_number m.current_events.items;
  future_events = map event_of m.future_events.items;
  delay_lists = map (map member_number) m.waits.lists;
  retry = map member_number m.waits.retry;
  assemblies = map assembly_of m.assemblies.items;
  user_chains = map (map handle_number) m.chains.lists;
}

-- the whole state
abbrev pub state_of : Configuration → State
state_of m = record {
  clock = m.clock;
  count = m.count;
  steps = m.steps;
  streams = m.streams;
  stir = m.stir;
  scheduled = m.scheduled;
  transactions = m.transactions.txs;
  lists = lists_of m;
  entities = states_of m.entities;
  entries = m.entries;
  ended = m.ended;
}

-- how many entities there are: each table has an entry for each
abbrev pub entity_count : Configuration → ℕ
entity_count m = length m.entities.facilities.values
