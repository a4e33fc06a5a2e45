use Rattle.std.proofs.Common.{pos, to_z, w64, None, refl, rules, false}
use Rattle.gw_machine.specs.Configuration.{Configuration}
use Rattle.gw_machine.proofs.Beginning.{Begins, state-nothing, linked-nothing, readable-nothing}
use Rattle.gw_machine.proofs.machine.Machine.nothing.Goals as goal

abbrev made : goal.After-new-in-Ok-4 → Configuration
made c = record {
  clock = pos 0;
  count = to_z w64 c.args.count;
  steps = 0;
  streams = c.args.streams;
  stir = false;
  scheduled = c.in_ok-tables.tables.scheduled.items;
  transactions = c.in-Ok.residents.transactions;
  last = c.in-Ok.residents.transactions.last;
  active = None;
  current_events = c.new-in-Ok.result;
  future_events = c.new-in-Ok-2.result;
  waits = c.in-Ok.residents.lists.waits;
  assemblies = c.new-in-Ok-3.result;
  chains = c.in-Ok.residents.lists.chains;
  entities = c.in_ok-tables.tables.entities;
  entries = c.in_ok-tables.tables.entries.items;
  ended = c.args.ended;
}

begins : (c : goal.After-new-in-Ok-4) → Begins c.args.object.now c.args.count c.args.streams c.args.ended (made c)
begins c = record {
  clock = refl;
  count = search rules;
  steps = refl;
  streams = refl;
  scheduled = search rules;
  transactions = c.in-Ok.ensures.none;
  sound = c.in-Ok.ensures.sound;
  active = refl;
  current_events = c.new-in-Ok.ensures;
  future_events = c.new-in-Ok-2.ensures;
  lists = search rules;
  retry = c.in-Ok.ensures.retry;
  assemblies = c.new-in-Ok-3.ensures;
  chains = search rules;
  stir = refl;
  entities = c.in_ok-tables.ensures.entities;
  entries = search rules;
  ended = refl;
}

pub returns-in-Ok-clause-state : goal.returns-in-Ok-clause-state
returns-in-Ok-clause-state c = state-nothing c.args.object.now c.args.count c.args.streams c.args.ended (made c) (begins c)

pub invariant_of-result : goal.invariant_of-result
invariant_of-result c = (
  linked-nothing c.args.object.now c.args.count c.args.streams c.args.ended (made c) (begins c),
  λ e. rw c.new-in-Ok-4.ensures tt,
)

pub returns-in-Ok-clause-readable : goal.returns-in-Ok-clause-readable
returns-in-Ok-clause-readable c = readable-nothing c.args.object.now c.args.count c.args.streams c.args.ended (made c) (begins c)
