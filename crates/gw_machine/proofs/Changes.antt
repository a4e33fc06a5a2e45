-- What the elementary changes make of a machine.
use Rattle.std.proofs.Common.{◌≡◌, ℕ, ◌+◌, ◌≤◌, ◌<◌, ℤ, List, [], map, length, Option, Some, None, IfSome, option_map, refl, sym, ap, ◌∙◌, subst, get_or}
use Rattle.std.specs.Prelude.{int_le, slice_set}
use Rattle.std.specs.List.{AllByRecursion}
use Rattle.gw_members.specs.Chain.{Chain, in_time}
use Rattle.gw_num.specs.Table.{at, put}
use Rattle.gw_members.specs.declared.tx.Tx.{Tx}
use Rattle.gw_members.specs.declared.tx.Member.{Member}
use Rattle.gw_members.specs.declared.tx.Event.{Event}
use Rattle.gw_assemblies.specs.declared.assemblies.Assembly.{Assembly as HeldAssembly}
use Rattle.gw_transactions.specs.declared.Transaction.{Transaction}
use Rattle.gw_transactions.specs.Transactions.{LiveTransaction, Population, put_attributes, put_parameter, Holds, IsSound}
use Rattle.gw_num.proofs.Tables.{at-put, set-put, at-get_or_any, at-map}
use Rattle.gw_transactions.proofs.Populations.{transaction_of}
use Rattle.gw_machine.specs.Configuration.{Configuration}
use Rattle.gw_step.specs.State.{FutureEvent, Assembly, priority_of, with_one_more_at, delay_list, user_chain}
use Rattle.gw_step.specs.Residence.{ResidesOnce, occurrences}
use Rattle.gw_step.specs.Changes.{enter_next, assign_to, destroy, rests_until, arrives}
use Rattle.gw_machine.specs.View.{state_of, lists_of, event_of, handle_number, member_number, assembly_of}
use Rattle.gw_machine.specs.Coherence.{Linked, IsHeld, CanRest, Carries, Every, Others}
use Rattle.gw_step.proofs.Lists.{all_placed, map-placed, all_same, map-map}
use Rattle.gw_step.proofs.Residence.{resides-entered, resides-assigned, resides-destroyed, resides-rests, resides-arrives, alone}
use Rattle.gw_machine.proofs.Handles.{active_carried, members_carried, events_carried, assemblies_carried, handles_carried, every, others}
use Rattle.gw_machine.proofs.Handles.{carries-set, carries-assign, carries-same, carries-insert, carries-remove}

-- one more at a place, as the code writes it
pub raised_is : (counts : List ℕ) (place was : ℕ) → place < length counts → was ≡ get_or counts place was
    → slice_set counts place (was + 1) ≡ with_one_more_at place counts
raised_is counts place was within is =
    set-put 0 counts place (was + 1) within
    ∙ ap (λ n. put 0 counts place (n + 1)) (is ∙ sym (at-get_or_any 0 was counts place within))

-- the delay list of an entity, as the machine keeps it
pub delay_list-at : (m : Configuration) (e : ℕ) → delay_list e (state_of m) ≡ map member_number (at [] m.waits.lists e)
delay_list-at m e = at-map (map member_number) [] m.waits.lists e

-- and a user chain
pub user_chain-at : (m : Configuration) (c : ℕ) → user_chain c (state_of m) ≡ map handle_number (at [] m.chains.lists c)
user_chain-at m c = at-map (map handle_number) [] m.chains.lists c

-- the future events chain with one more member
pub events-in_time : (tx : Tx) (time : ℤ) (xs : List Event)
    → map event_of (in_time (λ (e : Event). e.time) (record { tx = tx; time = time }) xs)
    ≡ in_time (λ (e : FutureEvent). e.time) (record { time = time; number = tx.number }) (map event_of xs)
events-in_time tx time xs =
    map-placed event_of (λ (y : Event). int_le y.time time) (λ (y : FutureEvent). int_le y.time time) (record { tx = tx; time = time }) xs
    (all_same (λ (y : Event). int_le y.time time) xs)

-- what these changes leave as it was: who waits, who is on a user chain, the entities and the clock
pub record Keeps (m new : Configuration) : Type 0 where
  pub waits : new.waits ≡ m.waits
  pub assemblies : new.assemblies.items ≡ m.assemblies.items
  pub chains : new.chains ≡ m.chains
  pub entities : new.entities ≡ m.entities
  pub clock : new.clock ≡ m.clock

-- the members of a list by priority
abbrev number_of : Member → ℕ
number_of x = x.tx.number

-- each number on the lists of a machine, but for its future events chain, is one of these
record AreOf (these : ℕ → Type 0) (m : Configuration) : Type 0 where
  current_events : AllByRecursion (λ (x : Member). these x.tx.number) m.current_events.items
  delay_lists : (e : ℕ) → AllByRecursion (λ (x : Member). these x.tx.number) (at [] m.waits.lists e)
  retry : AllByRecursion (λ (x : Member). these x.tx.number) m.waits.retry
  assemblies : AllByRecursion (λ (x : HeldAssembly). these x.first.number) m.assemblies.items
  user_chains : (c : ℕ) → AllByRecursion (λ (x : Tx). these x.number) (at [] m.chains.lists c)

-- the members of a machine's lists after a change of its transactions that carries their handles
linked-of : (these : ℕ → Type 0) (m new : Configuration) → AreOf these m → Carries these m.transactions new.transactions
    → IsSound new.transactions → IfSome new.active (Holds new.transactions) → new.current_events.items ≡ m.current_events.items
    → AllByRecursion (IsHeld new.transactions) new.future_events.items → Keeps m new → ResidesOnce (state_of new) → Linked m → Linked new
linked-of these m new of c sound a cs fs k resides l =
    let p = m.transactions in
    let q = new.transactions in
    record {
      active = a;
      current_events = rw cs (members_carried these p q c m.current_events.items of.current_events l.current_events);
      future_events = fs;
      delay_lists = λ e below. rw k.waits (members_carried these p q c (at [] m.waits.lists e) (of.delay_lists e) (l.delay_lists e (rw k.entities at below)));
      retry = rw k.waits (members_carried these p q c m.waits.retry of.retry l.retry);
      assemblies = rw k.assemblies (assemblies_carried these p q c m.assemblies.items of.assemblies l.assemblies);
      user_chains = λ e below. rw k.chains (handles_carried these p q c (at [] m.chains.lists e) (of.user_chains e) (l.user_chains e (rw k.entities at below)));
      listed = rw (k.waits, k.entities) l.listed;
      chained = rw (k.chains, k.entities) l.chained;
      sound = sound;
      blocks = c.blocks l.blocks;
      resides = resides;
      timed = rw (k.entities, k.clock) l.timed;
    }

of-every : (m : Configuration) → AreOf Every m
of-every m = record {
  current_events = every number_of m.current_events.items;
  delay_lists = λ e. every number_of (at [] m.waits.lists e);
  retry = every number_of m.waits.retry;
  assemblies = every (λ (x : HeldAssembly). x.first.number) m.assemblies.items;
  user_chains = λ c. every handle_number (at [] m.chains.lists c);
}

-- every handle is carried, and the future events stay
pub linked-carried : (m new : Configuration) → Carries Every m.transactions new.transactions → IsSound new.transactions → new.active
    ≡ m.active → new.current_events.items ≡ m.current_events.items → new.future_events.items ≡ m.future_events.items → Keeps m new
    → ResidesOnce (state_of new) → Linked m → Linked new
linked-carried m new c sound a cs fs k resides l =
    linked-of Every m new (of-every m) c sound (rw a (active_carried m.transactions new.transactions c m.active l.active)) cs
    (rw fs (events_carried Every m.transactions new.transactions c m.future_events.items
    (every (λ (x : Event). x.tx.number) m.future_events.items) l.future_events)) k resides l

-- all handles but that of the active transaction, which resides on no list, are carried
pub linked-apart : (m new : Configuration) (n : ℕ) → (state_of m).lists.active ≡ Some n
    → Carries (Others n) m.transactions new.transactions → IsSound new.transactions → IfSome new.active (Holds new.transactions)
    → new.current_events.items ≡ m.current_events.items → new.future_events.items ≡ m.future_events.items → Keeps m new
    → ResidesOnce (state_of new) → Linked m → Linked new
linked-apart m new n active c sound a cs fs k resides l =
    let none = alone n (state_of m) active l.resides in
    let of : AreOf (Others n) m = record {
      current_events = others number_of n m.current_events.items none.current_events;
      delay_lists = λ e. others number_of n (at [] m.waits.lists e) (sym (ap (occurrences n) (delay_list-at m e)) ∙ none.delay_lists e);
      retry = others number_of n m.waits.retry none.retry;
      assemblies = others (λ (x : HeldAssembly). x.first.number) n m.assemblies.items
          (sym (ap (occurrences n) (map-map (λ (a : Assembly). a.number) assembly_of m.assemblies.items)) ∙ none.assemblies);
      user_chains = λ e. others handle_number n (at [] m.chains.lists e) (sym (ap (occurrences n) (user_chain-at m e)) ∙ none.user_chains e);
    } in
    linked-of (Others n) m new of c sound a cs
    (rw fs (events_carried (Others n) m.transactions new.transactions c m.future_events.items
    (others (λ (x : Event). x.tx.number) n m.future_events.items
    (sym (ap (occurrences n) (map-map (λ (e : FutureEvent). e.number) event_of m.future_events.items)) ∙ none.future_events)) l.future_events))
    k resides l

pub linked-entered : (m new : Configuration) (tx : Tx) (t : Transaction) (next : ℕ)
    → new.transactions.txs ≡ put_attributes tx.number (record t { current = t.next; next = next }) m.transactions.txs
    → new.transactions.places ≡ m.transactions.places → new.transactions.last ≡ m.transactions.last → IsSound new.transactions
    → new.active ≡ m.active → new.current_events.items ≡ m.current_events.items → new.future_events.items ≡ m.future_events.items → Keeps m new
    → state_of new ≡ enter_next tx.number t next (state_of m) → t.next ≤ 4096 → priority_of m.transactions.txs tx.number ≡ t.priority → Linked m → Linked new
linked-entered m new tx t next ts ps ls sound a cs fs k is block pr l =
    linked-carried m new (carries-set m.transactions new.transactions tx.number (record t { current = t.next; next = next }) ts ps block pr ls) sound a cs fs k
    (subst ResidesOnce (sym is) (resides-entered tx.number t next (state_of m) l.resides)) l

pub linked-assigned : (m new : Configuration) (tx : Tx) (k : ℕ) (value : ℤ)
    → new.transactions.txs ≡ put_parameter tx.number k value m.transactions.txs → new.transactions.places ≡ m.transactions.places
    → new.transactions.last ≡ m.transactions.last → IsSound new.transactions
    → new.active ≡ m.active → new.current_events.items ≡ m.current_events.items → new.future_events.items ≡ m.future_events.items → Keeps m new
    → state_of new ≡ assign_to tx.number k value (state_of m) → Linked m → Linked new
linked-assigned m new tx k value ts ps ls sound a cs fs keeps is l =
    linked-carried m new (carries-assign m.transactions new.transactions tx.number k value ts ps ls) sound a cs fs keeps
    (subst ResidesOnce (sym is) (resides-assigned tx.number k value (state_of m) l.resides)) l

pub linked-same : (m new : Configuration)
    → new.transactions.txs ≡ m.transactions.txs → new.transactions.places ≡ m.transactions.places → new.transactions.last
    ≡ m.transactions.last → IsSound new.transactions
    → new.active ≡ m.active → new.current_events.items ≡ m.current_events.items → new.future_events.items ≡ m.future_events.items → Keeps m new
    → state_of new ≡ state_of m → Linked m → Linked new
linked-same m new ts ps ls sound a cs fs keeps is l =
    linked-carried m new (carries-same m.transactions new.transactions ts ps ls) sound a cs fs keeps (subst ResidesOnce (sym is) l.resides) l

-- room for more transactions, and on the current events chain, leaves a machine as it was
pub linked-reserved : (m : Configuration) (q : Population) (cs : Chain Member) → q.txs ≡ m.transactions.txs → q.places
    ≡ m.transactions.places → q.last ≡ m.transactions.last → IsSound q → cs.items ≡ m.current_events.items → Linked m
    → Linked (record m { transactions = q; last = q.last; current_events = cs })
linked-reserved m q cs ts ps ls sound items l =
    linked-same m (record m { transactions = q; last = q.last; current_events = cs }) ts ps ls sound refl items refl
    (record { waits = refl; assemblies = refl; chains = refl; entities = refl; clock = refl })
    (ap (λ (xs : List (Option LiveTransaction)). record (state_of m)
    { transactions = xs; lists = record (lists_of m) { current_events = map member_number cs.items } }) ts
    ∙ ap (λ (xs : List Member). record (state_of m) { lists = record (lists_of m) { current_events = map member_number xs } }) items) l

pub linked-destroyed : (m new : Configuration) (tx : Tx)
    → new.transactions.txs ≡ put None m.transactions.txs tx.number None → new.transactions.places
    ≡ put None m.transactions.places tx.number None → new.transactions.last ≡ m.transactions.last → IsSound new.transactions
    → Linked m → CanRest m tx → new.active ≡ None → new.current_events.items ≡ m.current_events.items → new.future_events.items
    ≡ m.future_events.items → Keeps m new
    → state_of new ≡ destroy tx.number (state_of m) → Linked new
linked-destroyed m new tx ts ps ls sound l r a cs fs k is =
    let n = tx.number in
    let u = transaction_of m.transactions l.sound tx r.held in
    let active : (state_of m).lists.active ≡ Some n = ap (option_map (λ (x : Tx). x.number)) r.active in
    linked-apart m new n active (carries-remove m.transactions new.transactions n ts ps ls) sound (rw a tt) cs fs k
    (subst ResidesOnce (sym is) (resides-destroyed n u.0 (state_of m) active u.1 l.resides)) l

pub linked-rested : (m new : Configuration) (tx : Tx) (time : ℤ)
    → new.transactions ≡ m.transactions → Linked m → CanRest m tx → new.active ≡ None → new.current_events.items ≡ m.current_events.items
    → new.future_events.items ≡ in_time (λ (e : Event). e.time) (record { tx = tx; time = time }) m.future_events.items → Keeps m new
    → state_of new ≡ rests_until tx.number time (state_of m) → Linked new
linked-rested m new tx time ps l r a cs fs k is =
    let active : (state_of m).lists.active ≡ Some tx.number = ap (option_map (λ (x : Tx). x.number)) r.active in
    record {
      active = rw a tt;
      current_events = rw (ps, cs) l.current_events;
      future_events = rw (ps, fs)
          (all_placed (IsHeld m.transactions) (λ (y : Event). int_le y.time time) (record { tx = tx; time = time }) m.future_events.items
          r.held l.future_events);
      delay_lists = λ e below. rw (ps, k.waits) (l.delay_lists e (rw k.entities at below));
      retry = rw (ps, k.waits) l.retry;
      assemblies = rw (ps, k.assemblies) l.assemblies;
      user_chains = λ e below. rw (ps, k.chains) (l.user_chains e (rw k.entities at below));
      listed = rw (k.waits, k.entities) l.listed;
      chained = rw (k.chains, k.entities) l.chained;
      sound = rw ps l.sound;
      blocks = rw ps l.blocks;
      resides = subst ResidesOnce (sym is) (resides-rests tx.number time (state_of m) active l.resides);
      timed = rw (k.entities, k.clock) l.timed;
    }

pub linked-arrived : (m new : Configuration) (tx : Tx) (t : LiveTransaction) (b : ℕ) (priority time : ℤ)
    → new.transactions.txs ≡ put None m.transactions.txs (length m.transactions.txs) (Some t) → new.transactions.places
    ≡ put None m.transactions.places (length m.transactions.txs) (Some tx.place) → new.transactions.last ≡ m.transactions.last
    → tx.number ≡ length m.transactions.txs → IsSound new.transactions
    → new.active ≡ m.active → new.current_events.items ≡ m.current_events.items → new.future_events.items
    ≡ in_time (λ (e : Event). e.time) (record { tx = tx; time = time }) m.future_events.items → Keeps m new
    → state_of new ≡ arrives b priority time (state_of m) → t.attributes.current ≤ 4096 → Linked m → Linked new
linked-arrived m new tx t b priority time ts ps ls ns sound a cs fs k is block l =
    let p = m.transactions in
    let q = new.transactions in
    let c = carries-insert p q t tx.place l.sound block ts ps ls in
    let held : Holds q tx = ap (λ xs. at None xs tx.number) ps ∙ ap (λ k. at None (put None p.places k (Some tx.place)) tx.number) (sym ns)
    ∙ at-put None p.places tx.number (Some tx.place) in
    linked-of Every m new (of-every m) c sound (rw a (active_carried p q c m.active l.active)) cs
    (rw fs (all_placed (IsHeld q) (λ (y : Event). int_le y.time time) (record { tx = tx; time = time }) m.future_events.items held
    (events_carried Every p q c m.future_events.items (every (λ (x : Event). x.tx.number) m.future_events.items) l.future_events))) k
    (subst ResidesOnce (sym is) (resides-arrives b priority time (state_of m) l.resides)) l
