-- The clock goes to a time, and all that are due join the current events chain.
use Rattle.std.proofs.Common.{◌≡◌, ℕ, ℤ, ◌-ℤ◌, List, [], ◌∷◌, map, length, refl, sym, ap, ◌∙◌, subst}
use Rattle.std.specs.Prelude.{unsigned_abs}
use Rattle.std.specs.List.{AllByRecursion}
use Rattle.gw_members.specs.Chain.{all_behind, due, later}
use Rattle.gw_members.specs.declared.tx.Member.{Member}
use Rattle.gw_members.specs.declared.tx.Event.{Event}
use Rattle.gw_transactions.specs.Transactions.{Population}
use Rattle.gw_machine.specs.Configuration.{Configuration}
use Rattle.gw_machine.specs.EntityTables.{AreTimed, states_of}
use Rattle.gw_step.specs.State.{FutureEvent, EntityStates, priority_of}
use Rattle.gw_step.specs.Residence.{ResidesOnce}
use Rattle.gw_step.specs.Changes.{time_passes, clock_moves, numbers}
use Rattle.gw_machine.specs.View.{state_of, lists_of, event_of, member_number}
use Rattle.gw_machine.specs.Coherence.{Linked, IsRanked, IsHeld, as_members}
use Rattle.gw_step.proofs.Lists.{all_map, all_due, all_later, all_all_behind, map-all_behind, map-due, map-later, map-map}
use Rattle.gw_step.proofs.Residence.{resides-clock}

priority : Member → ℤ
priority m = m.priority

module _ (p : Population) where
  all_ranked : (es : List Event) → AllByRecursion (IsHeld p) es → AllByRecursion (IsRanked p) (as_members p es)
  all_ranked [] h = tt
  all_ranked (e ∷ es) h = (record { held = h.0; rank = refl }, all_ranked es h.1)

  numbers-ranked : (es : List Event) → map member_number (as_members p es) ≡ map (λ (e : Event). e.tx.number) es
  numbers-ranked [] = refl
  numbers-ranked (e ∷ es) = ap (λ ns. e.tx.number ∷ ns) (numbers-ranked es)

  pub agree : (xs : List Member) → AllByRecursion (IsRanked p) xs → AllByRecursion (λ (m : Member). m.priority ≡ priority_of p.txs (member_number m)) xs
  agree xs h = all_map (IsRanked p) (λ (m : Member). m.priority ≡ priority_of p.txs (member_number m)) xs (λ x r. sym r.rank) h

  numbers-due : (time : ℤ) (es : List Event) → map (λ (e : Event). e.tx.number) (due (λ (e : Event). e.time) time es)
      ≡ numbers (due (λ (e : FutureEvent). e.time) time (map event_of es))
  numbers-due time es =
      sym (map-map (λ (e : FutureEvent). e.number) event_of (due (λ (e : Event). e.time) time es))
      ∙ ap numbers (map-due event_of (λ (e : Event). e.time) (λ (e : FutureEvent). e.time) time es (λ x. refl))

  pub numbers-joined : (time : ℤ) (es : List Event) (cec : List Member) → AllByRecursion (IsHeld p) es → AllByRecursion (IsRanked p) cec
      → map member_number (all_behind (λ (m : Member). m.priority) (as_members p (due (λ (e : Event). e.time) time es)) cec)
      ≡ all_behind (priority_of p.txs) (numbers (due (λ (e : FutureEvent). e.time) time (map event_of es))) (map member_number cec)
  numbers-joined time es cec held rank =
      let soon = due (λ (e : Event). e.time) time es in
      map-all_behind member_number (λ (m : Member). m.priority) (priority_of p.txs) (as_members p soon) cec
      (agree (as_members p soon) (all_ranked soon (all_due (IsHeld p) (λ (e : Event). e.time) time es held))) (agree cec rank)
      ∙ ap (λ ns. all_behind (priority_of p.txs) ns (map member_number cec)) (numbers-ranked soon ∙ numbers-due time es)

  pub ranked-joined : (time : ℤ) (es : List Event) (cec : List Member) → AllByRecursion (IsHeld p) es → AllByRecursion (IsRanked p) cec
      → AllByRecursion (IsRanked p) (all_behind (λ (m : Member). m.priority) (as_members p (due (λ (e : Event). e.time) time es)) cec)
  ranked-joined time es cec held rank =
      let soon = due (λ (e : Event). e.time) time es in
      all_all_behind (IsRanked p) (λ (m : Member). m.priority) (as_members p soon) cec
      (all_ranked soon (all_due (IsHeld p) (λ (e : Event). e.time) time es held)) rank

module _ (m : Configuration) (time : ℤ) (cs : List Member) (fs : List Event) (g : EntityStates) (l : Linked m)
    (joined : cs ≡ all_behind (λ (x : Member). x.priority)
    (as_members m.transactions (due (λ (e : Event). e.time) time m.future_events.items)) m.current_events.items)
    (left : fs ≡ later (λ (e : Event). e.time) time m.future_events.items)
    (passed : g ≡ time_passes (unsigned_abs (time -ℤ m.clock)) (states_of m.entities)) where
  pub state-moved : record (state_of m) {
    clock = time;
    entities = g;
    lists =
        record (lists_of m) { current_events = map member_number cs; future_events = map event_of fs };
  } ≡ clock_moves time (state_of m)
  state-moved =
      ap (λ (ns : List ℕ). record (state_of m)
      { clock = time; entities = g; lists = record (lists_of m) { current_events = ns; future_events = map event_of fs } })
      (ap (map member_number) joined ∙ numbers-joined m.transactions time m.future_events.items m.current_events.items l.future_events l.current_events)
      ∙ ap (λ (es : List FutureEvent). record (clock_moves time (state_of m))
      { entities = g; lists = record (clock_moves time (state_of m)).lists { future_events = es } })
      (ap (map event_of) left ∙ map-later event_of (λ (e : Event). e.time) (λ (e : FutureEvent). e.time) time m.future_events.items (λ x. refl))
      ∙ ap (λ (h : EntityStates). record (clock_moves time (state_of m)) { entities = h }) passed

  pub linked-moved : (new : Configuration) → new.transactions ≡ m.transactions → new.active ≡ m.active → new.current_events.items ≡ cs
      → new.future_events.items ≡ fs → new.waits ≡ m.waits → new.assemblies ≡ m.assemblies → new.chains ≡ m.chains
      → length new.entities.facilities.values ≡ length m.entities.facilities.values → AreTimed new.entities new.clock → state_of new
      ≡ clock_moves time (state_of m) → Linked new
  linked-moved new ts a c f ws assemblies chs count timed is = record {
    active = rw (ts, a) l.active;
    current_events = rw (ts, c, joined) (ranked-joined m.transactions time m.future_events.items m.current_events.items l.future_events l.current_events);
    future_events = rw (ts, f, left) (all_later (IsHeld m.transactions) (λ (e : Event). e.time) time m.future_events.items l.future_events);
    delay_lists = λ e below. rw (ts, ws) (l.delay_lists e (rw count at below));
    retry = rw (ts, ws) l.retry;
    assemblies = rw (ts, assemblies) l.assemblies;
    user_chains = λ k below. rw (ts, chs) (l.user_chains k (rw count at below));
    chained = rw (chs, count) l.chained;
    blocks = rw ts l.blocks;
    listed = rw (ws, count) l.listed;
    sound = rw ts l.sound;
    resides = subst ResidesOnce (sym is) (resides-clock time (state_of m) l.resides);
    timed = timed;
  }
