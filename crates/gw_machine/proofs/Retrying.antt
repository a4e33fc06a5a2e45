-- What resting on the retry list, and waking it, make of a machine.
use Rattle.std.proofs.Common.{◌≡◌, ℕ, ℤ, List, [], ◌∷◌, ◌++◌, map, None, false, option_map, sym, ap, ◌∙◌, subst}
use Rattle.gw_members.specs.Chain.{all_behind}
use Rattle.gw_chains.specs.Waiting.{Waiting}
use Rattle.gw_members.specs.declared.tx.Tx.{Tx}
use Rattle.gw_members.specs.declared.tx.Member.{Member}
use Rattle.gw_machine.specs.Configuration.{Configuration}
use Rattle.gw_step.specs.State.{priority_of}
use Rattle.gw_step.specs.Residence.{ResidesOnce}
use Rattle.gw_step.specs.Changes.{retries, wake}
use Rattle.gw_machine.specs.View.{state_of, lists_of, member_number}
use Rattle.gw_machine.specs.Coherence.{Linked, IsRanked, CanRest}
use Rattle.gw_step.proofs.Lists.{all_all_behind, map-all_behind}
use Rattle.gw_step.proofs.Residence.{resides-retries, resides-woken}
use Rattle.std.proofs.lemmas.List.{map-append}
use Rattle.gw_machine.proofs.Handles.{all_appended}
use Rattle.gw_machine.proofs.AtRest.{linked-lists}
use Rattle.gw_machine.proofs.Due.{agree}

module _ (m : Configuration) (tx : Tx) (priority : ℤ) where
  abbrev newcomer : Member
  newcomer = record { tx = tx; priority = priority }

  pub state-retries : (ws : Waiting) → ws.retry ≡ m.waits.retry ++ newcomer ∷ [] → ws.lists ≡ m.waits.lists
      → state_of (record m { active = None; waits = ws }) ≡ retries tx.number (state_of m)
  state-retries ws joined same =
      ap (λ (ns : List ℕ). record (state_of m) { lists = record (lists_of (record m { active = None; waits = ws })) { retry = ns } })
      (ap (map member_number) joined ∙ map-append member_number m.waits.retry (newcomer ∷ []))
      ∙ ap (λ (xs : List (List Member)). record (state_of m) {
        lists = record (lists_of m)
            { active = None; delay_lists = map (map member_number) xs; retry = map member_number m.waits.retry ++ tx.number ∷ [] };
      }) same

  pub linked-retries : Linked m → CanRest m tx → priority_of m.transactions.txs tx.number ≡ priority → (ws : Waiting) → ws.retry
      ≡ m.waits.retry ++ newcomer ∷ [] → ws.lists ≡ m.waits.lists
      → (new : Configuration) → new.transactions ≡ m.transactions → new.active ≡ None → new.current_events ≡ m.current_events
      → new.future_events ≡ m.future_events → new.waits ≡ ws → new.assemblies ≡ m.assemblies → new.chains ≡ m.chains
      → new.entities ≡ m.entities → new.clock ≡ m.clock → state_of new ≡ retries tx.number (state_of m) → Linked new
  linked-retries l r rank ws joined same new ts a cs fs w assemblies chs entities clock is =
      linked-lists m new ts (rw a tt) (rw cs l.current_events) fs (rw w same)
      (rw (w, joined) (all_appended (IsRanked m.transactions) m.waits.retry newcomer l.retry (record { held = r.held; rank = rank })))
      (rw assemblies l.assemblies) chs entities clock
      (subst ResidesOnce (sym is) (resides-retries tx.number (state_of m) (ap (option_map (λ (x : Tx). x.number)) r.active) l.resides)) l

module _ (m : Configuration) (l : Linked m) (cs : List Member) (ws : Waiting)
    (joined : cs ≡ all_behind (λ (x : Member). x.priority) m.waits.retry m.current_events.items) (none : ws.retry ≡ []) (same : ws.lists ≡ m.waits.lists) where
  numbers-woken : map member_number cs
      ≡ all_behind (priority_of m.transactions.txs) (map member_number m.waits.retry) (map member_number m.current_events.items)
  numbers-woken =
      ap (map member_number) joined
      ∙ map-all_behind member_number (λ (x : Member). x.priority) (priority_of m.transactions.txs) m.waits.retry m.current_events.items
      (agree m.transactions m.waits.retry l.retry) (agree m.transactions m.current_events.items l.current_events)

  pub state-woken : record (state_of m) {
    stir = false;
    lists = record (lists_of m)
        { current_events = map member_number cs; delay_lists = map (map member_number) ws.lists; retry = map member_number ws.retry };
  } ≡ wake (state_of m)
  state-woken =
      ap (λ (ns : List ℕ). record (state_of m) {
        stir = false;
        lists = record (lists_of m)
            { current_events = ns; delay_lists = map (map member_number) ws.lists; retry = map member_number ws.retry };
      }) numbers-woken
      ∙ ap (λ (xs : List (List Member)). record (wake (state_of m))
      { lists = record (wake (state_of m)).lists { delay_lists = map (map member_number) xs; retry = map member_number ws.retry } }) same
      ∙ ap (λ (xs : List Member). record (wake (state_of m)) { lists = record (wake (state_of m)).lists { retry = map member_number xs } }) none

  pub linked-woken : (new : Configuration) → new.transactions ≡ m.transactions → new.active ≡ m.active → new.current_events.items ≡ cs
      → new.future_events ≡ m.future_events → new.waits ≡ ws → new.assemblies ≡ m.assemblies → new.chains ≡ m.chains
      → new.entities ≡ m.entities → new.clock ≡ m.clock → state_of new ≡ wake (state_of m) → Linked new
  linked-woken new ts a c fs w assemblies chs entities clock is =
      linked-lists m new ts (rw a l.active)
      (rw (c, joined) (all_all_behind (IsRanked m.transactions) (λ (x : Member). x.priority) m.waits.retry m.current_events.items l.retry l.current_events))
      fs (rw w same) (rw (w, none) tt) (rw assemblies l.assemblies) chs entities clock
      (subst ResidesOnce (sym is) (resides-woken (state_of m) l.resides)) l
