-- What resting on the current events chain, and waiting for an assembly set, make of a machine; and how many are on the retry list.
use Rattle.std.proofs.Common.{Some, ◌⊎◌, inl, inr, ◌≡◌, ℕ, zero, suc, ◌+◌, ◌^◌, ◌≤◌, ℤ, List, [], ◌∷◌, ◌++◌, map, length, None, IfSome, is_some}
use Rattle.std.proofs.Common.{option_map, refl, sym, ap, ◌∙◌, subst, arith}
use Rattle.std.specs.Prelude.{Bool}
use Rattle.std.specs.List.{AllByRecursion}
use Rattle.std.proofs.lemmas.Bool.{cases_eq, eq-eqb, ne_eqb}
use Rattle.std.proofs.lemmas.List.{length-map}
use Rattle.gw_num.specs.Table.{at}
use Rattle.gw_num.proofs.Tables.{at_past}
use Rattle.gw_members.specs.Chain.{placed_behind}
use Rattle.gw_members.specs.declared.tx.Tx.{Tx}
use Rattle.gw_members.specs.declared.tx.Member.{Member}
use Rattle.gw_assemblies.specs.declared.assemblies.Assembly.{Assembly as HeldAssembly}
use Rattle.gw_chains.specs.Waiting.{Waiting}
use Rattle.gw_machine.specs.Configuration.{Configuration}
use Rattle.gw_step.specs.declared.placement.Assembling.{Assembling}
use Rattle.gw_step.specs.State.{State, Assembly, FutureEvent, priority_of, without, delay_list}
use Rattle.gw_step.specs.Residence.{ResidesOnce, occurrences, occurrences_in}
use Rattle.gw_step.specs.Changes.{awaits_set, numbers}
use Rattle.gw_machine.specs.View.{state_of, lists_of, event_of, member_number, assembly_of}
use Rattle.gw_machine.specs.Coherence.{Linked, IsRanked, IsHeldBy, CanRest}
use Rattle.gw_step.proofs.Lists.{all_placed, all_map, map-placed}
use Rattle.gw_step.proofs.Residence.{one_if, at_most_one, same_number, other_number, occurrences-without, resides-awaits, occurrences-one}
use Rattle.gw_transactions.specs.Transactions.{Holds}
use Rattle.gw_machine.proofs.Handles.{all_appended}
use Rattle.std.proofs.lemmas.List.{map-append}
use Rattle.gw_machine.proofs.Due.{agree}

-- OTHER MEMBERS

-- other members of the current events chain and of the retry list, and other assemblies, each of whose handles is held
pub linked-lists : (m new : Configuration) → new.transactions ≡ m.transactions → IfSome new.active (Holds m.transactions)
    → AllByRecursion (IsRanked m.transactions) new.current_events.items → new.future_events ≡ m.future_events → new.waits.lists
    ≡ m.waits.lists → AllByRecursion (IsRanked m.transactions) new.waits.retry
    → AllByRecursion (IsHeldBy m.transactions) new.assemblies.items → new.chains ≡ m.chains → new.entities ≡ m.entities → new.clock
    ≡ m.clock → ResidesOnce (state_of new) → Linked m → Linked new
linked-lists m new ts a cs fs ws retry sets chs entities clock resides l = record {
  active = rw ts a;
  current_events = rw ts cs;
  future_events = rw (ts, fs) l.future_events;
  delay_lists = λ e below. rw (ts, ws) (l.delay_lists e (rw entities at below));
  retry = rw ts retry;
  assemblies = rw ts sets;
  user_chains = λ c below. rw (ts, chs) (l.user_chains c (rw entities at below));
  listed = rw (ws, entities) l.listed;
  chained = rw (chs, entities) l.chained;
  sound = rw ts l.sound;
  blocks = rw ts l.blocks;
  resides = resides;
  timed = rw (entities, clock) l.timed;
}

-- the delay lists and the retry list stay
pub linked-members : (m new : Configuration) → new.transactions ≡ m.transactions → IfSome new.active (Holds m.transactions)
    → AllByRecursion (IsRanked m.transactions) new.current_events.items → new.future_events ≡ m.future_events → new.waits ≡ m.waits
    → AllByRecursion (IsHeldBy m.transactions) new.assemblies.items → new.chains ≡ m.chains
    → new.entities ≡ m.entities → new.clock ≡ m.clock → ResidesOnce (state_of new) → Linked m → Linked new
linked-members m new ts a cs fs w sets chs entities clock resides l =
    linked-lists m new ts a cs fs (ap (λ (ws : Waiting). ws.lists) w) (rw w l.retry) sets chs entities clock resides l

-- THE CURRENT EVENTS CHAIN

module _ (m : Configuration) (tx : Tx) (priority : ℤ) (l : Linked m) (r : CanRest m tx)
    (rank : priority_of m.transactions.txs tx.number ≡ priority) (passes : ℤ → ℤ → Bool) (cs : List Member)
    (given : ℤ) (same : given ≡ priority)
    (placed : cs ≡ placed_behind (λ (y : Member). passes given y.priority) (record { tx = tx; priority = given }) m.current_events.items) where
  abbrev rank_of : ℕ → ℤ
  rank_of = priority_of m.transactions.txs

  abbrev newcomer : Member
  newcomer = record { tx = tx; priority = priority }

  joined : cs ≡ placed_behind (λ (y : Member). passes priority y.priority) newcomer m.current_events.items
  joined = subst (λ k. cs ≡ placed_behind (λ (y : Member). passes k y.priority) (record { tx = tx; priority = k }) m.current_events.items) same placed

  -- the members' priorities are those of their numbers
  same_places : AllByRecursion (λ (y : Member). passes priority y.priority ≡ passes (rank_of tx.number) (rank_of (member_number y))) m.current_events.items
  same_places = all_map (λ y. y.priority ≡ rank_of (member_number y))
      (λ y. passes priority y.priority ≡ passes (rank_of tx.number) (rank_of (member_number y))) m.current_events.items
      (λ y h. rw (rank, h) refl) (agree m.transactions m.current_events.items l.current_events)

  -- who was active rests at its place
  abbrev rests_there : State
  rests_there = record (state_of m) {
    lists = record (lists_of m)
        { active = None; current_events = placed_behind (λ k. passes (rank_of tx.number) (rank_of k)) tx.number (lists_of m).current_events };
  }

  pub state-joined : record (state_of m) { lists = record (lists_of m) { active = None; current_events = map member_number cs } } ≡ rests_there
  state-joined =
      ap (λ (ns : List ℕ). record (state_of m) { lists = record (lists_of m) { active = None; current_events = ns } })
      (ap (map member_number) joined
      ∙ map-placed member_number (λ (y : Member). passes priority y.priority) (λ k. passes (rank_of tx.number) (rank_of k)) newcomer
      m.current_events.items same_places)

  pub linked-joined : (new : Configuration) → new.transactions ≡ m.transactions → new.active ≡ None → new.current_events.items ≡ cs
      → new.future_events ≡ m.future_events → new.waits ≡ m.waits → new.assemblies ≡ m.assemblies → new.chains ≡ m.chains
      → new.entities ≡ m.entities → new.clock ≡ m.clock → state_of new ≡ rests_there
      → ((state_of m).lists.active ≡ Some tx.number → ResidesOnce (state_of m) → ResidesOnce rests_there) → Linked new
  linked-joined new ts a c fs w sets chs entities clock is resides =
      linked-members m new ts (rw a tt)
      (rw (c, joined) (all_placed (IsRanked m.transactions) (λ (y : Member). passes priority y.priority) newcomer m.current_events.items
      (record { held = r.held; rank = rank }) l.current_events))
      fs w (rw sets l.assemblies) chs entities clock
      (subst ResidesOnce (sym is) (resides (ap (option_map (λ (x : Tx). x.number)) r.active) l.resides)) l

-- ASSEMBLIES

module _ (m : Configuration) (tx : Tx) (a : Assembling) (l : Linked m) (r : CanRest m tx) (sets : List HeldAssembly)
    (begun : sets ≡ m.assemblies.items ++ record { block = a.block; set = a.set; first = tx; missing = a.missing } ∷ []) where
  abbrev first : HeldAssembly
  first = record { block = a.block; set = a.set; first = tx; missing = a.missing }

  pub state-awaits : record (state_of m) { lists = record (lists_of m) { active = None; assemblies = map assembly_of sets } }
      ≡ awaits_set tx.number a (state_of m)
  state-awaits =
      ap (λ (xs : List Assembly). record (state_of m) { lists = record (lists_of m) { active = None; assemblies = xs } })
      (ap (map assembly_of) begun ∙ map-append assembly_of m.assemblies.items (first ∷ []))

  pub linked-awaits : (new : Configuration) → new.transactions ≡ m.transactions → new.active ≡ None → new.current_events ≡ m.current_events
      → new.future_events ≡ m.future_events → new.waits ≡ m.waits → new.assemblies.items ≡ sets → new.chains ≡ m.chains
      → new.entities ≡ m.entities → new.clock ≡ m.clock → state_of new ≡ awaits_set tx.number a (state_of m) → Linked new
  linked-awaits new ts none cs fs w is_sets chs entities clock is =
      linked-members m new ts (rw none tt) (rw cs l.current_events) fs w
      (rw (is_sets, begun) (all_appended (IsHeldBy m.transactions) m.assemblies.items first l.assemblies r.held)) chs entities clock
      (subst ResidesOnce (sym is) (resides-awaits tx.number a (state_of m) (ap (option_map (λ (x : Tx). x.number)) r.active) l.resides)) l

-- HOW MANY

length-without : (n : ℕ) (xs : List ℕ) → 1 ≤ occurrences n xs → length (without n xs) + 1 ≡ length xs
length-without n [] h = absurd (omega (arith, h))
length-without n (x ∷ xs) h =
    elim (cases_eq x n) [
      | inl e ↦ let same : without n (x ∷ xs) ≡ xs = rw (eq-eqb x n e) refl in rw same (omega arith)
      | inr e ↦
          let other : without n (x ∷ xs) ≡ x ∷ without n xs = rw (ne_eqb x n e) refl in
          let rest = length-without n xs (omega (arith, h, other_number x n e)) in
          rw other (omega (arith, rest))
    ]

none-or-some : (k : ℕ) → (k ≡ 0) ⊎ (1 ≤ k)
none-or-some zero = inl refl
none-or-some (suc k) = inr (omega arith)

-- different numbers below a bound are no more than the bound
as_few : (k : ℕ) (xs : List ℕ) → ((n : ℕ) → occurrences n xs ≤ 1) → ((n : ℕ) → k ≤ n → occurrences n xs ≡ 0) → length xs ≤ k
as_few zero [] once below = omega arith
as_few zero (x ∷ xs) once below = absurd (omega (arith, below x (omega arith), same_number x x refl))
as_few (suc k) xs once below =
    elim (none-or-some (occurrences k xs)) [
      | inl none ↦
          let rest = as_few k xs once (λ n from. elim (cases_eq n k) [
            | inl e ↦ ap (λ j. occurrences j xs) e ∙ none
            | inr e ↦ below n (omega (arith, from, e))
          ]) in
          omega (arith, rest)
      | inr some ↦
          let left = λ (n : ℕ). occurrences-without n k xs some in
          let rest = as_few k (without k xs) (λ n. omega (arith, left n, once n)) (λ n from. elim (cases_eq n k) [
            | inl e ↦ omega (arith, left n, once n, same_number k n (sym e))
            | inr e ↦ omega (arith, left n, below n (omega (arith, from, e)))
          ]) in
          omega (arith, rest, length-without k xs some)
    ]

-- numbers that reside in some list of a machine are no more than were ever made
few-in : (m : Configuration) → Linked m → (ns : List ℕ) → ((n : ℕ) → occurrences n ns ≤ occurrences_in (state_of m).lists n) → length ns ≤ 2 ^ 62
few-in m l ns within =
    let each : (n : ℕ) → occurrences n ns ≤ one_if (is_some (at None m.transactions.txs n)) =
    λ n. (let all : occurrences_in (state_of m).lists n ≡ one_if (is_some (at None m.transactions.txs n)) = l.resides n in omega (arith, all, within n)) in
    let few = as_few (length m.transactions.txs) ns
    (λ n. omega (arith, each n, at_most_one (is_some (at None m.transactions.txs n))))
    (λ n from. let none : one_if (is_some (at None m.transactions.txs n)) ≡ 0 =
    ap (λ o. one_if (is_some o)) (at_past None m.transactions.txs n from) in omega (arith, each n, none)) in
    omega (arith, few, l.sound.few)

-- so are those on the retry list
pub few-retry : (m : Configuration) → Linked m → length m.waits.retry ≤ 2 ^ 62
few-retry m l = omega (arith, few-in m l (map member_number m.waits.retry) (λ n. omega arith), length-map m.waits.retry member_number)

-- and those on the future events chain
pub few-events : (m : Configuration) → Linked m → length m.future_events.items ≤ 2 ^ 62
few-events m l =
    let events = length-map (map event_of m.future_events.items) (λ (e : FutureEvent). e.number) ∙ length-map m.future_events.items event_of in
    omega (arith, few-in m l (numbers (lists_of m).future_events) (λ n. omega arith), events)

-- and those on one delay list
pub few-waits : (m : Configuration) → Linked m → (e : ℕ) → length (delay_list e (state_of m)) ≤ 2 ^ 62
few-waits m l e = few-in m l (delay_list e (state_of m)) (λ n. omega (arith, occurrences-one n (lists_of m).delay_lists e))
