-- What joining a user chain, and leaving one, make of a machine.
use Rattle.std.proofs.Common.{◌≡◌, ℕ, suc, ◌≤◌, ◌<◌, List, [], ◌∷◌, ◌++◌, map, length, Option, Some, None, IfSome, option_map, refl, sym, ap, ◌∙◌, subst}
use Rattle.std.specs.Prelude.{int_le}
use Rattle.std.specs.List.{AllByRecursion}
use Rattle.std.specs.Option.{option_map_or}
use Rattle.gw_object.specs.declared.blocks.LinkOrder.{LinkOrder}
use Rattle.gw_object.specs.declared.blocks.LinkOrder.TheVariants.{Fifo, Lifo}
use Rattle.gw_object.specs.declared.blocks.Link.{Link}
use Rattle.gw_members.specs.Chain.{Chain, behind, first, rest}
use Rattle.gw_user_chains.specs.Linked as chain_lists
use Rattle.gw_members.specs.Lists.{apply_at}
use Rattle.gw_members.specs.declared.tx.Tx.{Tx}
use Rattle.gw_members.specs.declared.tx.Member.{Member}
use Rattle.gw_members.specs.declared.tx.Event.{Event}
use Rattle.gw_assemblies.specs.declared.assemblies.Assembly.{Assembly as HeldAssembly}
use Rattle.gw_num.specs.Table.{at, put}
use Rattle.gw_num.proofs.Tables.{put-at}
use Rattle.gw_transactions.specs.declared.Transaction.{Transaction}
use Rattle.gw_transactions.specs.Transactions.{LiveTransaction, Population, attributes_at, put_attributes, put_chain, Holds, IsSound, KeepsRest}
use Rattle.gw_machine.specs.Configuration.{Configuration}
use Rattle.gw_step.specs.State.{State, priority_of, user_chain}
use Rattle.gw_step.specs.Changes.{link_in, joins_chain, leaves_chain}
use Rattle.gw_step.specs.Blocks.{first_unlinked, unlink_members}
use Rattle.gw_step.specs.Residence.{ResidesOnce}
use Rattle.gw_step.proofs.Attributes.{bearer_at}
use Rattle.gw_step.proofs.Lists.{all_placed, map-behind}
use Rattle.gw_step.proofs.Residence.{resides-linked, resides-unlinked}
use Rattle.gw_machine.specs.View.{state_of, lists_of, handle_number, member_number}
use Rattle.gw_machine.specs.Coherence.{Linked, IsRanked, CanRest, Carries, Every}
use Rattle.gw_machine.proofs.Handles.{active_carried, members_carried, events_carried, assemblies_carried, handles_carried, every, current_in}
use Rattle.gw_machine.proofs.Handles.{carries-set, carries-chain, carries-then, all_appended}
use Rattle.gw_machine.proofs.Changes.{user_chain-at}
use Rattle.gw_machine.proofs.Due.{agree}
use Rattle.gw_machine.proofs.Waiters.{lists-put, all_changed, as_many}
use Rattle.gw_machine.proofs.AtSets.{priority-found}

-- WHAT IS KEPT

-- a machine with another active transaction, with transactions, a current events chain and user chains that are others
abbrev pub with_others : Configuration → Option Tx → Population → Chain Member → chain_lists.Linked → Configuration
with_others m active q cs us = record m { active = active; transactions = q; last = q.last; current_events = cs; chains = us }

-- where each handle of those is held, and the others are carried
linked-others : (m : Configuration) (active : Option Tx) (q : Population) (cs : Chain Member) (us : chain_lists.Linked) → Linked m
    → Carries Every m.transactions q → IsSound q → IfSome active (Holds q) → AllByRecursion (IsRanked q) cs.items
    → ((c : ℕ) → c < length m.entities.facilities.values → AllByRecursion (Holds q) (at [] us.lists c)) → length us.lists
    ≡ length m.chains.lists → ResidesOnce (state_of (with_others m active q cs us)) → Linked (with_others m active q cs us)
linked-others m active q cs us l c sound is_active ranked held as_many_chains resides =
    let p = m.transactions in
    let carried = λ (xs : List Member). members_carried Every p q c xs (every member_number xs) in
    record {
      active = is_active;
      current_events = ranked;
      future_events = events_carried Every p q c m.future_events.items (every (λ (x : Event). x.tx.number) m.future_events.items) l.future_events;
      delay_lists = λ e below. carried (at [] m.waits.lists e) (l.delay_lists e below);
      retry = carried m.waits.retry l.retry;
      assemblies = assemblies_carried Every p q c m.assemblies.items (every (λ (x : HeldAssembly). x.first.number) m.assemblies.items) l.assemblies;
      user_chains = held;
      listed = l.listed;
      chained = as_many_chains ∙ l.chained;
      sound = sound;
      blocks = c.blocks l.blocks;
      resides = resides;
      timed = l.timed;
    }

-- other rooms of the user chains leave a machine as it was
pub state-roomed : (m : Configuration) (us : chain_lists.Linked) → us.lists ≡ m.chains.lists → state_of (record m { chains = us }) ≡ state_of m
state-roomed m us lists = ap (λ (xs : List (List Tx)). record (state_of m) { lists = record (lists_of m) { user_chains = map (map handle_number) xs } }) lists

pub linked-roomed : (m : Configuration) → Linked m → (us : chain_lists.Linked) → us.lists ≡ m.chains.lists → Linked (record m { chains = us })
linked-roomed m l us lists = record {
  active = l.active;
  current_events = l.current_events;
  future_events = l.future_events;
  delay_lists = l.delay_lists;
  retry = l.retry;
  assemblies = l.assemblies;
  user_chains = λ c below. rw lists (l.user_chains c below);
  listed = l.listed;
  chained = rw lists l.chained;
  sound = l.sound;
  blocks = l.blocks;
  resides = subst ResidesOnce (sym (state-roomed m us lists)) l.resides;
  timed = l.timed;
}

-- JOINING

-- the members of a user chain, with one more at the end at which a LINK puts it
abbrev pub joined_at : LinkOrder → Tx → List Tx → List Tx
joined_at Fifo tx members = members ++ tx ∷ []
joined_at Lifo tx members = tx ∷ members

numbers-joined : (order : LinkOrder) (tx : Tx) (xs : List Tx) → map handle_number (joined_at order tx xs) ≡ link_in order tx.number (map handle_number xs)
numbers-joined Fifo tx [] = refl
numbers-joined Fifo tx (x ∷ xs) = ap (λ ns. handle_number x ∷ ns) (numbers-joined Fifo tx xs)
numbers-joined Lifo tx xs = refl

all-joined : (P : Tx → Type 0) (order : LinkOrder) (tx : Tx) (xs : List Tx) → P tx → AllByRecursion P xs → AllByRecursion P (joined_at order tx xs)
all-joined P Fifo tx xs p h = all_appended P xs tx h p
all-joined P Lifo tx xs p h = (p, h)

-- the active transaction joins a user chain
module _ (m : Configuration) (tx : Tx) (link : Link) (order : LinkOrder) (is : link.order ≡ order) (l : Linked m) (r : CanRest m tx)
    (there : link.chain < length m.entities.facilities.values)
    (q : Population) (ts : q.txs ≡ put_chain tx.number (Some link.chain) m.transactions.txs) (kept : KeepsRest m.transactions q)
    (us : chain_lists.Linked) (changes : us.lists ≡ apply_at link.chain (joined_at order tx) m.chains.lists) where
  state-joins : state_of (with_others m None q m.current_events us) ≡ joins_chain tx.number link (state_of m)
  state-joins =
      ap (λ (xs : List (Option LiveTransaction)). record (state_of m)
      { transactions = xs; lists = record (lists_of m) { active = None; user_chains = map (map handle_number) us.lists } }) ts
      ∙ ap (λ (ns : List (List ℕ)). record (state_of m)
      { transactions = put_chain tx.number (Some link.chain) m.transactions.txs; lists = record (lists_of m) { active = None; user_chains = ns } })
      (lists-put handle_number m.chains.lists us.lists link.chain (joined_at order tx) changes
      ∙ ap (put [] (map (map handle_number) m.chains.lists) link.chain)
      (numbers-joined order tx (at [] m.chains.lists link.chain)
      ∙ ap (λ o. link_in o tx.number (map handle_number (at [] m.chains.lists link.chain))) (sym is)
      ∙ ap (link_in link.order tx.number) (sym (user_chain-at m link.chain))))

  pub joins : (state_of (with_others m None q m.current_events us) ≡ joins_chain tx.number link (state_of m)) × (q.last ≡ m.transactions.last)
  joins = (state-joins, kept.last)

  pub linked-joins : Linked (with_others m None q m.current_events us)
  linked-joins =
      let p = m.transactions in
      let c = carries-chain p q tx.number (Some link.chain) ts kept.places kept.last in
      let carried = λ (xs : List Tx). handles_carried Every p q c xs (every handle_number xs) in
      linked-others m None q m.current_events us l c kept.sound tt
      (members_carried Every p q c m.current_events.items (every member_number m.current_events.items) l.current_events)
      (λ k below. all_changed (Holds q) m.chains.lists us.lists link.chain (joined_at order tx) changes
      (all-joined (Holds q) order tx (at [] m.chains.lists link.chain) (c.held tx tt r.held)
      (carried (at [] m.chains.lists link.chain) (l.user_chains link.chain there)))
      k (carried (at [] m.chains.lists k) (l.user_chains k below)))
      (as_many m.chains.lists us.lists link.chain (joined_at order tx) (rw l.chained there) changes)
      (subst ResidesOnce (sym state-joins) (resides-linked tx.number link (state_of m) (ap (option_map (λ (x : Tx). x.number)) r.active) l.resides))

-- LEAVING

numbers-rest : (xs : List Tx) → map handle_number (rest xs) ≡ rest (map handle_number xs)
numbers-rest [] = refl
numbers-rest (x ∷ xs) = refl

all-rest : (P : Tx → Type 0) (xs : List Tx) → AllByRecursion P xs → AllByRecursion P (rest xs)
all-rest P [] h = tt
all-rest P (x ∷ xs) h = h.1

first-of : (P : Tx → Type 0) (xs : List Tx) (tx : Tx) → first xs ≡ Some tx → AllByRecursion P xs → P tx
first-of P [] tx is h = absurd cc
first-of P (x ∷ xs) tx is h = let same : x ≡ tx = cc in subst P same h.0

pub begins-with : (xs : List Tx) (tx : Tx) → first xs ≡ Some tx → map handle_number xs ≡ tx.number ∷ map handle_number (rest xs)
begins-with [] tx is = absurd cc
begins-with (x ∷ xs) tx is = let same : x ≡ tx = cc in ap (λ (y : Tx). y.number ∷ map handle_number xs) same

none-first : (xs : List Tx) → first xs ≡ None → xs ≡ []
none-first [] is = refl
none-first (x ∷ xs) is = absurd cc

module _ (m : Configuration) (l : Linked m) (c target : ℕ) (there : c < length m.entities.facilities.values) where
  -- nobody is there to leave
  module _ (us : chain_lists.Linked) (changes : us.lists ≡ apply_at c rest m.chains.lists) (none : first (at [] m.chains.lists c) ≡ None) where
    pub lists-empty : us.lists ≡ m.chains.lists
    lists-empty =
        let empty = none-first (at [] m.chains.lists c) none in
        changes ∙ ap (put [] m.chains.lists c) (ap rest empty ∙ sym empty) ∙ put-at [] m.chains.lists c (rw l.chained there)

    pub state-empty : state_of (record m { chains = us }) ≡ first_unlinked c target (user_chain c (state_of m)) (state_of m)
    state-empty =
        state-roomed m us lists-empty
        ∙ sym (ap (λ ns. first_unlinked c target ns (state_of m)) (user_chain-at m c ∙ ap (map handle_number) (none-first (at [] m.chains.lists c) none)))

  -- the first leaves
  module _ (tx : Tx) (is : first (at [] m.chains.lists c) ≡ Some tx) where
    pub first-held : Holds m.transactions tx
    first-held = first-of (Holds m.transactions) (at [] m.chains.lists c) tx is (l.user_chains c there)

    first-number : user_chain c (state_of m) ≡ tx.number ∷ map handle_number (rest (at [] m.chains.lists c))
    first-number = user_chain-at m c ∙ begins-with (at [] m.chains.lists c) tx is

    module _ (t : Transaction) (found : attributes_at tx.number m.transactions.txs ≡ Some t) where
      pub first-block : t.current ≤ 4096
      first-block =
          let u = bearer_at m.transactions.txs tx.number t found in
          subst (λ (a : Transaction). a.current ≤ 4096) u.2 (current_in m.transactions.txs tx.number u.0 l.blocks u.1)

      module _ (p q : Population) (set : p.txs ≡ put_attributes tx.number (record t { next = target }) m.transactions.txs)
          (places : p.places ≡ m.transactions.places)
          (ts : q.txs ≡ put_chain tx.number None p.txs) (ps : q.places ≡ p.places) (pl : p.last ≡ m.transactions.last)
          (ls : q.last ≡ p.last) (sound : IsSound q)
          (cs : Chain Member) (joined : cs.items ≡ behind (λ (x : Member). x.priority) (record { tx = tx; priority = t.priority }) m.current_events.items)
          (us : chain_lists.Linked) (changes : us.lists ≡ apply_at c rest m.chains.lists) where
        abbrev leaver : Member
        leaver = record { tx = tx; priority = t.priority }

        rank : priority_of m.transactions.txs tx.number ≡ t.priority
        rank = priority-found m.transactions.txs tx.number t found

        state-leaves : state_of (with_others m m.active q cs us) ≡ leaves_chain c target tx.number t (state_of m)
        state-leaves =
            ap (λ (xs : List (Option LiveTransaction)). record (state_of m) {
              transactions = xs;
              lists =
                  record (lists_of m) { current_events = map member_number cs.items; user_chains = map (map handle_number) us.lists };
            })
            (ts ∙ ap (put_chain tx.number None) set)
            ∙ ap (λ (ns : List ℕ). record (leaves_chain c target tx.number t (state_of m))
            { lists = record (lists_of m) { current_events = ns; user_chains = map (map handle_number) us.lists } })
            (ap (map member_number) joined
            ∙ map-behind member_number (λ (x : Member). x.priority) (priority_of m.transactions.txs) leaver m.current_events.items
            (sym rank) (agree m.transactions m.current_events.items l.current_events))
            ∙ ap (λ (ns : List (List ℕ)). record (leaves_chain c target tx.number t (state_of m))
            { lists = record (leaves_chain c target tx.number t (state_of m)).lists { user_chains = ns } })
            (lists-put handle_number m.chains.lists us.lists c rest changes
            ∙ ap (put [] (map (map handle_number) m.chains.lists) c) (numbers-rest (at [] m.chains.lists c) ∙ ap rest (sym (user_chain-at m c))))

        pub state-unlinks : state_of (with_others m m.active q cs us) ≡ first_unlinked c target (user_chain c (state_of m)) (state_of m)
        state-unlinks =
            state-leaves
            ∙ sym (ap (λ ns. first_unlinked c target ns (state_of m)) first-number
            ∙ ap (λ o. option_map_or (λ u. leaves_chain c target tx.number u (state_of m)) o (state_of m)) found)

        pub linked-unlinks : Linked (with_others m m.active q cs us)
        linked-unlinks =
            let old = m.transactions in
            let k = carries-then old p q (carries-set old p tx.number (record t { next = target }) set places first-block rank pl)
            (carries-chain p q tx.number None ts ps ls) in
            let carried = λ (xs : List Tx). handles_carried Every old q k xs (every handle_number xs) in
            let members = members_carried Every old q k m.current_events.items (every member_number m.current_events.items) l.current_events in
            linked-others m m.active q cs us l k sound (active_carried old q k m.active l.active)
            (rw joined (all_placed (IsRanked q) (λ (y : Member). int_le t.priority y.priority) leaver m.current_events.items
            (record { held = k.held tx tt first-held; rank = k.rank tx tt first-held ∙ rank }) members))
            (λ j below. all_changed (Holds q) m.chains.lists us.lists c rest changes
            (all-rest (Holds q) (at [] m.chains.lists c) (carried (at [] m.chains.lists c) (l.user_chains c there)))
            j (carried (at [] m.chains.lists j) (l.user_chains j below)))
            (as_many m.chains.lists us.lists c rest (rw l.chained there) changes)
            (subst ResidesOnce (sym state-leaves)
            (resides-unlinked c target tx.number t (map handle_number (rest (at [] m.chains.lists c))) (state_of m) first-number l.resides))

-- one member, and then the rest
pub unlinked-next : (k c target : ℕ) (s : State) → unlink_members (suc k) c target s ≡ unlink_members k c target (first_unlinked c target (user_chain c s) s)
unfolding unlink_members
unlinked-next k c target s = refl

pub unlinked-none : (c target : ℕ) (s : State) → unlink_members 0 c target s ≡ s
unfolding unlink_members
unlinked-none c target s = refl
