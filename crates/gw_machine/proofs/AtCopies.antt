-- What a copy of a transaction, and another priority of one that is on no chain, make of a machine.
use Rattle.std.proofs.Common.{◌≡◌, ℕ, suc, ◌≤◌, List, [], ◌∷◌, ◌++◌, map, length, replicate, Option, Some, None, option_map, refl, sym, ap, ◌∙◌, subst, arith}
use Rattle.std.specs.Prelude.{int_le}
use Rattle.std.specs.List.{AllByRecursion}
use Rattle.std.specs.Option.{option_map_or}
use Rattle.gw_num.specs.Table.{at, put}
use Rattle.gw_num.proofs.Tables.{at-put, at-put_past}
use Rattle.gw_members.specs.Chain.{behind}
use Rattle.gw_members.specs.declared.tx.Tx.{Tx}
use Rattle.gw_members.specs.declared.tx.Member.{Member}
use Rattle.gw_members.specs.declared.tx.Event.{Event}
use Rattle.gw_assemblies.specs.declared.assemblies.Assembly.{Assembly as HeldAssembly}
use Rattle.gw_transactions.specs.declared.Transaction.{Transaction}
use Rattle.gw_transactions.specs.Parameters.{no_parameters}
use Rattle.gw_transactions.specs.Transactions.{LiveTransaction, made_with, with_attributes, put_attributes, attributes_at, Population, Holds, IsSound}
use Rattle.gw_machine.specs.Configuration.{Configuration}
use Rattle.gw_step.specs.State.{State, priority_of, priority_in}
use Rattle.gw_step.specs.Times.{parameters_of}
use Rattle.gw_step.specs.Residence.{ResidesOnce}
use Rattle.gw_step.specs.Changes.{enter_next, with_copy, copy_to, copies_made}
use Rattle.gw_step.proofs.Attributes.{bearer_at, written_at}
use Rattle.gw_step.proofs.Lists.{all_placed, map-behind}
use Rattle.gw_step.proofs.Residence.{resides-entered, resides-copied}
use Rattle.gw_machine.specs.View.{state_of, lists_of, handle_number, member_number}
use Rattle.gw_machine.specs.Coherence.{Linked, IsRanked, Carries, Every}
use Rattle.gw_machine.proofs.Handles.{active_carried, members_carried, events_carried, assemblies_carried, handles_carried, every, carries-insert}
use Rattle.gw_machine.proofs.Handles.{carries-ranked}
use Rattle.gw_machine.proofs.Changes.{Keeps, linked-apart}
use Rattle.gw_machine.proofs.Due.{agree}

abbrev number_of : Member → ℕ
number_of x = x.tx.number

-- A COPY

module _ (m : Configuration) (l : Linked m) (n : ℕ) (t : Transaction) (block : t.current ≤ 4096) (target : ℕ) (tx : Tx) (q : Population)
    (ts : q.txs ≡ with_copy n t target (state_of m))
    (ps : q.places ≡ put None m.transactions.places (length m.transactions.txs) (Some tx.place)) (ls : q.last ≡ m.transactions.last)
    (ns : tx.number ≡ length m.transactions.txs)
    (cs : List Member) (joined : cs ≡ behind (λ (x : Member). x.priority) (record { tx = tx; priority = t.priority }) m.current_events.items) where
  abbrev newcomer : Member
  newcomer = record { tx = tx; priority = t.priority }

  abbrev made : LiveTransaction
  made = made_with (parameters_of n (state_of m)) (record t { next = target })

  carries : Carries Every m.transactions q
  carries = carries-insert m.transactions q made tx.place l.sound block ts ps ls

  newcomer-held : Holds q tx
  newcomer-held = ap (λ xs. at None xs tx.number) ps
      ∙ ap (λ k. at None (put None m.transactions.places k (Some tx.place)) tx.number) (sym ns) ∙ at-put None m.transactions.places tx.number (Some tx.place)

  newcomer-rank : priority_of q.txs tx.number ≡ t.priority
  newcomer-rank = ap (λ xs. priority_of xs tx.number) ts ∙ ap (priority_of (with_copy n t target (state_of m))) ns
      ∙ ap priority_in (at-put None m.transactions.txs (length m.transactions.txs) (Some made))

  carried : (xs : List Member) → AllByRecursion (IsRanked m.transactions) xs → AllByRecursion (IsRanked q) xs
  carried xs = members_carried Every m.transactions q carries xs (every number_of xs)

  pub state-copied : record (state_of m) { transactions = q.txs; lists = record (lists_of m) { current_events = map member_number cs } }
      ≡ copy_to n t target (state_of m)
  state-copied =
      ap (λ (ns : List ℕ). record (state_of m) { transactions = q.txs; lists = record (lists_of m) { current_events = ns } })
      (ap (map member_number) joined
      ∙ map-behind member_number (λ (x : Member). x.priority) (priority_of q.txs) newcomer m.current_events.items (sym newcomer-rank)
      (agree q m.current_events.items (carried m.current_events.items l.current_events))
      ∙ ap (λ k. behind (priority_of q.txs) k (map member_number m.current_events.items)) ns)
      ∙ ap (λ (xs : List (Option LiveTransaction)). record (state_of m) {
        transactions = xs;
        lists =
            record (lists_of m) { current_events = behind (priority_of xs) (length m.transactions.txs) (map member_number m.current_events.items) };
      }) ts

  pub linked-copied : (new : Configuration) → new.transactions ≡ q → IsSound q → new.active ≡ m.active → new.current_events.items ≡ cs
      → new.future_events.items ≡ m.future_events.items → Keeps m new → state_of new ≡ copy_to n t target (state_of m) → Linked new
  linked-copied new is_q sound a c fs k is =
      let p = m.transactions in
      record {
        active = rw (is_q, a) (active_carried p q carries m.active l.active);
        current_events = rw (is_q, c, joined)
            (all_placed (IsRanked q) (λ (y : Member). int_le t.priority y.priority) newcomer m.current_events.items
            (record { held = newcomer-held; rank = newcomer-rank }) (carried m.current_events.items l.current_events));
        future_events = rw (is_q, fs)
            (events_carried Every p q carries m.future_events.items (every (λ (x : Event). x.tx.number) m.future_events.items) l.future_events);
        delay_lists = λ e below. rw (is_q, k.waits) (carried (at [] m.waits.lists e) (l.delay_lists e (rw k.entities at below)));
        retry = rw (is_q, k.waits) (carried m.waits.retry l.retry);
        assemblies = rw (is_q, k.assemblies)
            (assemblies_carried Every p q carries m.assemblies.items (every (λ (x : HeldAssembly). x.first.number) m.assemblies.items) l.assemblies);
        user_chains = λ e below. rw (is_q, k.chains)
            (handles_carried Every p q carries (at [] m.chains.lists e) (every handle_number (at [] m.chains.lists e))
            (l.user_chains e (rw k.entities at below)));
        listed = rw (k.waits, k.entities) l.listed;
        chained = rw (k.chains, k.entities) l.chained;
        sound = rw is_q sound;
        blocks = rw is_q (carries.blocks l.blocks);
        resides = subst ResidesOnce (sym is) (resides-copied n t target (state_of m) l.resides);
        timed = rw (k.entities, k.clock) l.timed;
      }

-- the parameters of one that was there already
pub parameters-copied : (n : ℕ) (t : Transaction) (target : ℕ) (s : State) (u : LiveTransaction) → at None s.transactions n ≡ Some u
    → parameters_of n (copy_to n t target s) ≡ parameters_of n s
parameters-copied n t target s u there =
    ap (λ (o : Option LiveTransaction). option_map_or (λ (v : LiveTransaction). v.parameters) o no_parameters)
    (at-put_past s.transactions (length s.transactions) n (Some (made_with (parameters_of n s) (record t { next = target }))) u (omega arith) there ∙ sym there)

-- and of one that enters
pub parameters-entered : (n : ℕ) (t : Transaction) (next : ℕ) (s : State) → parameters_of n (enter_next n t next s) ≡ parameters_of n s
parameters-entered n t next s =
    ap (λ (o : Option LiveTransaction). option_map_or (λ (v : LiveTransaction). v.parameters) o no_parameters)
    (at-put None s.transactions n (option_map (with_attributes (record t { current = t.next; next = next })) (at None s.transactions n)))
    ∙ by_option (at None s.transactions n)
  where
    by_option : (o : Option LiveTransaction)
        → option_map_or (λ (v : LiveTransaction). v.parameters)
        (option_map (with_attributes (record t { current = t.next; next = next })) o) no_parameters
        ≡ option_map_or (λ (v : LiveTransaction). v.parameters) o no_parameters
    by_option None = refl
    by_option (Some u) = refl

-- one copy, and then the rest
pub copies-next : (k n : ℕ) (t : Transaction) (target : ℕ) (s : State) → copies_made (suc k) n t target s ≡ copies_made k n t target (copy_to n t target s)
unfolding copies_made
copies-next k n t target s = refl

pub copies-none : (n : ℕ) (t : Transaction) (target : ℕ) (s : State) → copies_made 0 n t target s ≡ s
unfolding copies_made
copies-none n t target s = refl

-- where all are the same, so are all but the last
pub popped-same : {X : Type 0} (front : List X) (last x : X) → front ++ last ∷ [] ≡ replicate (length (front ++ last ∷ [])) x → front
    ≡ replicate (length front) x
popped-same [] last x h = refl
popped-same (y ∷ ys) last x h =
    let first : y ≡ x = cc in
    let rest : ys ++ last ∷ [] ≡ replicate (length (ys ++ last ∷ [])) x = cc in
    ap (λ z. z ∷ ys) first ∙ ap (λ zs. x ∷ zs) (popped-same ys last x rest)

pub popped-length : {X : Type 0} (front : List X) (last : X) → length (front ++ last ∷ []) ≡ suc (length front)
popped-length [] last = refl
popped-length (y ∷ ys) last = ap suc (popped-length ys last)

-- ANOTHER PRIORITY

-- the active transaction, which is on no chain, enters with another priority
pub linked-ranked : (m new : Configuration) (tx : Tx) (t : Transaction) (next : ℕ)
    → new.transactions.txs ≡ put_attributes tx.number (record t { current = t.next; next = next }) m.transactions.txs
    → new.transactions.places ≡ m.transactions.places → new.transactions.last ≡ m.transactions.last → IsSound new.transactions
    → m.active ≡ Some tx → Holds m.transactions tx → new.active ≡ m.active → new.current_events.items ≡ m.current_events.items
    → new.future_events.items ≡ m.future_events.items → Keeps m new
    → state_of new ≡ enter_next tx.number t next (state_of m) → t.next ≤ 4096 → Linked m → Linked new
linked-ranked m new tx t next ts ps ls sound is_active held a cs fs k is block l =
    let n = tx.number in
    let p = m.transactions in
    let q = new.transactions in
    let active : (state_of m).lists.active ≡ Some n = ap (option_map (λ (x : Tx). x.number)) is_active in
    let c = carries-ranked p q n (record t { current = t.next; next = next }) ts ps block ls in
    let still : Holds q tx = ap (λ xs. at None xs n) ps ∙ held in
    linked-apart m new n active c sound (rw (a, is_active) still) cs fs k
    (subst ResidesOnce (sym is) (resides-entered n t next (state_of m) l.resides)) l

-- who has entered has the priority that it entered with
pub priority-ranked : (ts : List (Option LiveTransaction)) (n : ℕ) (was now : Transaction) → attributes_at n ts ≡ Some was
    → priority_of (put_attributes n now ts) n ≡ now.priority
priority-ranked ts n was now h = let u = bearer_at ts n was h in ap priority_in (written_at ts n now u.0 u.1)
