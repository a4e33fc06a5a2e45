-- What waiting, and leaving a delay list, make of a machine.
use Rattle.std.proofs.Common.{◌≡◌, ◌≢◌, ℕ, zero, suc, ◌+◌, ◌≤◌, ◌<◌, ℤ, List, [], ◌∷◌, map, length, Option, Some, None, option_map, refl, sym, ap}
use Rattle.std.proofs.Common.{◌∙◌, subst, arith, inl, inr}
use Rattle.std.specs.Prelude.{int_le, slice_get, remove}
use Rattle.std.specs.List.{AllByRecursion}
use Rattle.std.proofs.lemmas.Bool.{cases_eq, eq-eqb, ne_eqb}
use Rattle.gw_members.specs.Chain.{behind}
use Rattle.gw_members.specs.Lists.{apply_at}
use Rattle.gw_chains.specs.Waiting.{Waiting}
use Rattle.gw_members.specs.declared.tx.Tx.{Tx}
use Rattle.gw_members.specs.declared.tx.Member.{Member}
use Rattle.gw_num.specs.Table.{at, put}
use Rattle.gw_num.proofs.Tables.{at-put, at-put_other, length-put, map-put}
use Rattle.gw_transactions.specs.Transactions.{Population, Holds}
use Rattle.gw_machine.specs.Configuration.{Configuration}
use Rattle.gw_step.specs.State.{priority_of, delay_list, without}
use Rattle.gw_step.specs.Changes.{waits_for, called_from}
use Rattle.gw_step.specs.Residence.{ResidesOnce, occurrences}
use Rattle.gw_machine.specs.View.{state_of, lists_of, member_number}
use Rattle.gw_machine.specs.Coherence.{Linked, IsRanked}
use Rattle.gw_step.proofs.Lists.{all_placed, map-behind}
use Rattle.gw_step.proofs.Residence.{same_number, waits-once, resides-waits, resides-called}
use Rattle.gw_machine.proofs.Changes.{delay_list-at}
use Rattle.gw_machine.proofs.Due.{agree}

-- LISTS OF SEVERAL ENTITIES

module _ {T : Type 0} where
  -- a change of one list
  pub lists-put : (number : T → ℕ) (old new : List (List T)) (e : ℕ) (f : List T → List T) → new ≡ apply_at e f old → map (map number) new
      ≡ put [] (map (map number) old) e (map number (f (at [] old e)))
  lists-put number old new e f changes = ap (map (map number)) changes ∙ map-put (map number) [] old e (f (at [] old e))

  -- what holds of the members of one list and of those of each other
  pub all_changed : (P : T → Type 0) (old new : List (List T)) (e : ℕ) (f : List T → List T) → new ≡ apply_at e f old
      → AllByRecursion P (f (at [] old e)) → (k : ℕ) → AllByRecursion P (at [] old k) → AllByRecursion P (at [] new k)
  all_changed P old new e f changes here k other =
      elim (cases_eq k e) [
        | inl same ↦ rw (changes, same, at-put [] old e (f (at [] old e))) here
        | inr apart ↦ rw (changes, at-put_other [] old e k (f (at [] old e)) apart) other
      ]

  -- there are as many lists
  pub as_many : (old new : List (List T)) (e : ℕ) (f : List T → List T) → e < length old → new ≡ apply_at e f old → length new ≡ length old
  as_many old new e f there changes = ap length changes ∙ length-put [] old e (f (at [] old e)) there

-- DELAY LISTS

all_without : (P : Member → Type 0) (xs : List Member) (i : ℕ) → AllByRecursion P xs → AllByRecursion P (remove xs i)
all_without P [] zero h = tt
all_without P [] (suc i) h = tt
all_without P (x ∷ xs) zero h = h.1
all_without P (x ∷ xs) (suc i) h = (h.0, all_without P xs i h.1)

-- who is at a place occurs in the list
pub occurs-at : (n : ℕ) (xs : List Member) (i : ℕ) → option_map member_number (slice_get xs i) ≡ Some n → 1 ≤ occurrences n (map member_number xs)
occurs-at n [] i h = absurd cc
occurs-at n (x ∷ xs) zero h = let is : member_number x ≡ n = cc in omega (arith, same_number (member_number x) n is)
occurs-at n (x ∷ xs) (suc i) h = omega (arith, occurs-at n xs i h)

-- who is at a place is held, with its priority
pub ranked-at : (p : Population) (tx : Tx) (xs : List Member) (i : ℕ) → AllByRecursion (IsRanked p) xs
    → option_map (λ (x : Member). x.tx) (slice_get xs i) ≡ Some tx → Holds p tx
ranked-at p tx [] i h at = absurd cc
ranked-at p tx (x ∷ xs) zero h at = let is : x.tx ≡ tx = cc in subst (Holds p) is h.0.held
ranked-at p tx (x ∷ xs) (suc i) h at = ranked-at p tx xs i h.1 at

pub length-remove : (xs : List Member) (i : ℕ) (tx : Tx) → option_map (λ (x : Member). x.tx) (slice_get xs i) ≡ Some tx → length (remove xs i) + 1 ≡ length xs
length-remove [] i tx at = absurd cc
length-remove (x ∷ xs) zero tx at = omega arith
length-remove (x ∷ xs) (suc i) tx at = omega (arith, length-remove xs i tx at)

pub changed-here : (e : ℕ) (f : List Member → List Member) (old new : List (List Member)) → new ≡ apply_at e f old → at [] new e ≡ f (at [] old e)
changed-here e f old new changes = ap (λ xs. at [] xs e) changes ∙ at-put [] old e (f (at [] old e))

-- who leaves from a place leaves the list
numbers-without : (n : ℕ) (xs : List Member) (i : ℕ) → option_map member_number (slice_get xs i) ≡ Some n
    → occurrences n (map member_number xs) ≤ 1 → map member_number (remove xs i) ≡ without n (map member_number xs)
numbers-without n [] i h once = absurd cc
numbers-without n (x ∷ xs) zero h once = let is : member_number x ≡ n = cc in rw (eq-eqb (member_number x) n is) refl
numbers-without n (x ∷ xs) (suc i) h once =
    let there = occurs-at n xs i h in
    let other : member_number x ≢ n = λ is. absurd (omega (arith, same_number (member_number x) n is, there, once)) in
    rw (ne_eqb (member_number x) n other) (ap (λ ns. member_number x ∷ ns) (numbers-without n xs i h (omega (arith, once))))

module _ (m : Configuration) (l : Linked m) (e : ℕ) (below : e < length m.entities.facilities.values) (tx : Tx) (priority : ℤ)
    (rank : priority_of m.transactions.txs tx.number ≡ priority) where
  abbrev newcomer : Member
  newcomer = record { tx = tx; priority = priority }

  joined-numbers : (xs : List Member) → AllByRecursion (IsRanked m.transactions) xs
      → map member_number (behind (λ (x : Member). x.priority) newcomer xs) ≡ behind (priority_of m.transactions.txs) tx.number (map member_number xs)
  joined-numbers xs h = map-behind member_number (λ (x : Member). x.priority) (priority_of m.transactions.txs) newcomer xs (sym rank)
      (agree m.transactions xs h)

  joined-ranked : (xs : List Member) → Holds m.transactions tx → AllByRecursion (IsRanked m.transactions) xs
      → AllByRecursion (IsRanked m.transactions) (behind (λ (x : Member). x.priority) newcomer xs)
  joined-ranked xs held h =
      all_placed (IsRanked m.transactions) (λ (y : Member). int_le priority y.priority) newcomer xs (record { held = held; rank = rank }) h

  -- the active transaction waits
  module _ (held : Holds m.transactions tx) (active : m.active ≡ Some tx) (ws : List (List Member)) (rs : List Member)
      (kept : rs ≡ m.waits.retry) (changes : ws ≡ apply_at e (behind (λ (x : Member). x.priority) newcomer) m.waits.lists) where
    pub state-waits : record (state_of m)
        { lists = record (lists_of m) { active = None; delay_lists = map (map member_number) ws; retry = map member_number rs } }
        ≡ waits_for e tx.number (state_of m)
    state-waits =
        ap (λ (xs : List Member). record (state_of m)
        { lists = record (lists_of m) { active = None; delay_lists = map (map member_number) ws; retry = map member_number xs } }) kept
        ∙ ap (λ (ds : List (List ℕ)). record (state_of m) { lists = record (lists_of m) { active = None; delay_lists = ds } })
        (lists-put member_number m.waits.lists ws e (behind (λ (x : Member). x.priority) newcomer) changes
        ∙ ap (put [] (map (map member_number) m.waits.lists) e)
        (joined-numbers (at [] m.waits.lists e) (l.delay_lists e below) ∙ ap (behind (priority_of m.transactions.txs) tx.number) (sym (delay_list-at m e))))

    pub linked-waits : (new : Configuration) → new.transactions ≡ m.transactions → new.active ≡ None → new.current_events
        ≡ m.current_events → new.future_events ≡ m.future_events → new.waits.lists ≡ ws → new.waits.retry ≡ rs → new.assemblies
        ≡ m.assemblies → new.chains ≡ m.chains
        → new.entities ≡ m.entities → new.clock ≡ m.clock → state_of new ≡ waits_for e tx.number (state_of m) → Linked new
    linked-waits new ts a cs fs w r assemblies chs entities clock is = record {
      active = rw a tt;
      current_events = rw (ts, cs) l.current_events;
      future_events = rw (ts, fs) l.future_events;
      retry = rw (ts, r, kept) l.retry;
      delay_lists = λ k within. rw (ts, w) (all_changed (IsRanked m.transactions) m.waits.lists ws e (behind (λ (x : Member). x.priority) newcomer) changes
          (joined-ranked (at [] m.waits.lists e) held (l.delay_lists e below)) k (l.delay_lists k (rw entities at within)));
      assemblies = rw (ts, assemblies) l.assemblies;
      user_chains = λ c within. rw (ts, chs) (l.user_chains c (rw entities at within));
      chained = rw (chs, entities) l.chained;
      blocks = rw ts l.blocks;
      listed = rw (w, entities) (as_many m.waits.lists ws e (behind (λ (x : Member). x.priority) newcomer) (rw l.listed below) changes ∙ l.listed);
      sound = rw ts l.sound;
      resides = subst ResidesOnce (sym is) (resides-waits e tx.number (state_of m) (ap (option_map (λ (x : Tx). x.number)) active) l.resides);
      timed = rw (entities, clock) l.timed;
    }

  -- who is at a place of a delay list leaves it for the current events chain
  module _ (i : ℕ) (there : option_map (λ (x : Member). x.tx) (slice_get (at [] m.waits.lists e) i) ≡ Some tx) (ws : List (List Member))
      (rs : List Member) (kept : rs ≡ m.waits.retry) (changes : ws ≡ apply_at e (λ xs. remove xs i) m.waits.lists) where
    number-there : option_map member_number (slice_get (at [] m.waits.lists e) i) ≡ Some tx.number
    number-there = numbered (slice_get (at [] m.waits.lists e) i) there
      where
        numbered : (o : Option Member) → option_map (λ (x : Member). x.tx) o ≡ Some tx → option_map member_number o ≡ Some tx.number
        numbered None h = absurd cc
        numbered (Some x) h = let is : x.tx ≡ tx = cc in ap (λ (t : Tx). Some t.number) is

    pub occurs-there : 1 ≤ occurrences tx.number (delay_list e (state_of m))
    occurs-there = rw (delay_list-at m e) (occurs-at tx.number (at [] m.waits.lists e) i number-there)

    once : occurrences tx.number (map member_number (at [] m.waits.lists e)) ≤ 1
    once = rw (delay_list-at m e) at (waits-once tx.number (state_of m) l.resides e)

    pub state-called : (cs : List Member) → cs ≡ behind (λ (x : Member). x.priority) newcomer m.current_events.items
        → record (state_of m) {
          lists =
              record (lists_of m) {
                current_events = map member_number cs;
                delay_lists = map (map member_number) ws;
                retry =
                    map member_number rs;
              };
        } ≡ called_from e tx.number (state_of m)
    state-called cs joined =
        ap (λ (xs : List Member). record (state_of m) {
          lists = record (lists_of m)
              { current_events = map member_number cs; delay_lists = map (map member_number) ws; retry = map member_number xs };
        }) kept
        ∙ ap (λ (ns : List ℕ). record (state_of m) { lists = record (lists_of m) { current_events = ns; delay_lists = map (map member_number) ws } })
        (ap (map member_number) joined ∙ joined-numbers m.current_events.items l.current_events)
        ∙ ap (λ (ds : List (List ℕ)). record (called_from e tx.number (state_of m))
        { lists = record (called_from e tx.number (state_of m)).lists { delay_lists = ds } })
        (lists-put member_number m.waits.lists ws e (λ xs. remove xs i) changes
        ∙ ap (put [] (map (map member_number) m.waits.lists) e)
        (numbers-without tx.number (at [] m.waits.lists e) i number-there once ∙ ap (without tx.number) (sym (delay_list-at m e))))

    pub linked-called : (new : Configuration) → Holds m.transactions tx → new.transactions ≡ m.transactions → new.active ≡ m.active
        → new.current_events.items ≡ behind (λ (x : Member). x.priority) newcomer m.current_events.items → new.future_events
        ≡ m.future_events → new.waits.lists ≡ ws → new.waits.retry ≡ rs → new.assemblies ≡ m.assemblies → new.chains ≡ m.chains
        → new.entities ≡ m.entities → new.clock ≡ m.clock → state_of new ≡ called_from e tx.number (state_of m) → Linked new
    linked-called new held ts a cs fs w r assemblies chs entities clock is = record {
      active = rw (ts, a) l.active;
      current_events = rw (ts, cs) (joined-ranked m.current_events.items held l.current_events);
      future_events = rw (ts, fs) l.future_events;
      retry = rw (ts, r, kept) l.retry;
      delay_lists = λ k within. rw (ts, w) (all_changed (IsRanked m.transactions) m.waits.lists ws e (λ xs. remove xs i) changes
          (all_without (IsRanked m.transactions) (at [] m.waits.lists e) i (l.delay_lists e below)) k (l.delay_lists k (rw entities at within)));
      assemblies = rw (ts, assemblies) l.assemblies;
      user_chains = λ c within. rw (ts, chs) (l.user_chains c (rw entities at within));
      chained = rw (chs, entities) l.chained;
      blocks = rw ts l.blocks;
      listed = rw (w, entities) (as_many m.waits.lists ws e (λ xs. remove xs i) (rw l.listed below) changes ∙ l.listed);
      sound = rw ts l.sound;
      resides = subst ResidesOnce (sym is) (resides-called e tx.number (state_of m) occurs-there l.resides);
      timed = rw (entities, clock) l.timed;
    }

-- other rooms and places of walks leave a machine as it was
pub state-walked : (m : Configuration) (ws : Waiting) → ws.lists ≡ m.waits.lists → ws.retry ≡ m.waits.retry → state_of (record m { waits = ws }) ≡ state_of m
state-walked m ws lists retry =
    ap (λ (xs : List (List Member)). record (state_of m)
    { lists = record (lists_of m) { delay_lists = map (map member_number) xs; retry = map member_number ws.retry } }) lists
    ∙ ap (λ (xs : List Member). record (state_of m) { lists = record (lists_of m) { retry = map member_number xs } }) retry

pub linked-walked : (m : Configuration) → Linked m → (ws : Waiting) → ws.lists ≡ m.waits.lists → ws.retry ≡ m.waits.retry → Linked (record m { waits = ws })
linked-walked m l ws lists retry = record {
  active = l.active;
  current_events = l.current_events;
  future_events = l.future_events;
  delay_lists = λ e below. rw lists (l.delay_lists e below);
  retry = rw retry l.retry;
  assemblies = l.assemblies;
  user_chains = l.user_chains;
  listed = rw lists l.listed;
  chained = l.chained;
  blocks = l.blocks;
  sound = l.sound;
  resides = subst ResidesOnce (sym (state-walked m ws lists retry)) l.resides;
  timed = l.timed;
}
