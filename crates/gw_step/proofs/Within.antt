-- What each elementary change does to the numbers of a state.
use Rattle.gw_step.specs.Turning.{towards, turn_to}
use Rattle.gw_step.specs.declared.ends.End.{End}
use Rattle.std.proofs.Common.{◌≡◌, ℕ, suc, ◌+◌, ◌^◌, ◌≤◌, ◌<◌, ℤ, pos, ◌≤ℤ◌, List, [], ◌∷◌, ◌++◌, length, Some, None, Bool, true, false}
use Rattle.std.proofs.Common.{if◌then◌else◌, ◌==◌, refl, ap, ◌∙◌, arith, inl, inr, Option, sym, subst, option_map}
use Rattle.std.proofs.lemmas.Int.{ints}
use Rattle.std.specs.Prelude.{sum, int_le, IfSome}
use Rattle.std.proofs.lemmas.Bool.{cases_eq, eq-eqb, ne_eqb}
use Rattle.gw_object.specs.declared.blocks.Link.{Link}
use Rattle.gw_members.specs.Chain.{placed_behind, behind, in_time, later}
use Rattle.gw_num.specs.Table.{at, put}
use Rattle.gw_num.proofs.Tables.{by_entry, length-put, length-put_next, sum_by-put}
use Rattle.gw_transactions.specs.declared.Transaction.{Transaction}
use Rattle.gw_transactions.specs.Transactions.{LiveTransaction, made_with, with_attributes, with_parameter, with_chain, attributes_at, put_attributes}
use Rattle.gw_transactions.specs.Transactions.{put_parameter, put_chain}
use Rattle.gw_entities.specs.declared.contents.Contents.{Contents}
use Rattle.gw_entities.specs.Contents.{empty}
use Rattle.gw_entities.specs.Facility.{idle}
use Rattle.gw_entities.specs.Storage.{vacant}
use Rattle.gw_entities.specs.Table.{no_table}
use Rattle.gw_step.specs.declared.placement.Assembling.{Assembling}
use Rattle.gw_step.specs.Times.{parameters_of}
use Rattle.gw_step.specs.State.{Assembly, FutureEvent, EntityStates, State, priority_of, with_one_more_at, with_streams, delay_list, without}
use Rattle.gw_step.specs.Changes.{newcomer, copy_to, rests_ahead, rests_behind, awaits_set, assemble_all, come_to, joins_chain, leaves_chain, retries}
use Rattle.gw_step.specs.Changes.{wake, enter_next, assign_to, destroy, arrives, rests_until, waits_for, called_from, count_down}
use Rattle.gw_step.specs.Residence.{occurrences}
use Rattle.gw_step.proofs.Residence.{one_if}
use Rattle.gw_step.specs.Numbers.{IsFrom, waiter_count, AreWhole, IsWithin, AreEntered, AreMarked}

-- LENGTHS AND SUMS

pub sum-raised : (b : ℕ) (counts : List ℕ) → sum (with_one_more_at b counts) ≡ sum counts + 1
sum-raised b counts = let e = sum_by-put 0 (λ (x : ℕ). x) counts b (at 0 counts b + 1) refl in omega (arith, e)

pub length-raised : (b : ℕ) (counts : List ℕ) → b < length counts → length (with_one_more_at b counts) ≡ length counts
length-raised b counts below = length-put 0 counts b (at 0 counts b + 1) below

length-placed : {A : Type 0} (enters_and_falls : A → Bool) (x : A) (xs : List A) → length (placed_behind enters_and_falls x xs) ≡ suc (length xs)
length-placed enters_and_falls x [] = refl
length-placed enters_and_falls x (y ∷ ys) = by_test (enters_and_falls y) (length-placed enters_and_falls x ys)
  where
    by_test : (b : Bool) → length (placed_behind enters_and_falls x ys) ≡ suc (length ys)
        → length (if b then y ∷ placed_behind enters_and_falls x ys else x ∷ y ∷ ys) ≡ suc (length (y ∷ ys))
    by_test true e = ap suc e
    by_test false e = refl

pub length-without : (n : ℕ) (xs : List ℕ) → 1 ≤ occurrences n xs → suc (length (without n xs)) ≡ length xs
length-without n [] h = absurd (omega (arith, h))
length-without n (x ∷ xs) h =
    elim (cases_eq x n) [
      | inl e ↦ let same : without n (x ∷ xs) ≡ xs = rw (eq-eqb x n e) refl in ap (λ ys. suc (length ys)) same
      | inr e ↦
          let other : without n (x ∷ xs) ≡ x ∷ without n xs = rw (ne_eqb x n e) refl in
          let none : one_if (x == n) ≡ 0 = rw (ne_eqb x n e) refl in
          ap (λ ys. suc (length ys)) other ∙ ap suc (length-without n xs (omega (arith, h, none)))
    ]

length-joined : (n : ℕ) (xs : List ℕ) → length (xs ++ n ∷ []) ≡ suc (length xs)
length-joined n [] = refl
length-joined n (x ∷ xs) = ap suc (length-joined n xs)

-- TIME

-- one event more, no earlier than the others may be
pub from-in_time : (moment : ℤ) (x : FutureEvent) (es : List FutureEvent) → moment ≤ℤ x.time → IsFrom moment es
    → IsFrom moment (in_time (λ (e : FutureEvent). e.time) x es)
from-in_time moment x [] le h = (le, tt)
from-in_time moment x (e ∷ es) le h = by_order (int_le e.time x.time) refl (λ before. from-in_time e.time x es before h.1)
  where
    by_order : (b : Bool) → int_le e.time x.time ≡ b → (e.time ≤ℤ x.time → IsFrom e.time (in_time (λ (e : FutureEvent). e.time) x es))
        → IsFrom moment (if b then e ∷ in_time (λ (e : FutureEvent). e.time) x es else x ∷ e ∷ es)
    by_order true before rest = (h.0, rest (omega (arith, ints, before)))
    by_order false after rest = (le, (omega (arith, ints, after), h.1))

-- the events after a moment
pub from-later : (a moment : ℤ) (es : List FutureEvent) → IsFrom a es → IsFrom moment (later (λ (e : FutureEvent). e.time) moment es)
from-later a moment [] h = tt
from-later a moment (e ∷ es) h = by_order (int_le e.time moment) refl (from-later e.time moment es h.1)
  where
    by_order : (b : Bool) → int_le e.time moment ≡ b → IsFrom moment (later (λ (e : FutureEvent). e.time) moment es)
        → IsFrom moment (if b then later (λ (e : FutureEvent). e.time) moment es else e ∷ es)
    by_order true before rest = rest
    by_order false after rest = (omega (arith, ints, after), h.1)

-- ENTITIES

pub raised_by_put : {X : Type 0} (d : X) (xs : List X) (k : ℕ) (v : X) (f : X → ℕ) (more : ℕ) → f v ≤ f (at d xs k) + more → (j : ℕ)
    → f (at d (put d xs k v) j) ≤ f (at d xs j) + more
raised_by_put d xs k v f more here = by_entry d xs k v (λ j x. f x ≤ f (at d xs j) + more) here (λ j other. omega arith)

-- the table ys has the entries of xs, each of which counts so much more at most
pub record RaisesBy {X : Type 0} (d : X) (count : X → ℕ) (more : ℕ) (xs ys : List X) : Type 0 where
  pub counts : (k : ℕ) → count (at d ys k) ≤ count (at d xs k) + more
  pub size : length ys ≡ length xs

pub raises-none : {X : Type 0} {d : X} {count : X → ℕ} {more : ℕ} {xs : List X} → RaisesBy d count more xs xs
raises-none = record { counts = λ k. omega arith; size = refl }

pub raised-put : {X : Type 0} (d : X) (xs : List X) (k : ℕ) (v : X) (count : X → ℕ) (more : ℕ) → k < length xs → count v
    ≤ count (at d xs k) + more → RaisesBy d count more xs (put d xs k v)
raised-put d xs k v count more there here = record { counts = raised_by_put d xs k v count more here; size = length-put d xs k v there }

-- the same of queues, in which no more than ever joined is inside
pub record RaisesQueues (xs ys : List Contents) : Type 0 where
  pub entered : RaisesBy empty (λ q. q.entries) (2 ^ 20) xs ys
  pub inside : (q : ℕ) → (at empty xs q).content ≤ (at empty xs q).entries → (at empty ys q).content ≤ (at empty ys q).entries

pub raises-no_queue : {xs : List Contents} → RaisesQueues xs xs
raises-no_queue = record { entered = raises-none; inside = λ q h. h }

-- from g to h each entity has one entry more at most
pub record Raises (g h : EntityStates) : Type 0 where
  pub facilities : RaisesBy idle (λ f. f.entries) 1 g.facilities h.facilities
  pub storages : RaisesBy (vacant 0) (λ e. e.contents.entries) (2 ^ 20) g.storages h.storages
  pub queues : RaisesQueues g.queues h.queues
  pub tables : RaisesBy no_table (λ t. t.count) 1 g.tables h.tables
  pub settings : (length h.switches ≡ length g.switches) × (length h.savevalues ≡ length g.savevalues)

pub raises-same : (g : EntityStates) → Raises g g
raises-same g = record { facilities = raises-none; storages = raises-none; queues = raises-no_queue; tables = raises-none; settings = (refl, refl) }

-- MARK TIMES

-- one transaction is now another, or gone
pub marked-put : (ts : List (Option LiveTransaction)) (n : ℕ) (v : Option LiveTransaction) → IfSome v (λ t. pos 0 ≤ℤ t.attributes.mark)
    → AreMarked ts → AreMarked (put None ts n v)
marked-put ts n v here m =
    record { marks = by_entry None ts n v (λ k o. IfSome o (λ (t : LiveTransaction). pos 0 ≤ℤ t.attributes.mark)) here (λ k other. m.marks k) }

if_written : (a : Transaction) (o : Option LiveTransaction) → pos 0 ≤ℤ a.mark → IfSome (option_map (with_attributes a) o) (λ t. pos 0 ≤ℤ t.attributes.mark)
if_written a None h = tt
if_written a (Some t) h = h

-- one has other attributes
pub marked-written : (ts : List (Option LiveTransaction)) (n : ℕ) (a : Transaction) → pos 0 ≤ℤ a.mark → AreMarked ts → AreMarked (put_attributes n a ts)
marked-written ts n a h m = marked-put ts n (option_map (with_attributes a) (at None ts n)) (if_written a (at None ts n) h) m

if_assigned : (p : ℕ) (value : ℤ) (o : Option LiveTransaction) → IfSome o (λ (t : LiveTransaction). pos 0 ≤ℤ t.attributes.mark)
    → IfSome (option_map (with_parameter p value) o) (λ (t : LiveTransaction). pos 0 ≤ℤ t.attributes.mark)
if_assigned p value None h = tt
if_assigned p value (Some t) h = h

-- one has another parameter
pub marked-assigned : (ts : List (Option LiveTransaction)) (n p : ℕ) (value : ℤ) → AreMarked ts → AreMarked (put_parameter n p value ts)
marked-assigned ts n p value m = marked-put ts n (option_map (with_parameter p value) (at None ts n)) (if_assigned p value (at None ts n) (m.marks n)) m

-- the mark time of the transaction n, which is t
pub mark_from : (ts : List (Option LiveTransaction)) (n : ℕ) (t : Transaction) → AreMarked ts → attributes_at n ts ≡ Some t → pos 0 ≤ℤ t.mark
mark_from ts n t m found = by_option (at None ts n) (m.marks n) found
  where
    by_option : (o : Option LiveTransaction) → IfSome o (λ (t : LiveTransaction). pos 0 ≤ℤ t.attributes.mark)
        → option_map (λ (t : LiveTransaction). t.attributes) o ≡ Some t → pos 0 ≤ℤ t.mark
    by_option None h is = absurd cc
    by_option (Some u) h is = let same : u.attributes ≡ t = cc in subst (λ (a : Transaction). pos 0 ≤ℤ a.mark) same h

if_chained : (chain : Option ℕ) (o : Option LiveTransaction) → IfSome o (λ (t : LiveTransaction). pos 0 ≤ℤ t.attributes.mark)
    → IfSome (option_map (with_chain chain) o) (λ (t : LiveTransaction). pos 0 ≤ℤ t.attributes.mark)
if_chained chain None h = tt
if_chained chain (Some t) h = h

-- one is a member of another user chain, or of none
pub marked-chained : (ts : List (Option LiveTransaction)) (n : ℕ) (chain : Option ℕ) → AreMarked ts → AreMarked (put_chain n chain ts)
marked-chained ts n chain m = marked-put ts n (option_map (with_chain chain) (at None ts n)) (if_chained chain (at None ts n) (m.marks n)) m

-- CHANGES

module _ (bs es en ar : ℕ) (s : State) (w : IsWithin bs es en ar s) where
  -- the blocks and the entities have the entries that they had
  pub within-by : (t : State) (entered arrived : ℕ) → t.entries ≡ s.entries → t.entities ≡ s.entities → length t.lists.delay_lists
      ≡ length s.lists.delay_lists → length t.lists.user_chains ≡ length s.lists.user_chains → length t.scheduled ≡ length s.scheduled → length t.streams ≡ 16
      → sum s.entries + waiter_count t ≤ entered → length t.transactions ≤ arrived + 4097 → sum t.scheduled ≤ arrived + 4096
      → AreMarked t.transactions → pos 0 ≤ℤ t.clock → IsFrom t.clock t.lists.future_events → IsWithin bs es entered arrived t
  within-by t entered arrived entries entities delayed chains length_scheduled streams few made scheduled marked clock future = record {
    entries = omega (arith, few, ap sum entries);
    entity_entries = subst (λ (g : EntityStates). AreEntered (sum t.entries) g) (sym entities)
        (subst (λ (xs : List ℕ). AreEntered (sum xs) s.entities) (sym entries) w.entity_entries);
    made = made;
    scheduled = scheduled;
    marked = marked;
    whole = record {
      entries = ap length entries ∙ w.whole.entries;
      scheduled = length_scheduled ∙ w.whole.scheduled;
      delay_lists = delayed ∙ w.whole.delay_lists;
      user_chains = chains ∙ w.whole.user_chains;
      entity_tables = subst (AreWhole es) (sym entities) w.whole.entity_tables;
      streams = streams;
    };
    clock = clock;
    future = future;
  }

  -- the numbers stay as they were, or fewer wait
  within-apart : (t : State) → t.entries ≡ s.entries → t.scheduled ≡ s.scheduled → t.transactions ≡ s.transactions → t.entities
      ≡ s.entities → length t.lists.delay_lists ≡ length s.lists.delay_lists → length t.lists.user_chains ≡ length s.lists.user_chains
      → waiter_count t ≤ waiter_count s
      → length t.streams ≡ 16 → t.clock ≡ s.clock → t.lists.future_events ≡ s.lists.future_events → IsWithin bs es en ar t
  within-apart t entries scheduled ts entities lists chains wait streams clock future =
      within-by t en ar entries entities lists chains (ap length scheduled) streams (omega (arith, w.entries, wait))
      (omega (arith, w.made, ap (λ (xs : List (Option LiveTransaction)). length xs) ts)) (omega (arith, w.scheduled, ap sum scheduled))
      (rw ts w.marked) (rw clock w.clock) (rw (clock, future) w.future)

  pub within-woken : IsWithin bs es en ar (wake s)
  within-woken = within-apart (wake s) refl refl refl refl refl refl (omega arith) w.whole.streams refl refl

  pub within-streams : (streams : List ℕ) → length streams ≡ 16 → IsWithin bs es en ar (with_streams streams s)
  within-streams streams same = within-apart (with_streams streams s) refl refl refl refl refl refl (omega arith) same refl refl

  pub within-active : (n : ℕ) (ns : List ℕ) → IsWithin bs es en ar (record s { lists = record s.lists { active = Some n; current_events = ns } })
  within-active n ns = within-apart (record s { lists = record s.lists { active = Some n; current_events = ns } }) refl refl refl refl refl
      refl (omega arith) w.whole.streams refl refl

  pub within-ended : (steps : ℕ) (ended : Option End) → IsWithin bs es en ar (record s { steps = steps; ended = ended })
  within-ended steps ended = within-apart (record s { steps = steps; ended = ended }) refl refl refl refl refl refl (omega arith) w.whole.streams refl refl

  pub within-counted : (by : ℤ) → IsWithin bs es en ar (count_down by s)
  within-counted by = within-apart (count_down by s) refl refl refl refl refl refl (omega arith) w.whole.streams refl refl

  pub within-ahead : (n : ℕ) → IsWithin bs es en ar (rests_ahead n s)
  within-ahead n = within-apart (rests_ahead n s) refl refl refl refl refl refl (omega arith) w.whole.streams refl refl

  pub within-behind : (n : ℕ) → IsWithin bs es en ar (rests_behind n s)
  within-behind n = within-apart (rests_behind n s) refl refl refl refl refl refl (omega arith) w.whole.streams refl refl

  pub within-awaits : (n : ℕ) (a : Assembling) → IsWithin bs es en ar (awaits_set n a s)
  within-awaits n a = within-apart (awaits_set n a s) refl refl refl refl refl refl (omega arith) w.whole.streams refl refl

  pub within-assembled : (a : Assembly) → IsWithin bs es en ar (assemble_all a s)
  within-assembled a = within-apart (assemble_all a s) refl refl refl refl refl refl (omega arith) w.whole.streams refl refl

  pub within-come : (a : Assembly) → IsWithin bs es en ar (come_to a s)
  within-come a = within-apart (come_to a s) refl refl refl refl refl refl (omega arith) w.whole.streams refl refl

  -- a copy is made
  pub within-copied : (n : ℕ) (t : Transaction) (target : ℕ) → pos 0 ≤ℤ t.mark → IsWithin bs es en (suc ar) (copy_to n t target s)
  within-copied n t target mark =
      let v : Option LiveTransaction = Some (made_with (parameters_of n s) (record t { next = target })) in
      within-by (copy_to n t target s) en (suc ar) refl refl refl refl refl w.whole.streams w.entries
      (omega (arith, w.made, length-put_next None s.transactions v)) (omega (arith, w.scheduled))
      (marked-put s.transactions (length s.transactions) v mark w.marked) w.clock w.future

  -- an entry, and what it does to an entity
  pub within-entered : (n : ℕ) (t : Transaction) (next : ℕ) (g : EntityStates) → t.next ≤ bs → n < length s.transactions → pos 0 ≤ℤ t.mark
      → Raises s.entities g → IsWithin bs es (suc en) ar (record (enter_next n t next s) { entities = g })
  within-entered n t next g block there marks r =
      let table = w.whole.entries in
      let more = sum-raised t.next s.entries in
      let entries = w.entries in
      record {
        entries = omega (arith, more, entries);
        entity_entries = record {
          facilities = λ f. omega (arith, r.facilities.counts f, w.entity_entries.facilities f, more);
          storages = λ e. omega (arith, r.storages.counts e, w.entity_entries.storages e, more);
          queues = λ q. omega (arith, r.queues.entered.counts q, w.entity_entries.queues q, more);
          tables = λ t. omega (arith, r.tables.counts t, w.entity_entries.tables t, more);
          inside = λ q. r.queues.inside q (w.entity_entries.inside q);
        };
        made = omega (
          arith,
          w.made,
          length-put None s.transactions n (option_map (with_attributes (record t { current = t.next; next = next })) (at None s.transactions n)) there,
        );
        scheduled = w.scheduled;
        marked = marked-written s.transactions n (record t { current = t.next; next = next }) marks w.marked;
        whole = record {
          entries = length-raised t.next s.entries (omega (arith, table, block)) ∙ table;
          scheduled = w.whole.scheduled;
          delay_lists = w.whole.delay_lists;
          user_chains = w.whole.user_chains;
          entity_tables = record {
            facilities = r.facilities.size ∙ w.whole.entity_tables.facilities;
            storages = r.storages.size ∙ w.whole.entity_tables.storages;
            queues = r.queues.entered.size ∙ w.whole.entity_tables.queues;
            switches = r.settings.0 ∙ w.whole.entity_tables.switches;
            savevalues = r.settings.1 ∙ w.whole.entity_tables.savevalues;
            tables = r.tables.size ∙ w.whole.entity_tables.tables;
          };
          streams = w.whole.streams;
        };
        clock = w.clock;
        future = w.future;
      }

  pub within-destroyed : (n : ℕ) → n < length s.transactions → IsWithin bs es en ar (destroy n s)
  within-destroyed n there =
      within-by (destroy n s) en ar refl refl refl refl refl w.whole.streams w.entries
      (omega (arith, w.made, length-put None s.transactions n None there)) w.scheduled (marked-put s.transactions n None tt w.marked) w.clock w.future

  -- a transaction turns to another block
  pub within-turned : (n to : ℕ) (t : Transaction) → n < length s.transactions → pos 0 ≤ℤ t.mark → IsWithin bs es en ar (turn_to n t to s)
  within-turned n to t there marks =
      let made = length-put None s.transactions n (option_map (with_attributes (towards to t)) (at None s.transactions n)) there in
      within-by (turn_to n t to s) en ar refl refl refl refl refl w.whole.streams w.entries (omega (arith, w.made, made)) w.scheduled
      (marked-written s.transactions n (towards to t) marks w.marked) w.clock w.future

  -- a parameter is set
  pub within-assigned : (n p : ℕ) (value : ℤ) → n < length s.transactions → IsWithin bs es en ar (assign_to n p value s)
  within-assigned n p value there =
      let made = length-put None s.transactions n (option_map (with_parameter p value) (at None s.transactions n)) there in
      within-by (assign_to n p value s) en ar refl refl refl refl refl w.whole.streams w.entries (omega (arith, w.made, made)) w.scheduled
      (marked-assigned s.transactions n p value w.marked) w.clock w.future

  pub within-retries : (n : ℕ) → IsWithin bs es (suc en) ar (retries n s)
  within-retries n =
      within-by (retries n s) (suc en) ar refl refl refl refl refl w.whole.streams
      (omega (arith, w.entries, length-joined n s.lists.retry)) w.made w.scheduled w.marked w.clock w.future

  pub within-arrives : (b : ℕ) (priority time : ℤ) → b ≤ bs → s.clock ≤ℤ time → IsWithin bs es en (suc ar) (arrives b priority time s)
  within-arrives b priority time block later =
      let n = length s.transactions in
      let t : Option LiveTransaction = Some (newcomer b priority s) in
      within-by (arrives b priority time s) en (suc ar) refl refl refl refl
      (length-raised b s.scheduled (omega (arith, w.whole.scheduled, block))) w.whole.streams w.entries
      (omega (arith, w.made, length-put_next None s.transactions t)) (omega (arith, w.scheduled, sum-raised b s.scheduled))
      (marked-put s.transactions n t w.clock w.marked) w.clock (from-in_time s.clock (record { time = time; number = n }) s.lists.future_events later w.future)

  pub within-rests : (n : ℕ) (time : ℤ) → s.clock ≤ℤ time → IsWithin bs es en ar (rests_until n time s)
  within-rests n time later =
      within-by (rests_until n time s) en ar refl refl refl refl refl w.whole.streams w.entries w.made w.scheduled w.marked w.clock
      (from-in_time s.clock (record { time = time; number = n }) s.lists.future_events later w.future)

  -- one delay list is another
  delay_lists-size : (e : ℕ) (ns : List ℕ) → e < es → length (put [] s.lists.delay_lists e ns) ≡ length s.lists.delay_lists
  delay_lists-size e ns there = length-put [] s.lists.delay_lists e ns (omega (arith, there, w.whole.delay_lists))

  pub within-waits : (e n : ℕ) → e < es → IsWithin bs es (suc en) ar (waits_for e n s)
  within-waits e n there =
      let joined = behind (priority_of s.transactions) n (delay_list e s) in
      let more : length joined ≡ suc (length (delay_list e s)) =
      length-placed (λ m. int_le (priority_of s.transactions n) (priority_of s.transactions m)) n (delay_list e s) in
      let total = sum_by-put [] length s.lists.delay_lists e joined refl in
      within-by (waits_for e n s) (suc en) ar refl refl (delay_lists-size e joined there) refl refl w.whole.streams
      (omega (arith, more, total, w.entries)) w.made w.scheduled w.marked w.clock w.future

  -- a waiter leaves its delay list: its entry is now to come
  pub called-less : (e n : ℕ) → e < es → 1 ≤ occurrences n (delay_list e s) → sum s.entries + suc (waiter_count (called_from e n s)) ≤ en
  called-less e n there waits =
      let fewer = length-without n (delay_list e s) waits in
      let total = sum_by-put [] length s.lists.delay_lists e (without n (delay_list e s)) refl in
      let entries = w.entries in
      omega (arith, fewer, total, entries)

  pub within-called : (e n : ℕ) → e < es → 1 ≤ occurrences n (delay_list e s) → (less : ℕ) → en ≡ suc less → IsWithin bs es less ar (called_from e n s)
  within-called e n there waits less is =
      within-by (called_from e n s) less ar refl refl (delay_lists-size e (without n (delay_list e s)) there) refl refl w.whole.streams
      (omega (arith, called-less e n there waits, is)) w.made w.scheduled w.marked w.clock w.future

  -- one user chain is another
  user_chains-size : (c : ℕ) (ns : List ℕ) → c < es → length (put [] s.lists.user_chains c ns) ≡ length s.lists.user_chains
  user_chains-size c ns there = length-put [] s.lists.user_chains c ns (omega (arith, there, w.whole.user_chains))

  pub within-linked : (n : ℕ) (l : Link) → l.chain < es → n < length s.transactions → IsWithin bs es en ar (joins_chain n l s)
  within-linked n l below there =
      let one = length-put None s.transactions n (option_map (with_chain (Some l.chain)) (at None s.transactions n)) there in
      within-by (joins_chain n l s) en ar refl refl refl (user_chains-size l.chain _ below) refl w.whole.streams w.entries
      (omega (arith, w.made, one)) w.scheduled (marked-chained s.transactions n (Some l.chain) w.marked) w.clock w.future

  pub within-unlinked : (c target n : ℕ) (t : Transaction) → c < es → n < length s.transactions → pos 0 ≤ℤ t.mark
      → IsWithin bs es en ar (leaves_chain c target n t s)
  within-unlinked c target n t below there mark =
      let a : Transaction = record t { next = target } in
      let ts = put_attributes n a s.transactions in
      let one = length-put None s.transactions n (option_map (with_attributes a) (at None s.transactions n)) there in
      let two = length-put None ts n (option_map (with_chain None) (at None ts n)) (omega (arith, there, one)) in
      within-by (leaves_chain c target n t s) en ar refl refl refl (user_chains-size c _ below) refl w.whole.streams w.entries
      (omega (arith, w.made, one, two)) w.scheduled (marked-chained ts n None (marked-written s.transactions n a mark w.marked)) w.clock w.future

  pub within-more : (en_more ar_more : ℕ) → en ≤ en_more → ar ≤ ar_more → IsWithin bs es en_more ar_more s
  within-more en_more ar_more le le' =
      within-by s en_more ar_more refl refl refl refl refl w.whole.streams (omega (arith, w.entries, le)) (omega (arith, w.made, le'))
      (omega (arith, w.scheduled, le')) w.marked w.clock w.future
