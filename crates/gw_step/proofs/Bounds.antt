-- What a list of elementary changes keeps of the bounds of a state: capacities, numbers, limits, how many live.
use Rattle.gw_step.specs.Blocks.{is_owed}
use Rattle.gw_step.proofs.Traces.{storages-later, Rested, credited, Change, Goes, EntersLast, Turns, GoesWith, Arrives, Copied, Rests, Called}
use Rattle.gw_step.proofs.Traces.{Assembled, Comes, Unlinked, Woken, Activates, ClockMoves, Draws, Counts, Marks, Trace, Done, Then}
use Rattle.gw_transactions.specs.Transactions.{LiveTransaction, made_with, with_attributes, with_parameter, with_chain, put_attributes, put_parameter}
use Rattle.gw_transactions.specs.Transactions.{put_chain, live_count}
use Rattle.std.proofs.Common.{◌≡◌, ℕ, suc, ◌+◌, ◌≤◌, ◌≤ℤ◌, ℤ, pos, ◌-ℤ◌, List, length, Option, Some, None, true, is_some, refl, sym, ap, ◌∙◌, subst}
use Rattle.std.proofs.Common.{arith, option_map}
use Rattle.std.specs.Prelude.{unsigned_abs, IfSome}
use Rattle.std.proofs.lemmas.Int.{ints}
use Rattle.std.proofs.lemmas.Bool.{ltb-true, leb-true}
use Rattle.gw_object.specs.declared.blocks.Generate.{Generate}
use Rattle.gw_object.specs.declared.blocks.Block.{Block}
use Rattle.gw_object.specs.declared.blocks.Block.TheVariants as blocks
use Rattle.gw_object.specs.declared.parts.Parts.{Parts}
use Rattle.gw_rules.specs.Kinds.{block_at}
use Rattle.gw_rules.specs.Rows.{Row}
use Rattle.gw_num.specs.Table.{at, put}
use Rattle.gw_num.proofs.Tables.{at_some, by_entry, count_by-put}
use Rattle.gw_transactions.specs.declared.Transaction.{Transaction}
use Rattle.gw_entities.specs.declared.storages.Storage.{Storage}
use Rattle.gw_step.specs.declared.placement.Placement.{Placement}
use Rattle.gw_step.specs.declared.placement.Placement.TheVariants.{StaysActive, RestsUntil, JoinsDelayList, JoinsRetryList, RestsAhead, RestsBehind}
use Rattle.gw_step.specs.declared.placement.Placement.TheVariants.{AwaitsSet, JoinsChain, LeavesModel}
use Rattle.gw_step.specs.Placing.{placed_at}
use Rattle.gw_step.specs.Numbers.{IsWithin, AreWithinLimits, AreFewLive}
use Rattle.gw_step.specs.State.{EntityStates, State, with_one_more_at}
use Rattle.gw_step.specs.Changes.{newcomer, assign_to, time_passes}
use Rattle.gw_step.proofs.Residence.{one_if}
use Rattle.gw_step.proofs.Within.{raises-same, mark_from, within-entered, within-turned, within-assigned, within-destroyed, within-retries}
use Rattle.gw_step.proofs.Within.{within-woken, within-counted, within-arrives, within-rests, within-streams, within-waits, within-called}
use Rattle.gw_step.proofs.Within.{within-active, within-ended, within-ahead, within-behind, within-copied, within-awaits, within-assembled}
use Rattle.gw_step.proofs.Within.{within-come, within-linked, within-unlinked}
use Rattle.gw_step.proofs.Follows.{block_below, within-clock}
use Rattle.gw_step.proofs.Placed.{placed_at-leaves}
use Rattle.gw_step.specs.Times.{parameters_of}
use Rattle.gw_step.specs.Typing.{AreWithinCapacity, AreConserved, IsConserved}
use Rattle.gw_step.proofs.Balances.{time_passed}
use Rattle.gw_step.proofs.Agreeing.{Balanced}
use Rattle.gw_step.proofs.Attributes.{number_below, attributes-parameter, is_some-attributes, is_some-parameter, is_some-chain}

-- ALONG A TRACE

-- a fact that each change keeps is kept by some, one after the other
module _ (p : Parts) (P : State → Type 0) (keeps : (en ar c en' ar' c' : ℕ) (s t : State) → Change p en ar c s en' ar' c' t → P s → P t) where
  along : {en ar c en' ar' c' : ℕ} {s t : State} → Trace p en ar c s en' ar' c' t → P s → P t
  along Done h = h
  along (Then x xs) h = along xs (keeps _ _ _ _ _ _ _ _ x h)

-- a fact of the entities that a balanced move and the passing of time keep
module _ (p : Parts) (P : EntityStates → Type 0)
    (balanced : (n : ℕ) (old new : Option Row) (g h : EntityStates) → Balanced p n old new g h → P g → P h)
    (later : (time : ℕ) (g : EntityStates) → P g → P (time_passes time g)) where
  change-entities : {en ar c en' ar' c' : ℕ} {s t : State} → Change p en ar c s en' ar' c' t → P s.entities → P t.entities
  change-entities (Goes n to t u block row state h is same here known along may balance pays) w = balanced _ _ _ _ _ balance w
  change-entities (Rests {s = s} n placement may settles) w = subst P (sym (placed_at-leaves n placement s).entities) w
  change-entities (ClockMoves {s = s} e es is) w = later (unsigned_abs (e.time -ℤ s.clock)) s.entities w
  change-entities change w = w

  trace-entities : {en ar c en' ar' c' : ℕ} {s t : State} → Trace p en ar c s en' ar' c' t → P s.entities → P t.entities
  trace-entities = along p (λ (s : State). P s.entities) (λ en ar c en' ar' c' s t x. change-entities x)

-- WITHIN CAPACITY

fills-later : (time : ℕ) (g : EntityStates) → AreWithinCapacity g → AreWithinCapacity (time_passes time g)
fills-later time g w = record {
  contents = λ e. subst (λ (x : Storage). x.contents.content ≤ x.capacity) (sym (storages-later time g.storages e)) (w.contents e);
}

pub written-live : (ts : List (Option LiveTransaction)) (n : ℕ) (v : Option LiveTransaction) → live_count (put None ts n v)
    + one_if (is_some (at None ts n)) ≡ live_count ts + one_if (is_some v)
written-live ts n v = count_by-put None is_some ts n v refl

-- who joins a user chain or leaves one lives as before
chained-live : (ts : List (Option LiveTransaction)) (n : ℕ) (chain : Option ℕ) → live_count (put_chain n chain ts) ≡ live_count ts
chained-live ts n chain = omega (arith, written-live ts n (option_map (with_chain chain) (at None ts n)), ap one_if (is_some-chain chain (at None ts n)))

-- who is placed makes no more live
placed-live : (n : ℕ) (placement : Placement) (s : State) → live_count (placed_at n placement s).transactions ≤ live_count s.transactions
placed-live n (JoinsChain l) s = omega (arith, chained-live s.transactions n (Some l.chain))
placed-live n LeavesModel s = omega (arith, written-live s.transactions n None)
placed-live n placement s = omega arith

pub trace-fills : (p : Parts) {en ar c en' ar' c' : ℕ} {s t : State} → Trace p en ar c s en' ar' c' t → AreWithinCapacity s.entities
    → AreWithinCapacity t.entities
trace-fills p = trace-entities p AreWithinCapacity (λ n old new g h balance. balance.filled) fills-later

-- NO UNIT IS LOST

conserved-later : (time : ℕ) (g : EntityStates) → AreConserved g → AreConserved (time_passes time g)
conserved-later time g w = record {
  units = λ e. subst (λ (x : Storage). IsConserved x.contents) (sym (storages-later time g.storages e)) (time_passed time _ (w.units e));
}

pub trace-conserves : (p : Parts) {en ar c en' ar' c' : ℕ} {s t : State} → Trace p en ar c s en' ar' c' t → AreConserved s.entities → AreConserved t.entities
trace-conserves p = trace-entities p AreConserved (λ n old new g h balance. balance.conserved) conserved-later

-- NUMBERS

module _ (p : Parts) where
  rests-within : (en ar n : ℕ) (placement : Placement) (s : State) → Rested p n placement s
      → IsWithin (length p.blocks) (length p.entities) en ar s
      → IsWithin (length p.blocks) (length p.entities) (credited placement en) ar (placed_at n placement s)
  rests-within en ar n StaysActive s may w = w
  rests-within en ar n (RestsUntil time) s may w = within-rests (length p.blocks) (length p.entities) en ar s w n time (omega (arith, ints, may.1))
  rests-within en ar n (JoinsDelayList e) s may w = within-waits (length p.blocks) (length p.entities) en ar s w e n may.2
  rests-within en ar n JoinsRetryList s may w = within-retries (length p.blocks) (length p.entities) en ar s w n
  rests-within en ar n RestsAhead s may w = within-ahead (length p.blocks) (length p.entities) en ar s w n
  rests-within en ar n RestsBehind s may w = within-behind (length p.blocks) (length p.entities) en ar s w n
  rests-within en ar n (AwaitsSet a) s may w = within-awaits (length p.blocks) (length p.entities) en ar s w n a
  rests-within en ar n (JoinsChain l) s may w =
      within-linked (length p.blocks) (length p.entities) en ar s w n l may.1.below (at_some s.transactions n may.1.t may.1.found)
  rests-within en ar n LeavesModel s may w = within-destroyed (length p.blocks) (length p.entities) en ar s w n (at_some s.transactions n may.1.t may.1.found)

  pub change-within : {en ar c en' ar' c' : ℕ} {s t : State} → Change p en ar c s en' ar' c' t
      → IsWithin (length p.blocks) (length p.entities) en ar s → IsWithin (length p.blocks) (length p.entities) en' ar' t
  change-within (Goes {en = en} {ar = ar} {s = s} n to t u block row state h is same here known along may balance pays) w =
      within-entered (length p.blocks) (length p.entities) en ar s w n u to h
      (omega (arith, same.next, block_below p.blocks t.next block is.block_is)) (number_below s.transactions n t is.found)
      (same.mark w.clock (mark_from s.transactions n t w.marked is.found)) (balance.raises w.whole.entity_tables)
  change-within (EntersLast {en = en} {ar = ar} {s = s} n t block row is here pays) w =
      within-entered (length p.blocks) (length p.entities) en ar s w n t t.next s.entities (block_below p.blocks t.next block is.block_is)
      (number_below s.transactions n t is.found) (mark_from s.transactions n t w.marked is.found) (raises-same s.entities)
  change-within (Turns {en = en} {ar = ar} {s = s} n to t block row is here along may pays) w =
      within-turned (length p.blocks) (length p.entities) en ar s w n to t (number_below s.transactions n t is.found)
      (mark_from s.transactions n t w.marked is.found)
  change-within (GoesWith {en = en} {ar = ar} {s = s} n to q value t block row state is here known along may balance pays) w =
      let before = within-assigned (length p.blocks) (length p.entities) en ar s w n q value (number_below s.transactions n t is.found) in
      within-entered (length p.blocks) (length p.entities) en ar (assign_to n q value s) before n t to s.entities
      (block_below p.blocks t.next block is.block_is)
      (number_below (put_parameter n q value s.transactions) n t (attributes-parameter s.transactions n q value ∙ is.found))
      (mark_from s.transactions n t w.marked is.found) (raises-same s.entities)
  change-within (Arrives {en = en} {ar = ar} {s = s} b g row priority time block is none later passes owed few) w =
      within-arrives (length p.blocks) (length p.entities) en ar s w b priority time (block_below p.blocks b (blocks.Generate g) block) later
  change-within (Rests {en = en} {ar = ar} {s = s} n placement may settles) w = rests-within en ar n placement s may w
  change-within (Called {en = en} {ar = ar} {s = s} e n here below) w =
      within-called (length p.blocks) (length p.entities) (suc en) ar s w e n below here en refl
  change-within (Copied {en = en} {ar = ar} {s = s} n target b t u block row state found mark known block_is row_is along may facilities units few pays) w =
      within-copied (length p.blocks) (length p.entities) en ar s w n t target
      (subst (λ (z : ℤ). pos 0 ≤ℤ z) (sym mark) (mark_from s.transactions n u w.marked found))
  change-within (Assembled {en = en} {ar = ar} {s = s} a is) w = within-assembled (length p.blocks) (length p.entities) en ar s w a
  change-within (Comes {en = en} {ar = ar} {s = s} a is more) w = within-come (length p.blocks) (length p.entities) en ar s w a
  change-within (Unlinked {en = en} {ar = ar} {s = s} c target n t ns members row is found members_is row_is fits may below pays) w =
      within-unlinked (length p.blocks) (length p.entities) en ar s w c target n t below (number_below s.transactions n t found)
      (mark_from s.transactions n t w.marked found)
  change-within (Woken {en = en} {ar = ar} {s = s}) w = within-woken (length p.blocks) (length p.entities) en ar s w
  change-within (Activates {en = en} {ar = ar} {s = s} n ns nobody first) w = within-active (length p.blocks) (length p.entities) en ar s w n ns
  change-within (ClockMoves {en = en} {ar = ar} {s = s} e es is) w = within-clock (length p.blocks) (length p.entities) en ar s w e es is
  change-within (Draws {en = en} {ar = ar} {s = s} streams same) w =
      within-streams (length p.blocks) (length p.entities) en ar s w streams (same w.whole.streams)
  change-within (Counts {en = en} {ar = ar} {s = s} by) w = within-counted (length p.blocks) (length p.entities) en ar s w by
  change-within (Marks {en = en} {ar = ar} {s = s} steps ended) w = within-ended (length p.blocks) (length p.entities) en ar s w steps ended

  pub trace-within : {en ar c en' ar' c' : ℕ} {s t : State} → Trace p en ar c s en' ar' c' t
      → IsWithin (length p.blocks) (length p.entities) en ar s → IsWithin (length p.blocks) (length p.entities) en' ar' t
  trace-within Done w = w
  trace-within (Then x xs) w = trace-within xs (change-within x w)

-- ARRIVALS AND THE LIVE

-- an entry changes nothing of how many live
pub entered-live : (ts : List (Option LiveTransaction)) (n : ℕ) (a : Transaction) → live_count (put_attributes n a ts) ≡ live_count ts
entered-live ts n a = omega (arith, written-live ts n (option_map (with_attributes a) (at None ts n)), ap one_if (is_some-attributes a (at None ts n)))

assigned-live : (ts : List (Option LiveTransaction)) (n q : ℕ) (value : ℤ) → live_count (put_parameter n q value ts) ≡ live_count ts
assigned-live ts n q value =
    omega (arith, written-live ts n (option_map (with_parameter q value) (at None ts n)), ap one_if (is_some-parameter q value (at None ts n)))

same_generate : (g h : Generate) → Some (blocks.Generate g) ≡ Some (blocks.Generate h) → g ≡ h
same_generate g h is = cc

one_owed : (limit : Option ℕ) (k : ℕ) → is_owed limit k ≡ true → IfSome limit (λ most. k + 1 ≤ most)
one_owed None k h = tt
one_owed (Some most) k h = omega (arith, ltb-true k most h)

-- one more arrival is scheduled
pub limits-raised : (bs : List Block) (scheduled : List ℕ) (b : ℕ) (g : Generate) → block_at bs b ≡ Some (blocks.Generate g)
    → is_owed g.limit (at 0 scheduled b) ≡ true → AreWithinLimits bs scheduled → AreWithinLimits bs (with_one_more_at b scheduled)
limits-raised bs scheduled b g is owed l = record {
  arrivals = by_entry 0 scheduled b (at 0 scheduled b + 1)
      (λ c k. (h : Generate) → block_at bs c ≡ Some (blocks.Generate h) → IfSome h.limit (λ limit. k ≤ limit))
      (λ h here. subst (λ (x : Generate). IfSome x.limit (λ limit. at 0 scheduled b + 1 ≤ limit)) (same_generate g h (sym is ∙ here))
      (one_owed g.limit (at 0 scheduled b) owed))
      (λ c apart. l.arrivals c);
}

change-limits : (p : Parts) {en ar c en' ar' c' : ℕ} {s t : State} → Change p en ar c s en' ar' c' t → AreWithinLimits p.blocks s.scheduled
    → AreWithinLimits p.blocks t.scheduled
change-limits p (Arrives {s = s} b g row priority time block is none later passes owed few) l = limits-raised p.blocks s.scheduled b g block owed l
change-limits p (Rests {s = s} n placement may settles) l = subst (AreWithinLimits p.blocks) (sym (placed_at-leaves n placement s).scheduled) l
change-limits p change l = l

pub trace-limits : (p : Parts) {en ar c en' ar' c' : ℕ} {s t : State} → Trace p en ar c s en' ar' c' t
    → AreWithinLimits p.blocks s.scheduled → AreWithinLimits p.blocks t.scheduled
trace-limits p = along p (λ (s : State). AreWithinLimits p.blocks s.scheduled) (λ en ar c en' ar' c' s t x. change-limits p x)

change-live : (p : Parts) {en ar c en' ar' c' : ℕ} {s t : State} → Change p en ar c s en' ar' c' t → AreFewLive s.transactions → AreFewLive t.transactions
change-live p (Goes {s = s} n to t u block row state h is same here known along may balance pays) l =
    record { live = omega (arith, l.live, entered-live s.transactions n (record u { current = u.next; next = to })) }
change-live p (EntersLast {s = s} n t block row is here pays) l =
    record { live = omega (arith, l.live, entered-live s.transactions n (record t { current = t.next })) }
change-live p (Turns {s = s} n to t block row is here along may pays) l =
    record { live = omega (arith, l.live, entered-live s.transactions n (record t { next = to })) }
change-live p (GoesWith {s = s} n to q value t block row state is here known along may balance pays) l =
    record {
      live = omega (
        arith,
        l.live,
        assigned-live s.transactions n q value,
        entered-live (put_parameter n q value s.transactions) n (record t { current = t.next; next = to }),
      );
    }
change-live p (Arrives {s = s} b g row priority time block is none later passes owed few) l =
    record {
      live = omega (
        arith,
        leb-true (live_count s.transactions + 1) 65536 few,
        written-live s.transactions (length s.transactions) (Some (newcomer b priority s)),
      );
    }
change-live p (Rests {s = s} n placement may settles) l = record { live = omega (arith, l.live, placed-live n placement s) }
change-live p (Copied {s = s} n target b t u block row state found mark known block_is row_is along may facilities units few pays) l =
    record {
      live = omega (
        arith,
        few,
        written-live s.transactions (length s.transactions) (Some (made_with (parameters_of n s) (record t { next = target }))),
      );
    }
change-live p (Unlinked {s = s} c target n t ns members row is found members_is row_is fits may below pays) l =
    record {
      live = omega (
        arith,
        l.live,
        entered-live s.transactions n (record t { next = target }),
        chained-live (put_attributes n (record t { next = target }) s.transactions) n None,
      );
    }
change-live p change l = l

pub trace-live : (p : Parts) {en ar c en' ar' c' : ℕ} {s t : State} → Trace p en ar c s en' ar' c' t → AreFewLive s.transactions → AreFewLive t.transactions
trace-live p = along p (λ (s : State). AreFewLive s.transactions) (λ en ar c en' ar' c' s t x. change-live p x)
