-- How much is still to be moved at once: it falls with each step of a clock moment that makes no entry.
use Rattle.std.proofs.Common.{◌≡◌, ℕ, suc, ◌+◌, ◌*◌, ◌≤◌, ℤ, List, [], ◌∷◌, ◌++◌, length, Option, Some, None, Bool, true, false, is_some}
use Rattle.std.proofs.Common.{if◌then◌else◌, refl, sym, ap, ◌∙◌, subst, arith, inl, inr}
use Rattle.std.specs.Prelude.{int_le, sum, IsSome}
use Rattle.std.proofs.lemmas.Bool.{cases_eq}
use Rattle.std.proofs.lemmas.Int.{ints}
use Rattle.std.proofs.lemmas.List.{length-append}
use Rattle.gw_object.specs.declared.parts.Parts.{Parts}
use Rattle.gw_num.specs.Table.{at, put}
use Rattle.gw_num.proofs.Tables.{at-put_other}
use Rattle.gw_members.specs.Chain.{placed_behind, all_behind, later}
use Rattle.gw_transactions.specs.Transactions.{LiveTransaction, live_count}
use Rattle.gw_step.specs.declared.placement.Placement.{Placement}
use Rattle.gw_step.specs.declared.placement.Placement.TheVariants.{JoinsDelayList, JoinsRetryList}
use Rattle.gw_step.specs.State.{FutureEvent, State, priority_of}
use Rattle.gw_step.specs.Changes.{waits_for, retries, wake, clock_moves}
use Rattle.gw_step.specs.Placing.{place_by}
use Rattle.gw_step.specs.Residence.{occurrences, active_numbers}
use Rattle.gw_step.specs.Numbers.{AreFewLive}
use Rattle.gw_step.specs.Typing.{WellTyped}
use Rattle.gw_step.proofs.Residence.{one_if, same_number, at_most_one, occurrences-append}
use Rattle.gw_step.proofs.Within.{sum-raised}
use Rattle.gw_step.proofs.Traces.{Change, Goes, EntersLast, Turns, GoesWith, Arrives, Copied, Rests, Called, Assembled, Comes, Unlinked, Woken}
use Rattle.gw_step.proofs.Traces.{Activates, ClockMoves, Draws, Counts, Marks, Trace, Done, Then}
use Rattle.gw_step.proofs.Placed.{placed_at-leaves, placed-leaves}
use Rattle.gw_step.proofs.Bounds.{written-live}

-- WHAT IS TO BE MOVED

-- the first of these events is at a moment or before
abbrev pub is_due : ℤ → List FutureEvent → Bool
is_due moment [] = false
is_due moment (e ∷ es) = int_le e.time moment

-- who is active or may become so in this clock moment without an entry and without an arrival: who waits for a condition only where something has stirred
abbrev pub to_move : State → ℕ
to_move s = length (active_numbers s.lists.active) + 2 * length s.lists.current_events + (if s.stir then 2 * length s.lists.retry else 0)

-- where arrivals are due, all who wait for a condition are woken by them
abbrev pub again : Bool → ℕ
again true = 131073
again false = 0

-- how much may be moved before the next entry
abbrev pub unrest : State → ℕ
unrest s = to_move s + again (is_due s.clock s.lists.future_events)

-- at most so many may be moved
pub record AreFew (s : State) : Type 0 where
  pub few : length (active_numbers s.lists.active) + length s.lists.current_events + length s.lists.retry ≤ 65536

-- what a step does: it makes an entry, or leaves less to be moved, or brings an end
pub data Moves (s t : State) : Type 0 where
  MakesEntry : sum s.entries + 1 ≤ sum t.entries → Moves s t
  Calms : (t.clock ≡ s.clock → AreFew t → unrest t + 1 ≤ unrest s) → Moves s t
  Ends : IsSome t.ended → unrest t ≤ unrest s → Moves s t

-- HOW MANY RESIDE

-- the numbers of a list in which none occurs twice and all are those of live transactions are no more than these
pub few_live : (xs : List ℕ) (ts : List (Option LiveTransaction)) → ((n : ℕ) → occurrences n xs ≤ one_if (is_some (at None ts n))) → length xs ≤ live_count ts
few_live [] ts h = omega arith
few_live (x ∷ xs) ts h =
    let own = h x in
    let lives = at_most_one (is_some (at None ts x)) in
    let without = few_live xs (put None ts x None) (λ n. elim (cases_eq n x) [
      | inl same ↦ omega (arith, own, lives, same_number x x refl, ap (λ k. occurrences k xs) same)
      | inr other ↦ omega (arith, h n, ap (λ o. one_if (is_some o)) (at-put_other None ts x n None other))
    ]) in
    omega (arith, without, own, lives, same_number x x refl, written-live ts x None)

pub are_few : (s : State) {p : Parts} → WellTyped p s → AreFewLive s.transactions → AreFew s
are_few s ty live =
    let all = (active_numbers s.lists.active ++ s.lists.current_events) ++ s.lists.retry in
    record {
      few = omega (
        arith,
        few_live all s.transactions (λ n. omega (
          arith,
          ty.resides n,
          occurrences-append n (active_numbers s.lists.active ++ s.lists.current_events) s.lists.retry,
          occurrences-append n (active_numbers s.lists.active) s.lists.current_events,
        )),
        live.live,
        length-append (active_numbers s.lists.active ++ s.lists.current_events) s.lists.retry,
        length-append (active_numbers s.lists.active) s.lists.current_events,
      );
    }

-- so there is no more to be moved than this
pub unrest_below : (s : State) → AreFew s → unrest s ≤ 262145
unrest_below s few = omega (arith, few.few, by_stir s.stir, by_due (is_due s.clock s.lists.future_events))
  where
    by_stir : (b : Bool) → (if b then 2 * length s.lists.retry else 0) ≤ 2 * length s.lists.retry
    by_stir true = omega arith
    by_stir false = omega arith

    by_due : (b : Bool) → again b ≤ 131073
    by_due true = omega arith
    by_due false = omega arith

-- LENGTHS

length-placed : (passes : ℕ → Bool) (x : ℕ) (xs : List ℕ) → length (placed_behind passes x xs) ≡ suc (length xs)
length-placed passes x [] = refl
length-placed passes x (y ∷ ys) = by_test (passes y) (length-placed passes x ys)
  where
    by_test : (b : Bool) → length (placed_behind passes x ys) ≡ suc (length ys)
        → length (if b then y ∷ placed_behind passes x ys else x ∷ y ∷ ys) ≡ suc (suc (length ys))
    by_test true more = omega (arith, more)
    by_test false more = refl

length-woken : (priority : ℕ → ℤ) (xs ys : List ℕ) → length (all_behind priority xs ys) ≡ length xs + length ys
length-woken priority [] ys = omega arith
length-woken priority (x ∷ xs) ys =
    omega (
      arith,
      length-woken priority xs (placed_behind (λ y. int_le (priority x) (priority y)) x ys),
      length-placed (λ y. int_le (priority x) (priority y)) x ys,
    )

-- STEPS WITHOUT AN ENTRY

-- where a block that refuses places who is refused
abbrev pub Refuses : Placement → Type 0
Refuses (JoinsDelayList e) = Unit {0}
Refuses JoinsRetryList = Unit {0}
Refuses placement = ⊥

module _ (n : ℕ) (s : State) (active : s.lists.active ≡ Some n) where
  was_one : length (active_numbers s.lists.active) ≡ 1
  was_one = ap (λ a. length (active_numbers a)) active

  -- what of the retry list is to be moved, by whether something has stirred
  to_wake : (b : Bool) → s.stir ≡ b → (xs : List ℕ) → (if s.stir then 2 * length xs else 0) ≡ (if b then 2 * length xs else 0)
  to_wake b is xs = ap (λ (c : Bool). if c then 2 * length xs else 0) is

  delayed : (e : ℕ) (b : Bool) → s.stir ≡ b → unrest (waits_for e n (if b then wake s else s)) + 1 ≤ unrest s
  delayed e true is = omega (arith, was_one, to_wake true is s.lists.retry, length-woken (priority_of s.transactions) s.lists.retry s.lists.current_events)
  delayed e false is = omega (arith, was_one)

  retried : (b : Bool) → s.stir ≡ b → unrest (retries n (if b then wake s else s)) + 1 ≤ unrest s
  retried true is = omega (arith, was_one, to_wake true is s.lists.retry, length-woken (priority_of s.transactions) s.lists.retry s.lists.current_events)
  retried false is = omega (arith, was_one, to_wake false is s.lists.retry, to_wake false is (s.lists.retry ++ n ∷ []))

  -- the active transaction is refused
  pub refused_calms : (placement : Placement) → Refuses placement → unrest (place_by n placement s) + 1 ≤ unrest s
  refused_calms (JoinsDelayList e) refuses = delayed e s.stir refl
  refused_calms JoinsRetryList refuses = retried s.stir refl
  refused_calms placement refuses = absurd refuses

-- the first of the current events chain becomes active
pub activates_calms : (n : ℕ) (ns : List ℕ) (s : State) → s.lists.active ≡ None → s.lists.current_events ≡ n ∷ ns
    → unrest (record s { lists = record s.lists { active = Some n; current_events = ns } }) + 1 ≤ unrest s
activates_calms n ns s nobody first =
    let none : length (active_numbers s.lists.active) ≡ 0 = ap (λ a. length (active_numbers a)) nobody in
    let one : length s.lists.current_events ≡ suc (length ns) = ap (λ (xs : List ℕ). length xs) first in
    omega (arith, none, one)

-- what is left behind what is due isn't due
not_due : (moment : ℤ) (es : List FutureEvent) → is_due moment (later (λ (e : FutureEvent). e.time) moment es) ≡ false
not_due moment [] = refl
not_due moment (e ∷ es) = by_test (int_le e.time moment) refl (not_due moment es)
  where
    by_test : (b : Bool) → int_le e.time moment ≡ b → is_due moment (later (λ (e : FutureEvent). e.time) moment es) ≡ false
        → is_due moment (if b then later (λ (e : FutureEvent). e.time) moment es else e ∷ es) ≡ false
    by_test true is none = none
    by_test false is none = is

-- the clock moves to where it is: all that are due join the current events chain, and the retry list is woken
pub clock_calms : (s : State) (e : FutureEvent) (es : List FutureEvent) → s.lists.active ≡ None → s.lists.future_events ≡ e ∷ es
    → (wake (clock_moves e.time s)).clock ≡ s.clock → AreFew (wake (clock_moves e.time s)) → unrest (wake (clock_moves e.time s)) + 1 ≤ unrest s
clock_calms s e es nobody first same few =
    let none : length (active_numbers s.lists.active) ≡ 0 = ap (λ a. length (active_numbers a)) nobody in
    let was : again (is_due s.clock s.lists.future_events) ≡ again true = ap (λ xs. again (is_due s.clock xs)) first ∙ ap again (due_now same) in
    let is : again (is_due e.time (later (λ (x : FutureEvent). x.time) e.time s.lists.future_events)) ≡ again false =
    ap again (not_due e.time s.lists.future_events) in
    omega (arith, few.few, none, was, is)
  where
    due_now : e.time ≡ s.clock → int_le e.time s.clock ≡ true
    due_now same = by_test (int_le e.time s.clock) refl
      where
        by_test : (b : Bool) → int_le e.time s.clock ≡ b → b ≡ true
        by_test true is = refl
        by_test false is = absurd (omega (arith, ints, same, is))

-- STEPS WITH AN ENTRY

-- an entry that is made stays made once the transaction is placed
pub placed_grows : (n : ℕ) (placement : Placement) (s t : State) → sum s.entries + 1 ≤ sum t.entries → sum s.entries + 1 ≤ sum (place_by n placement t).entries
placed_grows n placement s t grows = subst (λ xs. sum s.entries + 1 ≤ sum xs) (sym (placed-leaves n placement t).entries) grows

-- no elementary change takes an entry back
change-grows : (p : Parts) {en ar c en' ar' c' : ℕ} {s t : State} → Change p en ar c s en' ar' c' t → sum s.entries ≤ sum t.entries
change-grows p (Goes {s = s} n to t u block row state h is same here known along may balance pays) = omega (arith, sum-raised u.next s.entries)
change-grows p (EntersLast {s = s} n t block row is here pays) = omega (arith, sum-raised t.next s.entries)
change-grows p (Turns n to t block row is here along may pays) = omega arith
change-grows p (GoesWith {s = s} n to q value t block row state is here known along may balance pays) = omega (arith, sum-raised t.next s.entries)
change-grows p (Arrives b g row priority time block is none later passes owed few) = omega arith
change-grows p (Rests {s = s} n placement may settles) = omega (arith, ap (λ (xs : List ℕ). sum xs) (placed_at-leaves n placement s).entries)
change-grows p (Called e n here below) = omega arith
change-grows p (Copied n target b t u block row state found mark known block_is row_is along may facilities units few pays) = omega arith
change-grows p (Assembled a is) = omega arith
change-grows p (Comes a is more) = omega arith
change-grows p (Unlinked c target n t ns members row is found members_is row_is fits may below pays) = omega arith
change-grows p Woken = omega arith
change-grows p (Activates n ns nobody first) = omega arith
change-grows p (ClockMoves e es is) = omega arith
change-grows p (Draws streams same) = omega arith
change-grows p (Counts by) = omega arith
change-grows p (Marks steps ended) = omega arith

pub trace-grows : (p : Parts) {en ar c en' ar' c' : ℕ} {s t : State} → Trace p en ar c s en' ar' c' t → sum s.entries ≤ sum t.entries
trace-grows p Done = omega arith
trace-grows p (Then x xs) = omega (arith, change-grows p x, trace-grows p xs)
