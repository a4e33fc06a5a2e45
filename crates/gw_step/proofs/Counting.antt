-- What a scan leaves of the counts: the steps, the end and the termination count; and of whether something has stirred.
use Rattle.std.proofs.Common.{◌≡◌, ◌⊎◌, ℕ, ◌+◌, ℤ, pos, ◌<ℤ◌, List, [], ◌∷◌, Option, Some, None, Bool, true, false, not, if◌then◌else◌, nat_le, ◌==◌}
use Rattle.std.proofs.Common.{zero, suc, refl, sym, ap, ◌∙◌, subst, arith, inl, inr}
use Rattle.std.specs.Prelude.{int_lt, unwrap_or}
use Rattle.std.proofs.lemmas.Int.{ints}
use Rattle.gw_object.specs.declared.blocks.Generate.{Generate}
use Rattle.gw_object.specs.declared.blocks.Split.{Split}
use Rattle.gw_object.specs.declared.blocks.Unlink.{Unlink}
use Rattle.gw_object.specs.declared.blocks.Block.{Block}
use Rattle.gw_object.specs.declared.blocks.Block.TheVariants as blocks
use Rattle.gw_object.specs.declared.parts.Parts.{Parts}
use Rattle.gw_rules.specs.Kinds.{block_at}
use Rattle.gw_rules.specs.Exits.{leads_to, goes_or_falls}
use Rattle.gw_rules.specs.Values.{evaluation_of, operands}
use Rattle.gw_num.specs.Arithmetic.{difference_of}
use Rattle.gw_num.specs.Table.{at}
use Rattle.gw_transactions.specs.declared.Transaction.{Transaction}
use Rattle.gw_transactions.specs.Transactions.{attributes_at, parameter_at}
use Rattle.gw_transactions.specs.Transactions.{live_count}
use Rattle.gw_entities.specs.Facility.{seizure_by, release_by, owns_any}
use Rattle.gw_entities.specs.Storage.{entry_of, exit_of}
use Rattle.gw_entities.specs.Queue.{with_arrivals, departure_of}
use Rattle.gw_entities.specs.Tabulation.{tabulation_of}
use Rattle.gw_step.specs.declared.ends.End.{End}
use Rattle.gw_step.specs.declared.ends.End.TheVariants.{Done, Number, Live}
use Rattle.gw_step.specs.declared.placement.Placement.{Placement}
use Rattle.gw_step.specs.Outcome.{Outcome, Gives, EndsBy, HasNoCase, ◌>>=◌, case_of, evaluation_outcome}
use Rattle.gw_step.specs.State.{FutureEvent, Assembly, State, may_enter, with_streams, delay_list, user_chain}
use Rattle.gw_step.specs.Times.{environment_of, environment_of_next, moment_after, drawn_moment}
use Rattle.gw_step.specs.Changes.{copy_to, copies_made, assemble_all, come_to, leaves_chain, enter_next, enters_and_falls, assign_to, arrives}
use Rattle.gw_step.specs.Changes.{facility, storage, queue, switch, savevalue, put_facility, put_storage, put_queue, put_switch, put_savevalue, table}
use Rattle.gw_step.specs.Changes.{put_table, end_at, wake}
use Rattle.gw_step.specs.declared.placement.Placement.TheVariants.{StaysActive, JoinsRetryList}
use Rattle.gw_step.specs.Placing.{place_by, woken_if_stirred}
use Rattle.gw_step.specs.Typing.{IsWoken}
use Rattle.gw_step.specs.Blocks.{refuses, refused_placement, is_owed, next_arrival, choice_of, passes_test, is_so, led_by, block_after, put_by}
use Rattle.gw_step.specs.Blocks.{loop_target, switch_after, the_value, plus, split, assembly_at, joined_by_one, first_unlinked, unlink_members}
use Rattle.gw_step.specs.Blocks.{taken_by, unlink, assemble_in, assemble, is_priority, is_terminate, effect, then_placed, meets, act}
use Rattle.gw_step.specs.Turning.{two_next, towards, turn_to}
use Rattle.gw_step.specs.Step.{next_event, next_active, meets_one, refusal, tries, goes_on, scan}
use Rattle.gw_step.proofs.Outcomes.{OnGives, on_bind, on_test, on_if, on_both, choose, by_option}
use Rattle.gw_step.proofs.Placed.{Leaves, placed-leaves}
use Rattle.gw_step.proofs.Follows.{Stays, stays-same, stays-then, stays-hand_over, stays-admission}

-- from s to t the steps stay, and so do the end and the termination count, or the count brings the end
pub record IsCounted (s t : State) : Type 0 where
  pub steps : t.steps ≡ s.steps
  pub ended : ((t.ended ≡ s.ended) × (t.count ≡ s.count)) ⊎ (t.ended ≡ end_at t.count)

counted_same : (s t : State) → Leaves s t → IsCounted s t
counted_same s t h = record { steps = h.steps; ended = inl (h.ended, h.count) }

counted_then : (s t u : State) → IsCounted s t → u.steps ≡ t.steps → u.ended ≡ t.ended → u.count ≡ t.count → IsCounted s u
counted_then s t u c steps ended count = record {
  steps = steps ∙ c.steps;
  ended = elim c.ended [
    | inl same ↦ inl (ended ∙ same.0, count ∙ same.1)
    | inr brought ↦ inr (ended ∙ brought ∙ ap end_at (sym count))
  ];
}

-- an entry of a block that isn't a TERMINATE changes none of them, and who is active stays so
record Enters (s t : State) : Type 0 where
  steps : t.steps ≡ s.steps
  ended : t.ended ≡ s.ended
  count : t.count ≡ s.count
  active : t.lists.active ≡ s.lists.active

enters_on : (s t u : State) → Enters s t → Stays t u → Enters s u
enters_on s t u e h = record {
  steps = h.steps ∙ e.steps;
  ended = h.ended ∙ e.ended;
  count = h.count ∙ e.count;
  active = h.active ∙ e.active;
}

-- any entry counts so, and who is active stays so
record Counts (s t : State) : Type 0 where
  counted : IsCounted s t
  active : t.lists.active ≡ s.lists.active

entry_counts : (s t : State) → Enters s t → Counts s t
entry_counts s t e = record { counted = record { steps = e.steps; ended = inl (e.ended, e.count) }; active = e.active }

-- a scan counts so, and where nobody is active then the retry list was woken since the last entry
record Scans (s t : State) : Type 0 where
  counted : IsCounted s t
  woken : IsWoken t

-- who is placed and doesn't stay active wakes the retry list
stirs_no_more : (s : State) → (woken_if_stirred s).stir ≡ false
stirs_no_more s = choose (λ (t : State). t.stir ≡ false) s.stir (wake s) s (λ _. refl) (λ is. is)

some_is_active : (n : ℕ) (s : State) → s.lists.active ≡ Some n → IsWoken s
some_is_active n s active none = let never : Some n ≡ None = sym active ∙ none in absurd cc

placed_wakes : (n : ℕ) (placement : Placement) (s : State) → s.lists.active ≡ Some n → IsWoken (place_by n placement s)
placed_wakes n StaysActive s active = some_is_active n s active
placed_wakes n placement s active = λ _. stirs_no_more s

-- BLOCKS

on_then : {A : Type 0} (P Q : A → Type 0) (o : Outcome A) → OnGives P o → ((a : A) → P a → Q a) → OnGives Q o
on_then P Q (Gives a) h k = k a h
on_then P Q (EndsBy end) h k = tt
on_then P Q HasNoCase h k = tt

on_case : {A B : Type 0} (P : B → Type 0) (r : Option A) (f : A → Outcome B) → ((a : A) → OnGives P (f a)) → OnGives P (case_of r >>= f)
on_case P (Some a) f h = h a
on_case P None f h = tt

-- copies change nothing of the counts
copies_stay : (k n : ℕ) (t : Transaction) (target : ℕ) (s : State) → Stays s (copies_made k n t target s)
unfolding copies_made
copies_stay zero n t target s = stays-same s
copies_stay (suc k) n t target s = let h = copies_stay k n t target (copy_to n t target s) in
    record { clock = h.clock; count = h.count; steps = h.steps; ended = h.ended; active = h.active }

-- nor does who comes to an assembly
joined_stays : (a : Assembly) (s : State) → Stays s (joined_by_one a s)
joined_stays a s = choose (Stays s) (nat_le a.missing 1) (assemble_all a s) (come_to a s)
    (λ _. record { clock = refl; count = refl; steps = refl; ended = refl; active = refl })
    (λ _. record { clock = refl; count = refl; steps = refl; ended = refl; active = refl })

-- nor do members that leave a user chain
unlinked_stay : (k c target : ℕ) (s : State) → Stays s (unlink_members k c target s)
unfolding unlink_members
unlinked_stay zero c target s = stays-same s
unlinked_stay (suc k) c target s =
    let first = first_unlinked c target (user_chain c s) s in
    stays-then s first (unlink_members k c target first) (first_stays (user_chain c s)) (unlinked_stay k c target first)
  where
    first_stays : (ms : List ℕ) → Stays s (first_unlinked c target ms s)
    first_stays [] = stays-same s
    first_stays (n ∷ ns) = by_option (Stays s) (attributes_at n s.transactions) (λ t. leaves_chain c target n t s) s
        (λ t there. record { clock = refl; count = refl; steps = refl; ended = refl; active = refl }) (λ none. stays-same s)

module _ (s : State) where
  abbrev Entered : State × Placement → Type 0
  Entered e = Enters s e.0

  -- it passes, and an entity changes
  passed : (t : State) → t.steps ≡ s.steps → t.ended ≡ s.ended → t.count ≡ s.count → t.lists.active ≡ s.lists.active → Enters s t
  passed t steps ended count active = record { steps = steps; ended = ended; count = count; active = active }

  arrival_stays : (p : Parts) (b : ℕ) (g : Generate) → OnGives (Stays s) (next_arrival p b g s)
  arrival_stays p b g =
      on_if (Stays s) (is_owed g.limit (at 0 s.scheduled b)) _ (Gives s)
      (on_bind (Stays s) (drawn_moment p (environment_of_next g.priority s) g.interval s.clock s.streams) _
      (λ d _. on_if (Stays s) (nat_le (live_count s.transactions + 1) 65536) (Gives (arrives b g.priority d.0 (with_streams d.1 s)))
      (EndsBy Live) (record { clock = refl; count = refl; steps = refl; ended = refl; active = refl }) tt))
      (stays-same s)

  plus_counted : (p : Parts) (n : ℕ) (t : Transaction) (q : Option ℕ) (value : ℤ) → OnGives Entered (plus p.blocks n t q value s)
  plus_counted p n t None value = on_test Entered (may_enter (block_at p.blocks (t.next + 1))) _ (passed (enters_and_falls n t s) refl refl refl refl)
  plus_counted p n t (Some q) value =
      on_test Entered (may_enter (block_at p.blocks (t.next + 1))) _ (passed (enters_and_falls n t (assign_to n q value s)) refl refl refl refl)

  split_counted : (p : Parts) (n : ℕ) (t : Transaction) (c : Split) → OnGives Entered (split p.blocks n t c s)
  split_counted p n t c =
      let target = leads_to t.next (goes_or_falls c.target) in
      let u = enters_and_falls n t s in
      let made = enters_on s u (copies_made c.copies n (record t { current = t.next }) target u) (passed u refl refl refl refl)
      (copies_stay c.copies n (record t { current = t.next }) target u) in
      on_if Entered (nat_le (live_count s.transactions + c.copies) 65536) _ (EndsBy Live)
      (on_test Entered (may_enter (block_at p.blocks (t.next + 1))) _
      (on_if Entered (c.copies == 0) _ _ made (on_test Entered (may_enter (block_at p.blocks target)) _ made)))
      tt

  joined_counted : (p : Parts) (n : ℕ) (t : Transaction) (size : ℕ) (o : Option Assembly) → OnGives Entered (assemble_in p.blocks n t size o s)
  joined_counted p n t size None = on_test Entered (may_enter (block_at p.blocks (t.next + 1))) _ (passed (enters_and_falls n t s) refl refl refl refl)
  joined_counted p n t size (Some a) = let u = enter_next n t t.next s in
      on_test Entered (not (owns_any n s.entities.facilities)) _ (enters_on s u (joined_by_one a u) (passed u refl refl refl refl) (joined_stays a u))

  assemble_counted : (p : Parts) (n : ℕ) (t : Transaction) (size : ℕ) → OnGives Entered (assemble p.blocks n t size s)
  assemble_counted p n t size =
      on_if Entered (nat_le size 1) _ _
      (on_test Entered (may_enter (block_at p.blocks (t.next + 1))) _ (passed (enters_and_falls n t s) refl refl refl refl))
      (joined_counted p n t size (assembly_at t.next t.set s))

  unlink_counted : (p : Parts) (n : ℕ) (t : Transaction) (u : Unlink) → OnGives Entered (unlink p.blocks n t u s)
  unlink_counted p n t u =
      let v = enters_and_falls n t s in
      let made = enters_on s v (unlink_members (taken_by u s) u.chain u.target v) (passed v refl refl refl refl)
      (unlinked_stay (taken_by u s) u.chain u.target v) in
      on_test Entered (may_enter (block_at p.blocks (t.next + 1))) _
      (on_if Entered (taken_by u s == 0) _ _ made (on_test Entered (may_enter (block_at p.blocks u.target)) _ made))

  effect_enters : (p : Parts) (n : ℕ) (t : Transaction) (block : Block) (values : List ℤ) → is_terminate block ≡ false
      → OnGives Entered (effect p n t block values s)
  unfolding effect
  effect_enters p n t (blocks.Generate g) values other =
      on_both (Stays s) Entered (next_arrival p t.next g s) _ (arrival_stays p t.next g)
      (λ u h. on_test Entered (may_enter (block_at p.blocks (t.next + 1))) _
      (passed (enters_and_falls n (record t { mark = s.clock }) u) h.steps h.ended h.count h.active))
  effect_enters p n t (blocks.Terminate by) values other = absurd cc
  effect_enters p n t (blocks.Advance time) values other =
      on_bind Entered (moment_after s.clock (the_value values)) _
      (λ moment _. on_test Entered (may_enter (block_at p.blocks (t.next + 1))) _ (passed (enters_and_falls n t s) refl refl refl refl))
  effect_enters p n t (blocks.Seize f) values other =
      on_test Entered (may_enter (block_at p.blocks (t.next + 1))) _
      (on_case Entered (seizure_by n (facility f s)) _ (λ r. passed (put_facility f r.1 (enters_and_falls n t s)) refl refl refl refl))
  effect_enters p n t (blocks.Release f) values other =
      on_test Entered (may_enter (block_at p.blocks (t.next + 1))) _ (on_case Entered (release_by n (facility f s)) _
      (λ r. let u = put_facility f r (enters_and_falls n t s) in
      enters_on s u _ (passed u refl refl refl refl) (stays-hand_over p.blocks u f (delay_list f s))))
  effect_enters p n t (blocks.Enter u) values other =
      on_test Entered (may_enter (block_at p.blocks (t.next + 1))) _
      (on_case Entered (entry_of u.number (storage u.entity s)) _ (λ r. passed (put_storage u.entity r.1 (enters_and_falls n t s)) refl refl refl refl))
  effect_enters p n t (blocks.Leave u) values other =
      on_test Entered (may_enter (block_at p.blocks (t.next + 1))) _ (on_case Entered (exit_of u.number (storage u.entity s)) _
      (λ r. let v = put_storage u.entity r (enters_and_falls n t s) in
      enters_on s v _ (passed v refl refl refl refl) (stays-admission p.blocks u.entity (delay_list u.entity s) v)))
  effect_enters p n t (blocks.Queue u) values other =
      on_test Entered (may_enter (block_at p.blocks (t.next + 1))) _
      (passed (put_queue u.entity (with_arrivals u.number (queue u.entity s)) (enters_and_falls n t s)) refl refl refl refl)
  effect_enters p n t (blocks.Depart u) values other =
      on_test Entered (may_enter (block_at p.blocks (t.next + 1))) _
      (on_case Entered (departure_of u.number (queue u.entity s)) _ (λ r. passed (put_queue u.entity r (enters_and_falls n t s)) refl refl refl refl))
  effect_enters p n t (blocks.Assign a) values other =
      on_bind Entered (evaluation_outcome (evaluation_of (put_by a.mode (unwrap_or (parameter_at n a.parameter s.transactions) (pos 0)) (the_value values)))) _
      (λ new _. on_test Entered (may_enter (block_at p.blocks (t.next + 1))) _
      (passed (enters_and_falls n t (assign_to n a.parameter new s)) refl refl refl refl))
  effect_enters p n t (blocks.Test test) values other =
      let to = led_by t.next test.otherwise (passes_test test values) in
      on_test Entered (may_enter (block_at p.blocks to)) _ (passed (enter_next n t to s) refl refl refl refl)
  effect_enters p n t (blocks.Gate gate) values other =
      let to = led_by t.next gate.otherwise (is_so gate.condition gate.entity s) in
      on_test Entered (may_enter (block_at p.blocks to)) _ (passed (enter_next n t to s) refl refl refl refl)
  effect_enters p n t (blocks.Transfer target) values other =
      on_test Entered (may_enter (block_at p.blocks target)) _ (passed (enter_next n t target s) refl refl refl refl)
  effect_enters p n t (blocks.TransferByFraction f) values other =
      on_test Entered (may_enter (block_at p.blocks (choice_of t.next f (the_value values)))) _
      (passed (enter_next n t (choice_of t.next f (the_value values)) s) refl refl refl refl)
  effect_enters p n t (blocks.TransferBoth two) values other =
      on_test Entered (may_enter (block_at p.blocks (leads_to t.next (goes_or_falls two.first)))) _
      (on_test Entered (may_enter (block_at p.blocks two.second)) _ (passed (enter_next n t t.next s) refl refl refl refl))
  effect_enters p n t (blocks.TransferToSubroutine c) values other =
      on_test Entered (may_enter (block_at p.blocks c.target)) _ (passed (enter_next n t c.target (assign_to n c.parameter (pos t.next) s)) refl refl refl refl)
  effect_enters p n t (blocks.TransferByParameter q) values other =
      on_bind Entered (case_of (parameter_at n q s.transactions)) _
      (λ value _. on_test Entered (may_enter (block_at p.blocks (block_after value))) _ (passed (enter_next n t (block_after value) s) refl refl refl refl))
  effect_enters p n t (blocks.Loop l) values other =
      on_bind Entered (case_of (parameter_at n l.parameter s.transactions)) _
      (λ old _. on_bind Entered (evaluation_outcome (evaluation_of (difference_of old (pos 1)))) _
      (λ left _. on_test Entered (may_enter (block_at p.blocks (loop_target t.next l.target left))) _
      (passed (enter_next n t (loop_target t.next l.target left) (assign_to n l.parameter left s)) refl refl refl refl)))
  effect_enters p n t (blocks.Logic l) values other =
      on_test Entered (may_enter (block_at p.blocks (t.next + 1))) _
      (passed (put_switch l.switch (switch_after l.action (switch l.switch s)) (enters_and_falls n t s)) refl refl refl refl)
  effect_enters p n t (blocks.Savevalue a) values other =
      on_bind Entered (evaluation_outcome (evaluation_of (put_by a.mode (savevalue a.savevalue s) (the_value values)))) _
      (λ new _. on_test Entered (may_enter (block_at p.blocks (t.next + 1))) _
      (passed (put_savevalue a.savevalue new (enters_and_falls n t s)) refl refl refl refl))
  effect_enters p n t (blocks.Tabulate e) values other =
      on_bind Entered (evaluation_outcome (evaluation_of (tabulation_of (the_value values) (table e s)))) _
      (λ new _. on_test Entered (may_enter (block_at p.blocks (t.next + 1))) _ (passed (put_table e new (enters_and_falls n t s)) refl refl refl refl))
  effect_enters p n t (blocks.Split c) values other = split_counted p n t c
  effect_enters p n t (blocks.Assemble size) values other = assemble_counted p n t size
  effect_enters p n t (blocks.Link l) values other = passed (enter_next n t t.next s) refl refl refl refl
  effect_enters p n t (blocks.Unlink u) values other = unlink_counted p n t u
  effect_enters p n t (blocks.Priority a) values other =
      on_if Entered (is_priority (the_value values)) _ (EndsBy Number)
      (on_test Entered (may_enter (block_at p.blocks (t.next + 1))) _
      (passed (enters_and_falls n (record t { priority = the_value values }) s) refl refl refl refl)) tt
  effect_enters p n t (blocks.Plus a) values other = plus_counted p n t a.parameter (the_value values)
  effect_enters p n t (blocks.Mark None) values other =
      on_test Entered (may_enter (block_at p.blocks (t.next + 1))) _ (passed (enters_and_falls n (record t { mark = s.clock }) s) refl refl refl refl)
  effect_enters p n t (blocks.Mark (Some q)) values other =
      on_test Entered (may_enter (block_at p.blocks (t.next + 1))) _ (passed (enters_and_falls n t (assign_to n q s.clock s)) refl refl refl refl)
  effect_enters p n t block values other = on_test Entered (may_enter (block_at p.blocks (t.next + 1))) _ (passed (enters_and_falls n t s) refl refl refl refl)

  abbrev Counted : State × Placement → Type 0
  Counted e = Counts s e.0

  effect_counted : (p : Parts) (n : ℕ) (t : Transaction) (block : Block) (values : List ℤ) → OnGives Counted (effect p n t block values s)
  unfolding effect
  effect_counted p n t (blocks.Terminate by) values =
      on_if Counted (int_lt (the_value values) (pos 0)) (EndsBy Number) _ tt
      (on_test Counted (not (owns_any n s.entities.facilities)) _ (record { counted = record { steps = refl; ended = inr refl }; active = refl }))
  effect_counted p n t block values =
      on_then Entered Counted (effect p n t block values s) (effect_enters p n t block values refl) (λ e h. entry_counts s e.0 h)

  meets_scans : (p : Parts) (n : ℕ) (t : Transaction) (block : Block) (values : List ℤ) → s.lists.active ≡ Some n
      → OnGives (Scans s) (meets p n t block values s)
  meets_scans p n t block values active =
      on_if (Scans s) (refuses n block values s) (Gives (place_by n (refused_placement block) s)) (then_placed n (effect p n t block values s))
      (record { counted = counted_same s _ (placed-leaves n (refused_placement block) s); woken = placed_wakes n (refused_placement block) s active })
      (on_both Counted (Scans s) (effect p n t block values s) _ (effect_counted p n t block values) (λ e h.
      let left = placed-leaves n e.1 e.0 in
      record { counted = counted_then s e.0 _ h.counted left.steps left.ended left.count; woken = placed_wakes n e.1 e.0 (h.active ∙ active) }))

  meets_keeps : (p : Parts) (n : ℕ) (t : Transaction) (block : Block) (values : List ℤ) → is_terminate block ≡ false
      → OnGives (λ (u : State). u.ended ≡ s.ended) (meets p n t block values s)
  meets_keeps p n t block values other =
      on_if (λ (u : State). u.ended ≡ s.ended) (refuses n block values s) (Gives (place_by n (refused_placement block) s))
      (then_placed n (effect p n t block values s)) (placed-leaves n (refused_placement block) s).ended
      (on_both Entered (λ (u : State). u.ended ≡ s.ended) (effect p n t block values s) _ (effect_enters p n t block values other)
      (λ e h. (placed-leaves n e.1 e.0).ended ∙ h.ended))

act_keeps : (p : Parts) (n : ℕ) (t : Transaction) (block : Block) (s : State) → is_terminate block ≡ false
    → OnGives (λ (u : State). u.ended ≡ s.ended) (act p n t block s)
unfolding act
act_keeps p n t block s other =
    on_bind (λ (u : State). u.ended ≡ s.ended) (evaluation_outcome (operands p (environment_of n t s) block s.streams)) _
    (λ read _. meets_keeps (with_streams read.1 s) p n t block read.0 other)

-- where the block that is met isn't a TERMINATE, the end stays
pub end_stays : (p : Parts) (n : ℕ) (t : Transaction) (block : Block) (s u : State) → is_terminate block ≡ false → act p n t block s ≡ Gives u
    → u.ended ≡ s.ended
end_stays p n t block s u other made = subst (OnGives (λ (v : State). v.ended ≡ s.ended)) made (act_keeps p n t block s other)

act_scans : (p : Parts) (n : ℕ) (t : Transaction) (block : Block) (s : State) → s.lists.active ≡ Some n → OnGives (Scans s) (act p n t block s)
unfolding act
act_scans p n t block s active =
    on_bind (Scans s) (evaluation_outcome (operands p (environment_of n t s) block s.streams)) _
    (λ read _. on_then (Scans (with_streams read.1 s)) (Scans s) (meets p n t block read.0 (with_streams read.1 s))
    (meets_scans (with_streams read.1 s) p n t block read.0 active)
    (λ u h. record { counted = record { steps = h.counted.steps; ended = h.counted.ended }; woken = h.woken }))

-- THE SCAN

event_scans : (s : State) (es : List FutureEvent) → OnGives (Scans s) (next_event es s)
event_scans s [] = tt
event_scans s (e ∷ es) = record { counted = record { steps = refl; ended = inl (refl, refl) }; woken = λ _. refl }

next_scans : (s : State) (ns : List ℕ) → OnGives (Scans s) (next_active ns s)
next_scans s [] = event_scans s s.lists.future_events
next_scans s (n ∷ ns) = record { counted = record { steps = refl; ended = inl (refl, refl) }; woken = λ none. absurd cc }

meets_one_scans : (p : Parts) (n : ℕ) (t : Transaction) (s : State) → s.lists.active ≡ Some n → OnGives (Scans s) (meets_one p n t s)
meets_one_scans p n t s active = on_bind (Scans s) (case_of (block_at p.blocks t.next)) (λ block. act p n t block s) (λ block _. act_scans p n t block s active)

-- what a scan leaves from a state that differs from another in its transactions and streams alone
scans_from : (s u t : State) → u.steps ≡ s.steps → u.ended ≡ s.ended → u.count ≡ s.count → Scans u t → Scans s t
scans_from s u t steps ended count h = record {
  counted = record {
    steps = h.counted.steps ∙ steps;
    ended = elim h.counted.ended [
      | inl same ↦ inl (same.0 ∙ ended, same.1 ∙ count)
      | inr brought ↦ inr brought
    ];
  };
  woken = h.woken;
}

tries_scans : (p : Parts) (n : ℕ) (t : Transaction) (b : ℕ) (otherwise : State → Outcome State) (s : State) → s.lists.active ≡ Some n
    → ((streams : List ℕ) → OnGives (Scans s) (otherwise (with_streams streams s))) → OnGives (Scans s) (tries p n t b otherwise s)
tries_scans p n t b otherwise s active h =
    on_bind (Scans s) (refusal p n (towards b t) (turn_to n t b s))
    (λ answer. if answer.0 then otherwise (with_streams answer.1 s) else meets_one p n (towards b t) (turn_to n t b s)) (λ answer _.
    on_if (Scans s) answer.0 (otherwise (with_streams answer.1 s)) (meets_one p n (towards b t) (turn_to n t b s)) (h answer.1)
    (on_then (Scans (turn_to n t b s)) (Scans s) (meets_one p n (towards b t) (turn_to n t b s))
    (meets_one_scans p n (towards b t) (turn_to n t b s) active) (λ u scans. scans_from s (turn_to n t b s) u refl refl refl scans)))

on_scans : (p : Parts) (n : ℕ) (t : Transaction) (two : Option (ℕ × ℕ)) (s : State) → s.lists.active ≡ Some n → OnGives (Scans s) (goes_on p n t two s)
on_scans p n t None s active = meets_one_scans p n t s active
on_scans p n t (Some pair) s active =
    tries_scans p n t pair.0 (λ u. tries p n t pair.1 (λ v. Gives (place_by n JoinsRetryList v)) u) s active
    (λ streams. on_then (Scans (with_streams streams s)) (Scans s) (tries p n t pair.1 (λ v. Gives (place_by n JoinsRetryList v)) (with_streams streams s))
    (tries_scans p n t pair.1 (λ v. Gives (place_by n JoinsRetryList v)) (with_streams streams s) active
    (λ later. rests_scans (with_streams streams s) (with_streams later s) refl refl refl active))
    (λ u scans. scans_from s (with_streams streams s) u refl refl refl scans))
  where
    rests_scans : (u v : State) → v.steps ≡ u.steps → v.ended ≡ u.ended → v.count ≡ u.count → v.lists.active ≡ Some n → Scans u (place_by n JoinsRetryList v)
    rests_scans u v steps ended count active =
        scans_from u v (place_by n JoinsRetryList v) steps ended count
        (record { counted = counted_same v _ (placed-leaves n JoinsRetryList v); woken = placed_wakes n JoinsRetryList v active })

scan_scans : (p : Parts) (a : Option ℕ) (s : State) → s.lists.active ≡ a → OnGives (Scans s) (scan p a s)
scan_scans p None s active = next_scans s s.lists.current_events
scan_scans p (Some n) s active =
    on_bind (Scans s) (case_of (attributes_at n s.transactions)) (λ t. goes_on p n t (two_next p t) s) (λ t _. on_scans p n t (two_next p t) s active)

scanned : (p : Parts) (s t : State) → scan p s.lists.active s ≡ Gives t → Scans s t
scanned p s t h = subst (OnGives (Scans s)) h (scan_scans p s.lists.active s refl)

pub is_counted : (p : Parts) (s t : State) → scan p s.lists.active s ≡ Gives t → IsCounted s t
is_counted p s t h = (scanned p s t h).counted

-- where a scan leaves nobody active, the retry list was woken since the last entry
pub is_woken : (p : Parts) (s t : State) → scan p s.lists.active s ≡ Gives t → IsWoken t
is_woken p s t h = (scanned p s t h).woken

-- where no named end stands, the count is still above 0
still_counts : (count : ℤ) → end_at count ≡ None → pos 0 <ℤ count
still_counts count h = by_test (int_lt (pos 0) count) refl h
  where
    by_test : (b : Bool) → int_lt (pos 0) count ≡ b → (if b then None else Some Done) ≡ None → pos 0 <ℤ count
    by_test true is h = omega (arith, ints, is)
    by_test false is h = absurd cc

pub runs_still : (s t : State) → IsCounted s t → t.ended ≡ None → pos 0 <ℤ s.count → pos 0 <ℤ t.count
runs_still s t c runs h = elim c.ended [
  | inl same ↦ rw same.1 h
  | inr brought ↦ still_counts t.count (sym brought ∙ runs)
]

-- the end of a state that a scan of a running one gives is Done, if it has one
some_end : (a b : End) → Some a ≡ Some b → a ≡ b
some_end a b h = cc

by_count : (b : Bool) (end : End) → (if b then None else Some Done) ≡ Some end → end ≡ Done
by_count true end h = absurd cc
by_count false end h = sym (some_end Done end h)

pub done_at_most : (s t : State) → s.ended ≡ None → IsCounted s t → (end : End) → t.ended ≡ Some end → end ≡ Done
done_at_most s t runs c end h = elim c.ended [
  | inl same ↦ let never : None ≡ Some end = sym (same.0 ∙ runs) ∙ h in absurd cc
  | inr brought ↦ by_count (int_lt (pos 0) t.count) end (sym brought ∙ h)
]
