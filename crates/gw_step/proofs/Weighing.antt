-- The weight of a state through each elementary change: what it falls by pays for entries.
use Rattle.std.proofs.Common.{◌≡◌, ◌≢◌, ℕ, suc, ◌+◌, ◌-◌, ◌*◌, ◌<◌, ◌≤◌, ◌≤ℤ◌, ℤ, List, [], ◌∷◌, length, Option, Some, None, Bool, true, false}
use Rattle.std.proofs.Common.{is_some, if◌then◌else◌, ◌==◌, ◌&&◌, ◌||◌, option_map, refl, sym, ap, ◌∙◌, subst, arith, IsSome}
use Rattle.std.specs.Prelude.{◌<ℤ◌, sum, int_lt, int_le, IsTrue, IsSomeAnd}
use Rattle.std.specs.Option.{option_map_or}
use Rattle.std.specs.List.{list_any}
use Rattle.std.proofs.lemmas.Bool.{eq-eqb, ne_eqb, ltb-true, false≢true}
use Rattle.std.proofs.lemmas.Int.{ints}
use Rattle.gw_object.specs.declared.blocks.Generate.{Generate}
use Rattle.gw_object.specs.declared.blocks.Link.{Link}
use Rattle.gw_object.specs.declared.blocks.Block.{Block}
use Rattle.gw_object.specs.declared.blocks.Block.TheVariants as blocks
use Rattle.gw_object.specs.declared.parts.Parts.{Parts}
use Rattle.gw_rules.specs.Exits.{takes_time}
use Rattle.gw_rules.specs.Kinds.{block_at, is_generate}
use Rattle.gw_rules.specs.KindsLaws.{MayBeEntered}
use Rattle.gw_rules.specs.Rows.{Row}
use Rattle.gw_rules.specs.Flow.{own_table, own_row}
use Rattle.gw_rules.specs.FlowLaws.{FlowHolds}
use Rattle.gw_rules.specs.Weights.{weight_at, chain_weight, slope_at, above}
use Rattle.gw_rules.specs.WeightsLaws.{Weighted}
use Rattle.gw_num.specs.Table.{at, put, tabulate}
use Rattle.gw_num.proofs.Tables.{at-replicate, at-put, at-put_other, at_some, length-put, length-put_next}
use Rattle.gw_members.specs.Chain.{in_time, later}
use Rattle.gw_transactions.specs.declared.Transaction.{Transaction}
use Rattle.gw_transactions.specs.Transactions.{LiveTransaction, made_with, with_attributes, with_parameter, with_chain, attributes_at, put_attributes}
use Rattle.gw_transactions.specs.Transactions.{put_parameter}
use Rattle.gw_step.specs.declared.placement.Placement.{Placement}
use Rattle.gw_step.specs.declared.placement.Placement.TheVariants.{StaysActive, RestsUntil, JoinsDelayList, JoinsRetryList, RestsAhead, RestsBehind}
use Rattle.gw_step.specs.declared.placement.Placement.TheVariants.{AwaitsSet, JoinsChain, LeavesModel}
use Rattle.gw_step.specs.State.{FutureEvent, EntityStates, State, user_chain, with_one_more_at}
use Rattle.gw_step.specs.Changes.{numbers, newcomer, enter_next, assign_to, arrives, copy_to, rests_until, joins_chain, leaves_chain, destroy, clock_moves}
use Rattle.gw_step.specs.Blocks.{is_owed}
use Rattle.gw_step.specs.Times.{parameters_of}
use Rattle.gw_step.specs.Placing.{placed_at}
use Rattle.gw_step.specs.Residence.{occurrences}
use Rattle.gw_step.specs.Numbers.{IsFrom, IsWithin}
use Rattle.gw_step.specs.Typing.{WellTyped}
use Rattle.gw_step.specs.Turning.{towards, turn_to, two_next}
use Rattle.gw_transactions.specs.Parameters.{no_parameters}
use Rattle.gw_step.specs.Weight.{slope_addition, weighs_there, is_later, weight_by, weight_in, weighs, still_owed, owed_by, owes, weight}
use Rattle.gw_step.proofs.Sums.{sum-same, sum-but_one, sum-more}
use Rattle.gw_step.proofs.Attributes.{bearer_at, number_below, written_at, written_both}
use Rattle.gw_step.proofs.Residence.{one_if, at_most_one, same_number, occurrences-one}
use Rattle.gw_step.proofs.Within.{sum-raised}
use Rattle.gw_step.proofs.Follows.{block_below}
use Rattle.gw_step.proofs.Placed.{placed_at-leaves}
use Rattle.gw_step.proofs.Traces.{leads, its_chain, present, member_of, IsPresent, Rested, Settles, Change, Goes, EntersLast, Turns, GoesWith}
use Rattle.gw_step.proofs.Traces.{Arrives, Copied, Rests, Called, Assembled, Comes, Unlinked, Woken, Activates, ClockMoves, Draws, Counts, Marks}
use Rattle.gw_step.proofs.Traces.{Trace, Done, Then, change-keeps}
use Rattle.gw_step.proofs.Bounds.{change-within}
use Rattle.gw_step.proofs.Paying.{weighs_within}

-- WHO IS SCHEDULED FOR LATER

-- a future event of this transaction after a moment
abbrev IsAfter : ℤ → ℕ → FutureEvent → Bool
IsAfter moment n e = (e.number == n) && int_lt moment e.time

-- who isn't on the future events chain isn't scheduled for later
pub not_there : (moment : ℤ) (n : ℕ) (es : List FutureEvent) → occurrences n (numbers es) ≡ 0 → list_any (IsAfter moment n) es ≡ false
not_there moment n [] none = refl
not_there moment n (e ∷ es) none = by_number (e.number == n) refl (not_there moment n es (omega (arith, none)))
  where
    by_number : (b : Bool) → (e.number == n) ≡ b → list_any (IsAfter moment n) es ≡ false
        → ((b && int_lt moment e.time) || list_any (IsAfter moment n) es) ≡ false
    by_number true is rest = absurd (omega (arith, none, ap one_if is))
    by_number false is rest = rest

-- a newcomer to the chain concerns itself alone
other_joins : (moment : ℤ) (n m : ℕ) (time : ℤ) (es : List FutureEvent) → m ≢ n
    → list_any (IsAfter moment m) (in_time (λ (e : FutureEvent). e.time) (record { time = time; number = n }) es) ≡ list_any (IsAfter moment m) es
other_joins moment n m time [] other = ap (λ b. (b && int_lt moment time) || false) (ne_eqb n m (λ same. other (sym same)))
other_joins moment n m time (e ∷ es) other = by_test (int_le e.time time) (other_joins moment n m time es other)
  where
    new : FutureEvent
    new = record { time = time; number = n }

    by_test : (b : Bool) → list_any (IsAfter moment m) (in_time (λ (x : FutureEvent). x.time) new es) ≡ list_any (IsAfter moment m) es
        → list_any (IsAfter moment m) (if b then e ∷ in_time (λ (x : FutureEvent). x.time) new es else new ∷ e ∷ es) ≡ list_any (IsAfter moment m) (e ∷ es)
    by_test true same = ap (λ b. IsAfter moment m e || b) same
    by_test false same = ap (λ b. (b && int_lt moment time) || list_any (IsAfter moment m) (e ∷ es)) (ne_eqb n m (λ is. other (sym is)))

or_true : (b : Bool) → (b || true) ≡ true
or_true true = refl
or_true false = refl

-- and is scheduled for later itself, where its time is after the moment
itself_joins : (moment : ℤ) (n : ℕ) (time : ℤ) (es : List FutureEvent) → int_lt moment time ≡ true
    → list_any (IsAfter moment n) (in_time (λ (e : FutureEvent). e.time) (record { time = time; number = n }) es) ≡ true
itself_joins moment n time es after = by_list es
  where
    new : FutureEvent
    new = record { time = time; number = n }

    is_after : IsAfter moment n new ≡ true
    is_after = ap (λ b. b && int_lt moment time) (eq-eqb n n refl) ∙ after

    by_list : (es : List FutureEvent) → list_any (IsAfter moment n) (in_time (λ (x : FutureEvent). x.time) new es) ≡ true
    by_list [] = ap (λ b. b || false) is_after
    by_list (e ∷ es) = by_test (int_le e.time time) (by_list es)
      where
        by_test : (b : Bool) → list_any (IsAfter moment n) (in_time (λ (x : FutureEvent). x.time) new es) ≡ true
            → list_any (IsAfter moment n) (if b then e ∷ in_time (λ (x : FutureEvent). x.time) new es else new ∷ e ∷ es) ≡ true
        by_test true there = ap (λ b. IsAfter moment n e || b) there ∙ or_true (IsAfter moment n e)
        by_test false there = ap (λ b. b || list_any (IsAfter moment n) (e ∷ es)) is_after

-- none is after a moment that is due by then
due_left : (moment : ℤ) (n : ℕ) (es : List FutureEvent) → list_any (IsAfter moment n) (later (λ (e : FutureEvent). e.time) moment es)
    ≡ list_any (IsAfter moment n) es
due_left moment n [] = refl
due_left moment n (e ∷ es) = by_due (int_le e.time moment) refl (due_left moment n es)
  where
    by_number : (b c : Bool) → c ≡ false → (b && c) ≡ false
    by_number true c is = is
    by_number false c is = refl

    by_order : (b : Bool) → int_le e.time moment ≡ true → int_lt moment e.time ≡ b → b ≡ false
    by_order true due is = absurd (omega (arith, ints, due, is))
    by_order false due is = refl

    by_due : (b : Bool) → int_le e.time moment ≡ b → list_any (IsAfter moment n) (later (λ (x : FutureEvent). x.time) moment es)
        ≡ list_any (IsAfter moment n) es
        → list_any (IsAfter moment n) (if b then later (λ (x : FutureEvent). x.time) moment es else e ∷ es) ≡ list_any (IsAfter moment n) (e ∷ es)
    by_due true due same = same
        ∙ sym (ap (λ b. b || list_any (IsAfter moment n) es) (by_number (e.number == n) (int_lt moment e.time) (by_order (int_lt moment e.time) due refl)))
    by_due false left same = refl

-- WHAT ONE WEIGHS

-- at most the weight of its place
pub weighs_at_most : (p : Parts) (s : State) (n : ℕ) → weighs p s n ≤ weight_in p (at None s.transactions n)
weighs_at_most p s n = by_later (is_later s n)
  where
    by_later : (b : Bool) → (if b then 0 else weight_in p (at None s.transactions n)) ≤ weight_in p (at None s.transactions n)
    by_later true = omega arith
    by_later false = omega arith

-- all of it where it isn't on the future events chain
weighs_all : (p : Parts) (s : State) (n : ℕ) → occurrences n (numbers s.lists.future_events) ≡ 0 → weighs p s n ≡ weight_in p (at None s.transactions n)
weighs_all p s n none = ap (λ (b : Bool). if b then 0 else weight_in p (at None s.transactions n)) (not_there s.clock n s.lists.future_events none)

-- who is present isn't on the future events chain
present_now : (p : Parts) (s : State) → WellTyped p s → (n : ℕ) → IsPresent s.lists n → occurrences n (numbers s.lists.future_events) ≡ 0
present_now p s ty n here = omega (arith, ty.resides n, at_most_one (is_some (at None s.transactions n)), here)

-- who is scheduled for later weighs nothing
weighs_nothing : (p : Parts) (s : State) (n : ℕ) → is_later s n ≡ true → weighs p s n ≡ 0
weighs_nothing p s n is = ap (λ (b : Bool). if b then 0 else weight_in p (at None s.transactions n)) is

module _ (p : Parts) where
  -- WHERE THE WEIGHT STAYS OR CHANGES

  -- what is owed depends on the arrivals scheduled
  owed_same : (s t : State) → t.scheduled ≡ s.scheduled → sum (tabulate (owes p t) (length p.blocks + 1)) ≡ sum (tabulate (owes p s) (length p.blocks + 1))
  owed_same s t same = ap (λ (xs : List ℕ). sum (tabulate (λ b. owed_by (block_at p.blocks b) (at 0 xs b) * weight_at p.weights b) (length p.blocks + 1))) same

  -- nobody weighs anything else
  weight_stays : (s t : State) → length t.transactions ≡ length s.transactions → t.scheduled ≡ s.scheduled
      → ((i : ℕ) → weighs p t i ≡ weighs p s i) → weight p t ≡ weight p s
  unfolding weight
  weight_stays s t lengths same each =
      omega (
        arith,
        ap (λ k. sum (tabulate (weighs p t) k)) lengths,
        sum-same (weighs p s) (weighs p t) (length s.transactions) (λ i below. each i),
        owed_same s t same,
      )

  -- only the transaction n does
  weight_changes : (s t : State) (n : ℕ) → n < length s.transactions → length t.transactions ≡ length s.transactions → t.scheduled
      ≡ s.scheduled → ((i : ℕ) → i ≢ n → weighs p t i ≡ weighs p s i) → weight p t + weighs p s n ≡ weight p s + weighs p t n
  unfolding weight
  weight_changes s t n below lengths same others =
      omega (
        arith,
        ap (λ k. sum (tabulate (weighs p t) k)) lengths,
        sum-but_one (weighs p s) (weighs p t) (length s.transactions) n below others,
        owed_same s t same,
      )

  -- one comes besides
  weight_grows : (s t : State) → length t.transactions ≡ suc (length s.transactions) → ((i : ℕ) → i < length s.transactions → weighs p t i ≡ weighs p s i)
      → weight p t + sum (tabulate (owes p s) (length p.blocks + 1)) ≡ weight p s + weighs p t (length s.transactions)
      + sum (tabulate (owes p t) (length p.blocks + 1))
  unfolding weight
  weight_grows s t lengths others =
      omega (
        arith,
        ap (λ k. sum (tabulate (weighs p t) k)) lengths,
        sum-more (weighs p t) (length s.transactions),
        sum-same (weighs p s) (weighs p t) (length s.transactions) others,
      )

  -- the others weigh what they weighed, where the transaction n is written
  others_weigh : (s : State) (n : ℕ) (v : Option LiveTransaction) (i : ℕ) → i ≢ n
      → (if is_later s i then 0 else weight_in p (at None (put None s.transactions n v) i)) ≡ weighs p s i
  others_weigh s n v i other = ap (λ o. if is_later s i then 0 else weight_in p o) (at-put_other None s.transactions n i v other)

  -- ENTRIES

  -- the transaction n is written, and is not scheduled for later
  enters : (s : State) → WellTyped p s → (n to : ℕ) (t u : Transaction) (h : EntityStates) → attributes_at n s.transactions ≡ Some t → IsPresent s.lists n
      → weight p (record (enter_next n u to s) { entities = h }) + weight_in p (at None s.transactions n) ≤ weight p s
      + weight_in p (at None (enter_next n u to s).transactions n)
  enters s ty n to t u h found here =
      let after : State = record (enter_next n u to s) { entities = h } in
      let v : Option LiveTransaction = option_map (with_attributes (record u { current = u.next; next = to })) (at None s.transactions n) in
      let below = number_below s.transactions n t found in
      let changes = weight_changes s after n below (length-put None s.transactions n v below) refl (λ i other. others_weigh s n v i other) in
      omega (arith, changes, weighs_all p s n (present_now p s ty n here), weighs_at_most p after n)

  -- it turns to another block
  turns : (s : State) → WellTyped p s → (n to : ℕ) (t : Transaction) → attributes_at n s.transactions ≡ Some t → IsPresent s.lists n
      → weight p (turn_to n t to s) + weight_in p (at None s.transactions n) ≤ weight p s + weight_in p (at None (turn_to n t to s).transactions n)
  turns s ty n to t found here =
      let after : State = turn_to n t to s in
      let v : Option LiveTransaction = option_map (with_attributes (towards to t)) (at None s.transactions n) in
      let below = number_below s.transactions n t found in
      let changes = weight_changes s after n below (length-put None s.transactions n v below) refl (λ i other. others_weigh s n v i other) in
      omega (arith, changes, weighs_all p s n (present_now p s ty n here), weighs_at_most p after n)

  -- a parameter of it is set besides
  enters_with : (s : State) → WellTyped p s → (n to q : ℕ) (value : ℤ) (t : Transaction) → attributes_at n s.transactions ≡ Some t → IsPresent s.lists n
      → weight p (enter_next n t to (assign_to n q value s)) + weight_in p (at None s.transactions n) ≤ weight p s
      + weight_in p (at None (enter_next n t to (assign_to n q value s)).transactions n)
  enters_with s ty n to q value t found here =
      let ts = s.transactions in
      let after : State = enter_next n t to (assign_to n q value s) in
      let below = number_below ts n t found in
      let set : Option LiveTransaction = option_map (with_parameter q value) (at None ts n) in
      let length_set : length (put_parameter n q value ts) ≡ length ts = length-put None ts n set below in
      let v : Option LiveTransaction = option_map (with_attributes (record t { current = t.next; next = to })) (at None (put_parameter n q value ts) n) in
      let lengths : length after.transactions ≡ length ts = length-put None (put_parameter n q value ts) n v (omega (arith, below, length_set)) ∙ length_set in
      let changes = weight_changes s after n below lengths refl (λ i other. others_weigh (assign_to n q value s) n v i other ∙ others_weigh s n set i other) in
      omega (arith, changes, weighs_all p s n (present_now p s ty n here), weighs_at_most p after n)

  -- WHERE ONE COMES TO

  -- the parameters of who is there
  its_own : (s : State) (n : ℕ) (u : LiveTransaction) → at None s.transactions n ≡ Some u → parameters_of n s ≡ u.parameters
  its_own s n u there = ap (λ o. option_map_or (λ (x : LiveTransaction). x.parameters) o no_parameters) there

  -- a slope adds nothing where no parameter is set
  nothing_added : (slope : Option (ℕ × ℕ)) → slope_addition slope no_parameters ≡ 0
  nothing_added None = refl
  nothing_added (Some slope) = ap (λ (v : Option ℤ). slope.1 * option_map_or above v 0) (at-replicate None 65 slope.0) ∙ omega arith

  -- where a transaction may go there is a block
  the_block : (o : Option Block) → IsSomeAnd o (λ block. is_generate (Some block) ≡ false) → (block : Block) × (o ≡ Some block)
  the_block None h = absurd h
  the_block (Some block) h = (block, refl)

  -- who is written there, and is a member of no user chain, weighs no more than the block to which it goes on
  lands : Weighted p → (ts : List (Option LiveTransaction)) (n : ℕ) (u : LiveTransaction) (a : Transaction) (row : Row) → at None ts n
      ≡ Some u → u.chain ≡ None → MayBeEntered p a.next → own_row p a.next ≡ Some row → weight_in p (at None (put_attributes n a ts) n)
      ≤ weighs_there p a.next u.parameters
  lands weighted ts n u a row there free may row_is =
      let block = the_block (block_at p.blocks a.next) may in
      omega (arith, ap (weight_in p) (written_at ts n a u there), weighs_within p weighted (with_attributes a u) block.0 row free block.1 row_is)

  -- ARRIVALS AND COPIES

  -- what the other blocks owe stays
  module _ (s : State) (b : ℕ) (priority time : ℤ) where
    owed_other : (i : ℕ) → i ≢ b → owes p (arrives b priority time s) i ≡ owes p s i
    owed_other i other = ap (λ k. owed_by (block_at p.blocks i) k * weight_at p.weights i) (at-put_other 0 s.scheduled b i (at 0 s.scheduled b + 1) other)

    owed_now : (g : Generate) → block_at p.blocks b ≡ Some (blocks.Generate g) → owes p (arrives b priority time s) b
        ≡ still_owed g (at 0 s.scheduled b + 1) * weight_at p.weights b
    owed_now g is = ap (λ o. owed_by o (at 0 (with_one_more_at b s.scheduled) b) * weight_at p.weights b) is
        ∙ ap (λ k. still_owed g k * weight_at p.weights b) (at-put 0 s.scheduled b (at 0 s.scheduled b + 1))

    owed_before : (g : Generate) → block_at p.blocks b ≡ Some (blocks.Generate g) → owes p s b ≡ still_owed g (at 0 s.scheduled b) * weight_at p.weights b
    owed_before g is = ap (λ o. owed_by o (at 0 s.scheduled b) * weight_at p.weights b) is

  -- a transaction that is scheduled for now weighs what was owed for it
  paid_by_owed : (limit : Option ℕ) (k w : ℕ) → IsSome limit → is_owed limit k ≡ true → option_map_or (λ most. most - (k + 1)) limit 0 * w
      + w ≡ option_map_or (λ most. most - k) limit 0 * w
  paid_by_owed None k w some owed = absurd (false≢true some)
  paid_by_owed (Some most) k w some owed =
      let one : most - k ≡ suc (most - (k + 1)) = omega (arith, ltb-true k most owed) in
      let same : (most - k) * w ≡ suc (most - (k + 1)) * w = ap (λ m. m * w) one in
      omega (arith, same)

  module _ (weighted : Weighted p) where
    arrive : (s : State) (b : ℕ) (g : Generate) (priority time : ℤ) → block_at p.blocks b ≡ Some (blocks.Generate g)
        → (takes_time g.interval.mean g.interval.half ≡ true → s.clock <ℤ time) → is_owed g.limit (at 0 s.scheduled b) ≡ true → b
        < length p.blocks + 1 → (row : Row) → own_row p b ≡ Some row → weight p (arrives b priority time s) ≤ weight p s
    arrive s b g priority time is passes owed below row row_is = by_time (takes_time g.interval.mean g.interval.half) refl (int_lt s.clock time) refl
      where
        n : ℕ
        n = length s.transactions

        after : State
        after = arrives b priority time s

        grown : weight p after + sum (tabulate (owes p s) (length p.blocks + 1)) ≡ weight p s + weighs p after n
            + sum (tabulate (owes p after) (length p.blocks + 1))
        grown = weight_grows s after (length-put_next None s.transactions (Some (newcomer b priority s)))
            (λ i lower. let other : i ≢ n = λ same. omega (arith, lower, same) in
            ap (λ (l : Bool). if l then 0 else weight_in p (at None (put None s.transactions n (Some (newcomer b priority s))) i))
            (other_joins s.clock n i time s.lists.future_events other) ∙ others_weigh s n (Some (newcomer b priority s)) i other)

        owing : sum (tabulate (owes p after) (length p.blocks + 1)) + owes p s b ≡ sum (tabulate (owes p s) (length p.blocks + 1)) + owes p after b
        owing = sum-but_one (owes p s) (owes p after) (length p.blocks + 1) b below (λ i other. owed_other s b priority time i other)

        weighs_new : weighs p after n ≤ weight_at p.weights b
        weighs_new = let there = at-put None s.transactions n (Some (newcomer b priority s)) in
            omega (
              arith,
              weighs_at_most p after n,
              ap (weight_in p) there,
              weighs_within p weighted (newcomer b priority s) (blocks.Generate g) row refl is row_is,
              nothing_added (slope_at p.slopes b),
            )

        limited : (a c : Bool) → a ≡ false → IsTrue (a || c) → c ≡ true
        limited true c not some = absurd (false≢true (sym not))
        limited false c not some = some

        by_time : (x : Bool) → takes_time g.interval.mean g.interval.half ≡ x → (y : Bool) → int_lt s.clock time ≡ y → weight p after ≤ weight p s
        by_time true takes true later =
            let no = weighs_nothing p after n (itself_joins s.clock n time s.lists.future_events later) in
            let before = owed_before s b priority time g is
            ∙ ap (λ (x : Bool). (if x then 0 else option_map_or (λ most. most - at 0 s.scheduled b) g.limit 0) * weight_at p.weights b) takes in
            let now = owed_now s b priority time g is
            ∙ ap (λ (x : Bool). (if x then 0 else option_map_or (λ most. most - (at 0 s.scheduled b + 1)) g.limit 0) * weight_at p.weights b) takes in
            omega (arith, grown, owing, no, before, now)
        by_time true takes false early = absurd (omega (arith, ints, passes takes, early))
        by_time false may y order =
            let limit = limited (takes_time g.interval.mean g.interval.half) (is_some g.limit) may (weighted.arrivals b g is) in
            let before = owed_before s b priority time g is
            ∙ ap (λ (x : Bool). (if x then 0 else option_map_or (λ most. most - at 0 s.scheduled b) g.limit 0) * weight_at p.weights b) may in
            let now = owed_now s b priority time g is
            ∙ ap (λ (x : Bool). (if x then 0 else option_map_or (λ most. most - (at 0 s.scheduled b + 1)) g.limit 0) * weight_at p.weights b) may in
            omega (arith, grown, owing, weighs_new, before, now, paid_by_owed g.limit (at 0 s.scheduled b) (weight_at p.weights b) limit owed)

  copy_comes : Weighted p → (s : State) (n : ℕ) (t : Transaction) (target : ℕ) (row : Row) → MayBeEntered p target → own_row p target
      ≡ Some row → weight p (copy_to n t target s) ≤ weight p s + weighs_there p target (parameters_of n s)
  copy_comes weighted s n t target row may row_is =
      let m = length s.transactions in
      let v : LiveTransaction = made_with (parameters_of n s) (record t { next = target }) in
      let after : State = copy_to n t target s in
      let block = the_block (block_at p.blocks target) may in
      let grown = weight_grows s after (length-put_next None s.transactions (Some v))
      (λ i lower. let other : i ≢ m = λ same. omega (arith, lower, same) in others_weigh s m (Some v) i other) in
      omega (
        arith,
        grown,
        owed_same s after refl,
        weighs_at_most p after m,
        ap (weight_in p) (at-put None s.transactions m (Some v)),
        weighs_within p weighted v block.0 row refl block.1 row_is,
      )

  -- RESTS

  -- the active transaction is there
  live_below : (s : State) → WellTyped p s → (n : ℕ) → s.lists.active ≡ Some n → n < length s.transactions
  live_below s ty n active = by_number (at None s.transactions n) refl
    where
      by_number : (o : Option LiveTransaction) → at None s.transactions n ≡ o → n < length s.transactions
      by_number None is = absurd (omega (arith, ty.resides n, present s.lists n active, ap (λ x. one_if (is_some x)) is))
      by_number (Some u) is = at_some s.transactions n u is

  -- who rests until later weighs nothing meanwhile
  rest_until : (s : State) → WellTyped p s → (n : ℕ) (time : ℤ) → s.lists.active ≡ Some n → s.clock <ℤ time
      → weight p (rests_until n time s) + weight_in p (at None s.transactions n) ≤ weight p s
  rest_until s ty n time active after =
      let t : State = rests_until n time s in
      let below = live_below s ty n active in
      let none = present_now p s ty n (present s.lists n active) in
      let changes = weight_changes s t n below refl refl
      (λ i other. ap (λ (l : Bool). if l then 0 else weight_in p (at None s.transactions i)) (other_joins s.clock n i time s.lists.future_events other)) in
      omega (arith, changes, weighs_all p s n none, weighs_nothing p t n (itself_joins s.clock n time s.lists.future_events (lower s.clock time after)))
    where
      lower : (a b : ℤ) → a <ℤ b → int_lt a b ≡ true
      lower a b h = by_test (int_lt a b) refl
        where
          by_test : (c : Bool) → int_lt a b ≡ c → c ≡ true
          by_test true is = refl
          by_test false is = absurd (omega (arith, ints, h, is))

  -- who joins a user chain weighs what that weighs
  chain_joined : (s : State) → WellTyped p s → (n : ℕ) (l : Link) → s.lists.active ≡ Some n → weight p (joins_chain n l s)
      + weight_in p (at None s.transactions n) ≤ weight p s + chain_weight p l.chain
  chain_joined s ty n l active =
      let t : State = joins_chain n l s in
      let below = live_below s ty n active in
      let v : Option LiveTransaction = option_map (with_chain (Some l.chain)) (at None s.transactions n) in
      let changes = weight_changes s t n below (length-put None s.transactions n v below) refl (λ i other. others_weigh s n v i other) in
      omega (
        arith,
        changes,
        weighs_all p s n (present_now p s ty n (present s.lists n active)),
        weighs_at_most p t n,
        ap (weight_in p) (at-put None s.transactions n v),
        linked_at_most l.chain (at None s.transactions n),
      )
    where
      linked_at_most : (c : ℕ) (o : Option LiveTransaction) → weight_in p (option_map (with_chain (Some c)) o) ≤ chain_weight p c
      linked_at_most c None = omega arith
      linked_at_most c (Some u) = omega arith

  -- who leaves weighs nothing from then on
  left_model : (s : State) → WellTyped p s → (n : ℕ) → s.lists.active ≡ Some n → weight p (destroy n s) + weight_in p (at None s.transactions n) ≤ weight p s
  left_model s ty n active =
      let t : State = destroy n s in
      let below = live_below s ty n active in
      let changes = weight_changes s t n below (length-put None s.transactions n None below) refl (λ i other. others_weigh s n None i other) in
      omega (
        arith,
        changes,
        weighs_all p s n (present_now p s ty n (present s.lists n active)),
        weighs_at_most p t n,
        ap (weight_in p) (at-put None s.transactions n None),
      )

  rests_pay : Weighted p → (s : State) → WellTyped p s → (n : ℕ) (placement : Placement) (c d : ℕ) → Rested p n placement s
      → Settles p n placement s c d → weight p (placed_at n placement s) + d ≤ weight p s + c
  unfolding weight
  rests_pay weighted s ty n StaysActive c d may settles = omega (arith, settles)
  rests_pay weighted s ty n (RestsUntil time) c d may settles = omega (arith, rest_until s ty n time may.0 may.1, settles weighted)
  rests_pay weighted s ty n (JoinsDelayList e) c d may settles = omega (arith, settles)
  rests_pay weighted s ty n JoinsRetryList c d may settles = omega (arith, settles)
  rests_pay weighted s ty n RestsAhead c d may settles = omega (arith, settles)
  rests_pay weighted s ty n RestsBehind c d may settles = omega (arith, settles)
  rests_pay weighted s ty n (AwaitsSet a) c d may settles = omega (arith, settles)
  rests_pay weighted s ty n (JoinsChain l) c d may settles = omega (arith, chain_joined s ty n l may.0, settles weighted)
  rests_pay weighted s ty n LeavesModel c d may settles = omega (arith, left_model s ty n may.0, settles weighted)

  -- a member leaves its user chain for a block
  member_leaves : Weighted p → (s : State) → WellTyped p s → (c target n : ℕ) (t : Transaction) (ns : List ℕ) → user_chain c s ≡ n ∷ ns
      → attributes_at n s.transactions ≡ Some t → (row : Row) → MayBeEntered p target → own_row p target ≡ Some row
      → weight p (leaves_chain c target n t s) + chain_weight p c ≤ weight p s + weighs_there p target (parameters_of n s)
  member_leaves weighted s ty c target n t ns is found row may row_is =
      let after : State = leaves_chain c target n t s in
      let bears = bearer_at s.transactions n t found in
      let v : LiveTransaction = with_chain None (with_attributes (record t { next = target }) bears.0) in
      let same = written_both s.transactions n (record t { next = target }) None bears.0 bears.1 in
      let below = number_below s.transactions n t found in
      let here : 1 ≤ occurrences n (user_chain c s) = omega (arith, ap (occurrences n) is, same_number n n refl) in
      let none : occurrences n (numbers s.lists.future_events) ≡ 0 =
      omega (arith, ty.resides n, at_most_one (is_some (at None s.transactions n)), here, occurrences-one n s.lists.user_chains c) in
      let was = weighs_all p s n none ∙ ap (weight_in p) bears.1
      ∙ ap (λ (d : Option ℕ). weight_by p d bears.0.attributes.next (two_next p bears.0.attributes) bears.0.parameters)
      (its_chain (at None s.transactions n) bears.0 (Some c) bears.1 (member_of p s.transactions s.lists s.entities ty c n here)) in
      let lengths : length after.transactions ≡ length s.transactions = ap (λ (xs : List (Option LiveTransaction)). length xs) same
      ∙ length-put None s.transactions n (Some v) below in
      let now : weight_in p (at None after.transactions n) ≡ weight_in p (Some v) = ap (λ xs. weight_in p (at None xs n)) same
      ∙ ap (weight_in p) (at-put None s.transactions n (Some v)) in
      let block = the_block (block_at p.blocks target) may in
      let most = weighs_within p weighted v block.0 row refl block.1 row_is in
      let changes = weight_changes s after n below lengths refl
      (λ i other. ap (λ xs. if is_later s i then 0 else weight_in p (at None xs i)) same ∙ others_weigh s n (Some v) i other) in
      omega (arith, changes, was, now, most, ap (weighs_there p target) (its_own s n bears.0 bears.1), weighs_at_most p after n)

  -- the clock moves to where it is
  clock_stays : (s : State) (time : ℤ) → time ≡ s.clock → weight p (clock_moves time s) ≡ weight p s
  clock_stays s time same =
      weight_stays s (clock_moves time s) refl refl
      (λ i. ap (λ (l : Bool). if l then 0 else weight_in p (at None s.transactions i))
      (due_left time i s.lists.future_events ∙ ap (λ z. list_any (IsAfter z i) s.lists.future_events) same))

  -- EACH CHANGE

  -- what the weight falls by and the credit pay for the entries that a change makes
  change-weighs : FlowHolds p (own_table p) → Weighted p → {en ar c en' ar' d : ℕ} {s t : State} → Change p en ar c s en' ar' d t
      → WellTyped p s → IsWithin (length p.blocks) (length p.entities) en ar s → t.clock ≡ s.clock → weight p t + sum t.entries + d
      ≤ weight p s + sum s.entries + c
  unfolding weight
  change-weighs flow weighted (Goes {s = s} n to t u block row state h is same here known along may balance pays) ty w clock =
      let lead = leads p t.next to block row state (flow.each_row t.next block row is.block_is is.row_is) along in
      let bears = bearer_at s.transactions n t is.found in
      let most = lands weighted s.transactions n bears.0 (record u { current = u.next; next = to }) lead.row bears.1
      (its_chain (at None s.transactions n) bears.0 None bears.1 is.free) may lead.is in
      omega (
        arith,
        enters s ty n to t u h is.found here,
        most,
        ap (weighs_there p to) (its_own s n bears.0 bears.1),
        sum-raised u.next s.entries,
        pays weighted,
      )
  change-weighs flow weighted (EntersLast {s = s} n t block row is here pays) ty w clock =
      omega (arith, enters s ty n t.next t t s.entities is.found here, sum-raised t.next s.entries, pays weighted)
  change-weighs flow weighted (Turns {s = s} n to t block row is here along may pays) ty w clock =
      let lead = leads p t.next to block row row (flow.each_row t.next block row is.block_is is.row_is) along in
      let bears = bearer_at s.transactions n t is.found in
      let most = lands weighted s.transactions n bears.0 (towards to t) lead.row bears.1
      (its_chain (at None s.transactions n) bears.0 None bears.1 is.free) may lead.is in
      omega (arith, turns s ty n to t is.found here, most, ap (weighs_there p to) (its_own s n bears.0 bears.1), pays weighted)
  change-weighs flow weighted (GoesWith {s = s} n to q value t block row state is here known along may balance pays) ty w clock =
      let lead = leads p t.next to block row state (flow.each_row t.next block row is.block_is is.row_is) along in
      let bears = bearer_at s.transactions n t is.found in
      let set_at : at None (put_parameter n q value s.transactions) n ≡ Some (with_parameter q value bears.0) =
      at-put None s.transactions n (option_map (with_parameter q value) (at None s.transactions n)) ∙ ap (option_map (with_parameter q value)) bears.1 in
      let most = lands weighted (put_parameter n q value s.transactions) n (with_parameter q value bears.0)
      (record t { current = t.next; next = to }) lead.row set_at (its_chain (at None s.transactions n) bears.0 None bears.1 is.free) may lead.is in
      omega (
        arith,
        enters_with s ty n to q value t is.found here,
        most,
        ap (λ xs. weighs_there p to (put None xs q (Some value))) (its_own s n bears.0 bears.1),
        sum-raised t.next s.entries,
        pays weighted,
      )
  change-weighs flow weighted (Arrives {s = s} b g row priority time block is none later passes owed few) ty w clock =
      omega (arith, arrive weighted s b g priority time block passes owed (omega (arith, block_below p.blocks b (blocks.Generate g) block)) row is)
  change-weighs flow weighted (Copied {s = s} n target b t u block row state found mark known block_is row_is along may facilities units few pays) ty w clock =
      let lead = leads p b target block row state (flow.each_row b block row block_is row_is) along in
      omega (arith, copy_comes weighted s n t target lead.row may lead.is, pays weighted)
  change-weighs flow weighted (Rests {c = c} {d = d} {s = s} n placement may settles) ty w clock =
      omega (arith, rests_pay weighted s ty n placement c d may settles, ap (λ (xs : List ℕ). sum xs) (placed_at-leaves n placement s).entries)
  change-weighs flow weighted (Called e n here below) ty w clock = omega arith
  change-weighs flow weighted (Assembled a is) ty w clock = omega arith
  change-weighs flow weighted (Comes a is more) ty w clock = omega arith
  change-weighs flow weighted (Unlinked {s = s} c target n t ns members row is found members_is row_is fits may below pays) ty w clock =
      omega (arith, member_leaves weighted s ty c target n t ns is found row may row_is, pays weighted)
  change-weighs flow weighted Woken ty w clock = omega arith
  change-weighs flow weighted (Activates n ns nobody first) ty w clock = omega arith
  change-weighs flow weighted (ClockMoves {s = s} e es is) ty w clock = omega (arith, clock_stays s e.time clock)
  change-weighs flow weighted (Draws streams same) ty w clock = omega arith
  change-weighs flow weighted (Counts by) ty w clock = omega arith
  change-weighs flow weighted (Marks steps ended) ty w clock = omega arith

  -- THE CLOCK

  first_later : (clock : ℤ) (events : List FutureEvent) (e : FutureEvent) (es : List FutureEvent) → events ≡ e ∷ es → IsFrom clock events → clock ≤ℤ e.time
  first_later clock events e es is from = (subst (IsFrom clock) is from).0

  -- no change moves the clock back
  change-later : {en ar c en' ar' d : ℕ} {s t : State} → Change p en ar c s en' ar' d t
      → IsWithin (length p.blocks) (length p.entities) en ar s → s.clock ≤ℤ t.clock
  change-later (Goes n to t u block row state h is same here known along may balance pays) w = omega (arith, ints)
  change-later (EntersLast n t block row is here pays) w = omega (arith, ints)
  change-later (Turns n to t block row is here along may pays) w = omega (arith, ints)
  change-later (GoesWith n to q value t block row state is here known along may balance pays) w = omega (arith, ints)
  change-later (Arrives b g row priority time block is none later passes owed few) w = omega (arith, ints)
  change-later (Copied n target b t u block row state found mark known block_is row_is along may facilities units few pays) w = omega (arith, ints)
  change-later (Rests {s = s} n placement may settles) w = subst (λ z. s.clock ≤ℤ z) (sym (placed_at-leaves n placement s).clock) (omega (arith, ints))
  change-later (Called e n here below) w = omega (arith, ints)
  change-later (Assembled a is) w = omega (arith, ints)
  change-later (Comes a is more) w = omega (arith, ints)
  change-later (Unlinked c target n t ns members row is found members_is row_is fits may below pays) w = omega (arith, ints)
  change-later Woken w = omega (arith, ints)
  change-later (Activates n ns nobody first) w = omega (arith, ints)
  change-later (ClockMoves {s = s} e es is) w = first_later s.clock s.lists.future_events e es is w.future
  change-later (Draws streams same) w = omega (arith, ints)
  change-later (Counts by) w = omega (arith, ints)
  change-later (Marks steps ended) w = omega (arith, ints)

  pub trace-later : {en ar c en' ar' d : ℕ} {s t : State} → Trace p en ar c s en' ar' d t
      → IsWithin (length p.blocks) (length p.entities) en ar s → s.clock ≤ℤ t.clock
  trace-later Done w = omega (arith, ints)
  trace-later (Then x xs) w = omega (arith, ints, change-later x w, trace-later xs (change-within p x w))

  -- TRACES

  -- so is each list of changes paid for that stays in one clock moment
  pub trace-weighs : FlowHolds p (own_table p) → Weighted p → {en ar c en' ar' d : ℕ} {s t : State} → Trace p en ar c s en' ar' d t
      → WellTyped p s → IsWithin (length p.blocks) (length p.entities) en ar s → t.clock ≡ s.clock → weight p t + sum t.entries + d
      ≤ weight p s + sum s.entries + c
  trace-weighs flow weighted Done ty w clock = omega arith
  trace-weighs flow weighted (Then {s = s} {t = t} {u = u} x xs) ty w clock =
      let within = change-within p x w in
      let here : t.clock ≡ s.clock = omega (arith, ints, change-later x w, trace-later xs within, clock) in
      let there : u.clock ≡ t.clock = clock ∙ sym here in
      omega (arith, change-weighs flow weighted x ty w here, trace-weighs flow weighted xs (change-keeps p flow x ty) within there)
