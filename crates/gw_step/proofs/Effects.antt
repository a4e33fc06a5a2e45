-- What each block does to a well-typed state is a list of elementary changes, and never an error stop.
use Rattle.std.proofs.Common.{◌≡◌, ◌≢◌, ℕ, zero, suc, ◌+◌, ◌-◌, ◌≤◌, ℤ, pos, negsuc, Ok, Err, ◌-ℤ◌, ◌+ℤ◌, ◌≤ℤ◌, List, [], ◌∷◌, length, map, Option}
use Rattle.std.proofs.Common.{Some, None, Bool, true, false, not, if◌then◌else◌, ◌==◌, ◌||◌, option_map, IsSome, inl, inr, refl, sym, ap, ◌∙◌, subst}
use Rattle.std.proofs.Common.{arith}
use Rattle.std.specs.Prelude.{◌<ℤ◌, int_lt, nat_le, unwrap_or, is_none, ◌&&◌, All, Contains}
use Rattle.std.specs.Option.{option_map_or, option_flatten}
use Rattle.std.specs.List.{list_any}
use Rattle.std.proofs.lemmas.Bool.{cases_eq, eq-eqb, ne_eqb, or_left, leb-true, le-leb, false≢true}
use Rattle.std.proofs.lemmas.Int.{ints}
use Rattle.std.proofs.lemmas.List.Elements.{All-head, Contains-append_left}
use Rattle.gw_object.specs.declared.blocks.Operand.{Operand}
use Rattle.gw_object.specs.declared.blocks.Spread.{Spread}
use Rattle.gw_object.specs.declared.blocks.Units.{Units}
use Rattle.gw_object.specs.declared.blocks.Fraction.{Fraction}
use Rattle.gw_object.specs.declared.blocks.Both.{Both}
use Rattle.gw_object.specs.declared.blocks.Assign.{Assign}
use Rattle.gw_object.specs.declared.blocks.Call.{Call}
use Rattle.gw_object.specs.declared.blocks.Loop.{Loop}
use Rattle.gw_object.specs.declared.blocks.Logic.{Logic}
use Rattle.gw_object.specs.declared.blocks.Test.{Test}
use Rattle.gw_object.specs.declared.blocks.Gate.{Gate}
use Rattle.gw_object.specs.declared.blocks.Save.{Save}
use Rattle.gw_object.specs.declared.blocks.Plus.{Plus}
use Rattle.gw_object.specs.declared.parts.Kind.{Kind}
use Rattle.gw_object.specs.declared.parts.Kind.TheVariants as kinds
use Rattle.gw_object.specs.declared.blocks.Block.{Block}
use Rattle.gw_object.specs.declared.blocks.Block.TheVariants as blocks
use Rattle.gw_object.specs.declared.parts.Parts.{Parts}
use Rattle.gw_rules.specs.declared.entities.EntityKind.TheVariants as needed
use Rattle.gw_rules.specs.declared.ways.Way.TheVariants.{Falls, Goes}
use Rattle.gw_rules.specs.declared.ways.Exit.{Exit}
use Rattle.gw_rules.specs.Exits.{takes_time, leads_to, at_once, goes_or_falls, falls_or_goes, exits, returns_to, exits_with}
use Rattle.gw_rules.specs.Sources.{kind_at}
use Rattle.gw_rules.specs.Kinds.{block_at, needs}
use Rattle.gw_rules.specs.KindsLaws.{MayBeEntered, ReturnsHold, BlockHolds}
use Rattle.gw_rules.specs.FlowCodes as codes
use Rattle.gw_rules.specs.Entries.{lists}
use Rattle.gw_rules.specs.Rows.{ParamKind, Num, Ret, Row, kind_of, return_blocks, owns, units_of, with_parameter, with_facility, without_facility, with_units}
use Rattle.gw_rules.specs.Values.{evaluation_of}
use Rattle.gw_rules.proofs.Parameters.{loop_is_number, return_is, kind_of_set, kind_of_other}
use Rattle.gw_num.specs.Arithmetic.{fits_i64, difference_of}
use Rattle.gw_rules.specs.Blocks.{capacity_at, move, edges, edges_from, chain_edges, edges_along, returns_read, after}
use Rattle.gw_rules.specs.Flow.{own_table}
use Rattle.gw_rules.specs.FlowLaws.{FlowHolds}
use Rattle.gw_num.specs.Table.{at}
use Rattle.gw_transactions.specs.declared.Transaction.{Transaction}
use Rattle.gw_entities.specs.declared.facilities.Facility.{Facility}
use Rattle.gw_entities.specs.declared.storages.Storage.{Storage}
use Rattle.gw_entities.specs.declared.contents.Contents.{Contents}
use Rattle.gw_entities.specs.Contents.{holds}
use Rattle.gw_entities.specs.Facility.{idle, with_owner, seizure_by, without_owner, release_by, is_idle, is_owned_by, owns_any}
use Rattle.gw_entities.specs.Storage as storages
use Rattle.gw_entities.specs.Queue.{with_arrivals, with_departures, departure_of}
use Rattle.gw_entities.specs.Tabulation.{Tabulation, tabulation_of}
use Rattle.gw_step.specs.Numbers.{made_in}
use Rattle.gw_step.specs.declared.placement.Placement.{Placement}
use Rattle.gw_step.specs.declared.placement.Placement.TheVariants.{StaysActive, RestsUntil, JoinsDelayList, JoinsRetryList}
use Rattle.gw_step.specs.Outcome.{Gives, ◌>>=◌, case_of, evaluation_outcome}
use Rattle.gw_step.specs.State.{State, delay_list}
use Rattle.gw_step.specs.Times.{moment_after, parameters_of}
use Rattle.gw_step.specs.Changes.{enter_next, assign_to, enters_and_falls, facility, storage, queue, switch, savevalue, table, put_facility}
use Rattle.gw_step.specs.Changes.{put_storage, put_queue, put_switch, put_savevalue, put_table}
use Rattle.gw_step.specs.Placing.{place_by}
use Rattle.gw_step.specs.Blocks.{has_to_wait, leads, stays, until, advance, hand_over, release, admission, leave, join_queue, depart, transfer}
use Rattle.gw_step.specs.Blocks.{choice_of, passes_test, is_so, led_by, put_by, assign, both, loop, call, block_after, come_back, plus, mark}
use Rattle.gw_step.specs.Blocks.{switch_after, logic, save, tabulate, terminate, effect, then_placed, meets}
use Rattle.gw_step.proofs.Outcomes.{OnGives, choose, on_when, on_any}
use Rattle.gw_step.proofs.Residence.{at-le-sum}
use Rattle.gw_step.proofs.Owning.{idle-released}
use Rattle.gw_step.proofs.Drawn.{safe_later}
use Rattle.gw_step.specs.Places.{block_of, row_of}
use Rattle.gw_step.specs.Typing.{IsAsKnown, promised_units, content_of, awaited_entity, WaitsFor}
use Rattle.gw_step.proofs.Owning.{lists-none}
use Rattle.gw_step.proofs.Operands.{good_units}
use Rattle.gw_step.proofs.Balances.{balanced-nothing, balanced-parameters, balanced-switch, balanced-savevalue, balanced-table, balanced-seize}
use Rattle.gw_step.proofs.Balances.{balanced-release, balanced-storage, balanced-queue, came_in, went_out}
use Rattle.gw_step.proofs.Traces.{its_place, its_parameters, EntersLast, Counts, Done, Then, change-keeps, present, Rested, credited, Paid, Settles, its_row}
use Rattle.gw_step.proofs.Unstopped.{Safe, Any, safe_bind, safe_test, safe_if, safe_found, safe_answered, safe_given}
use Rattle.gw_step.proofs.AtBlock.{first_may_be_entered, second_may_be_entered, led_to, named_below, is_storage, is_queue}
use Rattle.gw_step.proofs.Moving.{Acts, has_entered, unchanged, Reaches, Enters, entered_once, safe_placed, refused, safe_leads, at_first, at_second}
use Rattle.gw_step.proofs.Moving.{the_rule, goes, goes_with, just_goes, owner_as, weighs_next, weighs_choice, falls_paid, other_paid, falls_set_paid}
use Rattle.gw_step.proofs.Moving.{other_set_paid, last_paid, last_borrowed}
use Rattle.gw_step.proofs.Returns.{may_come_back}
use Rattle.gw_step.proofs.Paying.{Does, Makes, one_apart, choice_paid, exits_paid, way_paid, return_paid}
use Rattle.gw_step.specs.Weight.{height, weighs_there}
use Rattle.gw_num.specs.Table.{put}
use Rattle.gw_object.specs.declared.blocks.Mode.{Mode}
use Rattle.gw_object.specs.declared.blocks.Mode.TheVariants.{Set}
use Rattle.gw_object.specs.declared.blocks.Operand.TheVariants.{Constant}
use Rattle.gw_num.specs.declared.arithmetic.NumFault.{NumFault}
use Rattle.gw_rules.specs.declared.ways.Way.{Way}
use Rattle.gw_step.proofs.Timed.{TellsValue, after_clock}
use Rattle.gw_step.proofs.Within.{sum-raised}
use Rattle.gw_step.proofs.Calm.{trace-grows}
use Rattle.gw_rules.specs.Weights.{above, assigns}
use Rattle.gw_rules.specs.WeightsLaws.{PaysExit}
use Rattle.gw_step.proofs.Calling.{some_of, handed_over, admits}
use Rattle.gw_step.proofs.Attributes.{bearer_at}
use Rattle.gw_transactions.specs.Parameters.{no_parameters}
use Rattle.gw_transactions.specs.Transactions.{LiveTransaction, parameter_at}

not-true : (b : Bool) → not b ≡ true → b ≡ false
not-true true h = absurd (false≢true h)
not-true false h = refl

-- who owns none of the facilities
pub owns_none : (fs : List Facility) (n : ℕ) → ((f : ℕ) → is_owned_by n (at idle fs f) ≡ false) → owns_any n fs ≡ false
owns_none [] n h = refl
owns_none (f ∷ fs) n h = ap (λ b. b || list_any (is_owned_by n) fs) (h 0) ∙ owns_none fs n (λ k. h (suc k))

-- WHAT ENTITIES ANSWER

-- a facility that n doesn't own is seized where it is idle, and else has to be waited for
seize_cases : (P : Option (Bool × Facility) → Type 0) (n : ℕ) (f : Facility) → is_owned_by n f ≡ false
    → (is_idle f ≡ true → P (Some (true, with_owner n f))) → P (Some (false, f)) → P (seizure_by n f)
seize_cases P n f mine free busy = by_tests (is_owned_by n f) (is_idle f) mine refl
  where
    by_tests : (o i : Bool) → o ≡ false → is_idle f ≡ i
        → P (if◌then◌else◌ {A = Option (Bool × Facility)} o None
        (if◌then◌else◌ {A = Option (Bool × Facility)} i (Some (true, with_owner n f)) (Some (false, f))))
    by_tests true i h is = absurd (false≢true (sym h))
    by_tests false true h is = free is
    by_tests false false h is = busy

-- units within the capacity are taken where they are free, and else have to be waited for
enter_cases : (P : Option (Bool × Storage) → Type 0) (n : ℕ) (e : Storage) → storages.fits_capacity n e ≡ true
    → (storages.has_room n e ≡ true → P (Some (true, storages.with_entries n e))) → P (Some (false, e)) → P (storages.entry_of n e)
enter_cases P n e fits free full = by_tests (storages.fits_capacity n e) (storages.has_room n e) fits refl
  where
    by_tests : (f r : Bool) → f ≡ true → storages.has_room n e ≡ r
        → P (if◌then◌else◌ {A = Option (Bool × Storage)} f
        (if◌then◌else◌ {A = Option (Bool × Storage)} r (Some (true, storages.with_entries n e)) (Some (false, e))) None)
    by_tests true true h is = free is
    by_tests true false h is = full
    by_tests false r h is = absurd (false≢true h)

released_is : (n : ℕ) (f : Facility) → is_owned_by n f ≡ true → release_by n f ≡ Some (without_owner f)
released_is n f h = ap (λ b. if◌then◌else◌ {A = Option Facility} b (Some (without_owner f)) None) h

left_is : (n : ℕ) (e : Storage) → holds n e.contents ≡ true → storages.exit_of n e ≡ Some (storages.with_exits n e)
left_is n e h = ap (λ b. if◌then◌else◌ {A = Option Storage} b (Some (storages.with_exits n e)) None) h

departed_is : (n : ℕ) (q : Contents) → holds n q ≡ true → departure_of n q ≡ Some (with_departures n q)
departed_is n q h = ap (λ b. if◌then◌else◌ {A = Option Contents} b (Some (with_departures n q)) None) h

-- a value of a kind, of each other that is known to be the same
value_as : (value : Option ℤ) (kind known : Option ParamKind) → known ≡ kind → IsAsKnown kind value → IsAsKnown known value
value_as value kind known same h = subst (λ k. IsAsKnown k value) (sym same) h

-- a value that is known to be a return is the number of one of its blocks
value_returns : (bs : List ℕ) (value : Option ℤ) → IsAsKnown (Some (Ret bs)) value → (b : ℕ) × (lists bs b ≡ true) × (value ≡ Some (pos b))
value_returns bs None h = absurd h
value_returns bs (Some value) h = (h.0, h.1, ap Some h.2)

-- a value that is known to be of a kind is set
pub value_is_set : (kind : ParamKind) (value : Option ℤ) → IsAsKnown (Some kind) value → IsSome value
value_is_set kind None h = absurd h
value_is_set kind (Some value) h = refl

-- where a TRANSFER in parameter mode leads to from a return
after_it : (b : ℕ) → block_after (pos b) ≡ b + 1
after_it b = choose (λ to. to ≡ b + 1) (int_lt (pos b) (pos 0)) 0 (b + 1) (λ below. absurd (omega (arith, ints, below))) (λ above. refl)

-- one of its edges leads to the block after each to which it may return
returns_along : (b from : ℕ) (row : Row) (bs : List ℕ) → lists bs b ≡ true → Contains (edges_along from (map returns_to bs) row) (move (b + 1) row)
returns_along b from row [] there = absurd (false≢true there)
returns_along b from row (c ∷ bs) there =
    elim (cases_eq c b) [
      | inl same ↦ subst (λ k. Contains (edges_along from (map returns_to (c ∷ bs)) row) (move (k + 1) row)) same (at_first (move (c + 1) row) _)
      | inr other ↦
          let later = returns_along b from row bs (subst (λ so. (so || lists bs b) ≡ true) (ne_eqb c b other) there) in
          (suc later.0, omega (arith, later.1), later.2)
    ]

-- so does one of its exits
returns_among : (b : ℕ) (bs : List ℕ) → lists bs b ≡ true → Contains (map returns_to bs) (returns_to b)
returns_among b [] there = absurd (false≢true there)
returns_among b (c ∷ bs) there =
    elim (cases_eq c b) [
      | inl same ↦ subst (λ k. Contains (map returns_to (c ∷ bs)) (returns_to k)) same (at_first (returns_to c) (map returns_to bs))
      | inr other ↦
          let later = returns_among b bs (subst (λ so. (so || lists bs b) ≡ true) (ne_eqb c b other) there) in
          (suc later.0, omega (arith, later.1), later.2)
    ]

-- the value of a parameter is read of who is there
parameter_read : (s : State) (n q : ℕ) (b : LiveTransaction) → at None s.transactions n ≡ Some b → at None (parameters_of n s) q
    ≡ parameter_at n q s.transactions
parameter_read s n q b found =
    ap (λ o. at None (option_map_or (λ (t : LiveTransaction). t.parameters) o no_parameters) q) found
    ∙ sym (ap (λ o. option_flatten (option_map (λ (t : LiveTransaction). at None t.parameters q) o)) found)

-- an ASSIGN does to its parameter what it does to the value, where a constant is known
assigned_so : (mode : Mode) (operand : Operand) (old value : ℤ) (height_was : ℕ) → TellsValue operand value
    → OnGives (λ new. Does (assigns mode operand) height_was (above new)) (evaluation_outcome (evaluation_of (put_by mode old value)))
assigned_so Set (Constant c) old value height_was tells = ap above tells
assigned_so Set operand old value height_was tells = tt
assigned_so mode operand old value height_was tells = on_any (evaluation_outcome (evaluation_of (put_by mode old value)))

-- what is one less
lowered : (old : ℤ) → OnGives (λ left. left ≡ old -ℤ pos 1) (evaluation_outcome (evaluation_of (difference_of old (pos 1))))
lowered old = by_fit (fits_i64 (old -ℤ pos 1))
  where
    by_fit : (b : Bool) → OnGives (λ left. left ≡ old -ℤ pos 1) (evaluation_outcome (evaluation_of (if b then Ok (old -ℤ pos 1) else Err NumFault.Number)))
    by_fit true = refl
    by_fit false = tt

-- what is above 0 then was higher by one
one_less : (old left : ℤ) → left ≡ old -ℤ pos 1 → pos 0 <ℤ left → above old ≡ 1 + above left
one_less (pos a) (pos b) is more = omega (arith, ints, is, more)
one_less (pos a) (negsuc b) is more = absurd (omega (arith, ints, more))
one_less (negsuc a) (pos b) is more = absurd (omega (arith, ints, is, more))
one_less (negsuc a) (negsuc b) is more = absurd (omega (arith, ints, more))

-- what isn't above 0 has no height
none_above : (left : ℤ) → int_lt (pos 0) left ≡ false → above left ≡ 0
none_above (pos zero) h = refl
none_above (pos (suc b)) h = absurd (omega (arith, ints, h))
none_above (negsuc b) h = refl

-- a value that is entered into a table is one more
counts_once : (value : ℤ) (v : Tabulation) → Safe (λ (new : Tabulation). new.count ≤ v.count + 1) (evaluation_outcome (evaluation_of (tabulation_of value v)))
counts_once value v = by_fit (fits_i64 (v.sum +ℤ value)) refl
  where
    by_fit : (b : Bool) → fits_i64 (v.sum +ℤ value) ≡ b
        → Safe (λ (new : Tabulation). new.count ≤ v.count + 1) (evaluation_outcome (evaluation_of (tabulation_of value v)))
    by_fit true is = rw is (omega arith)
    by_fit false is = rw is tt

module _ (p : Parts) (each_block : (b : ℕ) (block : Block) → block_at p.blocks b ≡ Some block → BlockHolds p b block)
    (flow : FlowHolds p (own_table p)) (s : State) (n : ℕ) (t : Transaction) (k : ℕ) where
  -- the units that its row promises are inside
  inside : (block : Block) (row : Row) → Acts p s n t block row → (e : ℕ) → units_of row e ≤ content_of e s.entities (kind_at p.entities e)
  inside block row acts e =
      omega (
        arith,
        acts.typed.promised e,
        at-le-sum None (λ t. promised_units e (row_of p t)) s.transactions n refl,
        ap (promised_units e) (its_row p s.transactions n t block row acts.is),
      )

  -- it waits for what its block asks for
  asks : (block : Block) (row : Row) → Acts p s n t block row → (e : ℕ) → awaited_entity block ≡ Some e → WaitsFor p e (at None s.transactions n)
  asks block row acts e h =
      let bears = bearer_at s.transactions n t acts.is.found in
      subst (WaitsFor p e) (sym bears.1)
      (ap (λ at. option_map_or awaited_entity (block_of p at) None) (its_place p s.transactions n t block row acts.is)
      ∙ ap (λ b. option_map_or awaited_entity b None) acts.is.block_is ∙ h)

  -- ADVANCE AND THE FACILITIES

  until_rests : (clock moment : ℤ) (m : State) → m.lists.active ≡ Some n → m.clock ≡ clock → Rested p n (until clock moment) m
  until_rests clock moment m active is =
      choose (λ (x : Placement). Rested p n x m) (int_lt clock moment) (RestsUntil moment) StaysActive
      (λ later. (active, subst (λ c. c <ℤ moment) (sym is) (omega (arith, ints, later)))) (λ _. tt)

  until_credits : (clock moment : ℤ) (en : ℕ) → credited (until clock moment) en ≡ en
  until_credits clock moment en = choose (λ (x : Placement). credited x en ≡ en) (int_lt clock moment) (RestsUntil moment) StaysActive (λ _. refl) (λ _. refl)

  -- an ADVANCE on which no time has to pass pays for the next block
  advance_paid : (time : Spread) (row : Row) → Acts p s n t (blocks.Advance time) row → takes_time time.mean time.half ≡ false
      → Paid p (1 + weighs_there p (t.next + 1) (parameters_of n s) + 0) (weighs_there p t.next (parameters_of n s) + 0)
  advance_paid time row acts none =
      way_paid p t.next (blocks.Advance time) row acts.is.block_is acts.is.row_is Falls (parameters_of n s) (parameters_of n s) (λ q. refl) 0
      (λ weighted at_once. All-head (PaysExit p t.next (blocks.Advance time)) _ []
      (exits_paid p t.next (blocks.Advance time) row acts.is.block_is acts.is.row_is weighted) (ap not none))

  -- where it stays active or rests until later the transaction gives back what it borrowed
  advances : (time : Spread) (row : Row) → Acts p s n t (blocks.Advance time) row → (moment : ℤ) → s.clock ≤ℤ moment → (borrowed left : ℕ)
      → Paid p (1 + weighs_there p (t.next + 1) (parameters_of n s) + left) (weighs_there p t.next (parameters_of n s) + borrowed)
      → Settles p n (until s.clock moment) (enters_and_falls n t s) left borrowed → Enters p k s n (enters_and_falls n t s, until s.clock moment)
  advances time row acts moment later borrowed left pays settles = record {
    entries = suc k;
    arrivals = made_in k;
    borrowed = borrowed;
    left = left;
    trace = Then (goes p s n t (blocks.Advance time) row acts k (made_in k) borrowed left t (t.next + 1) row s.entities (unchanged s t)
        (λ q. refl) (at_first _ []) (first_may_be_entered p t.next _ [] acts.kinds.exits) (balanced-nothing p n row s.entities) pays) Done;
    may = until_rests s.clock moment (enters_and_falls n t s) acts.active refl;
    settles = settles;
    few_entries = omega (arith, until_credits s.clock moment (suc k));
    few_arrivals = omega arith;
    grows = omega (arith, sum-raised t.next s.entries);
  }

  -- a time that is known to pass is paid for by the weight that rests
  advances_by : (time : Spread) (row : Row) → Acts p s n t (blocks.Advance time) row → (moment : ℤ) → s.clock ≤ℤ moment → (passes : Bool)
      → takes_time time.mean time.half ≡ passes → (passes ≡ true → s.clock <ℤ moment) → Enters p k s n (enters_and_falls n t s, until s.clock moment)
  advances_by time row acts moment later false none after =
      advances time row acts moment later 0 0 (λ weighted. omega (arith, advance_paid time row acts none weighted))
      (choose (λ (x : Placement). Settles p n x (enters_and_falls n t s) 0 0) (int_lt s.clock moment) (RestsUntil moment) StaysActive
      (λ _ weighted. omega arith) (λ _. refl))
  advances_by time row acts moment later true is after =
      let next = weighs_there p (t.next + 1) (parameters_of n s) in
      let own = weighs_there p t.next (parameters_of n s) in
      advances time row acts moment later (1 + next) own (λ weighted. omega arith)
      (choose (λ (x : Placement). Settles p n x (enters_and_falls n t s) own (1 + next)) (int_lt s.clock moment) (RestsUntil moment) StaysActive
      (λ _ weighted. omega (
        arith,
        weighs_next p s n t (blocks.Advance time) row acts t (t.next + 1)
            (one_apart p (record t { current = t.next; next = t.next + 1 }) (λ same. absurd (omega (arith, same)))),
        weighted.least t.next (blocks.Advance time) acts.is.block_is,
      ))
      (λ early. absurd (omega (arith, ints, after refl, early))))

  pub safe_advance : (time : Spread) (value : ℤ) (row : Row) → Acts p s n t (blocks.Advance time) row
      → (takes_time time.mean time.half ≡ true → pos 0 <ℤ value) → Safe (Enters p k s n) (advance p.blocks n t value s)
  safe_advance time value row acts tells =
      safe_bind (λ moment. (s.clock ≤ℤ moment) × (takes_time time.mean time.half ≡ true → s.clock <ℤ moment)) (Enters p k s n) (moment_after s.clock value) _
      (safe_given (λ moment. s.clock ≤ℤ moment) (λ moment. takes_time time.mean time.half ≡ true → s.clock <ℤ moment)
      (moment_after s.clock value) (safe_later s.clock value)
      (on_when (λ moment. s.clock <ℤ moment) (takes_time time.mean time.half) (moment_after s.clock value)
      (λ known. after_clock s.clock value (tells known))))
      (λ moment later. safe_leads p (Enters p k s n) (t.next + 1) _ (first_may_be_entered p t.next _ [] acts.kinds.exits)
      (advances_by time row acts moment later.0 (takes_time time.mean time.half) refl later.1))

  pub safe_seize : (f : ℕ) (values : List ℤ) (row : Row) → Acts p s n t (blocks.Seize f) row → Safe (Reaches p k s) (meets p n t (blocks.Seize f) values s)
  unfolding effect
  safe_seize f values row acts =
      let may = first_may_be_entered p t.next _ [] acts.kinds.exits in
      let below = named_below p.entities (needs needed.Facility f) [] acts.kinds.entities in
      let rule = the_rule p t.next codes.already_owned (not (owns row f)) (blocks.Seize f) row refl acts.flow in
      let mine : is_owned_by n (facility f s) ≡ false = owner_as p s n t (blocks.Seize f) row acts f ∙ not-true (owns row f) rule in
      seize_cases
      (λ r. Safe (Reaches p k s)
      (if has_to_wait r then Gives (place_by n (JoinsDelayList f) s) else
      then_placed n (leads p.blocks (t.next + 1) (case_of r >>= λ x. stays (put_facility f x.1 (enters_and_falls n t s))))))
      n (facility f s) mine
      (λ free.
      safe_placed p k s n _ (safe_leads p (Enters p k s n) (t.next + 1) _ may
      (just_goes p s n t (blocks.Seize f) row acts k (t.next + 1) (with_facility f row)
      (put_facility f (with_owner n (facility f s)) s).entities (λ q. refl) (at_first _ []) may
      (balanced-seize p n f row s.entities below free) (falls_paid p s n t (blocks.Seize f) row acts Falls [] refl (λ q. refl) 0))))
      (refused p k s n (JoinsDelayList f) acts.active tt (acts.active, asks (blocks.Seize f) row acts f refl, below) refl (omega arith))

  pub safe_release : (f : ℕ) (row : Row) → Acts p s n t (blocks.Release f) row → Safe (Enters p k s n) (release p.blocks n t f s)
  safe_release f row acts =
      let may = first_may_be_entered p t.next _ [] acts.kinds.exits in
      let below = named_below p.entities (needs needed.Facility f) [] acts.kinds.entities in
      let owned = owner_as p s n t (blocks.Release f) row acts f ∙ the_rule p t.next codes.not_owner (owns row f) (blocks.Release f) row refl acts.flow in
      let u : State = put_facility f (without_owner (facility f s)) (enters_and_falls n t s) in
      let gone = goes p s n t (blocks.Release f) row acts k (made_in k) 0 0 t (t.next + 1) (without_facility f row) u.entities
      (unchanged s t) (λ q. refl) (at_first _ []) may (balanced-release p n f row s.entities below owned)
      (falls_paid p s n t (blocks.Release f) row acts Falls [] refl (λ q. refl) 0) in
      safe_leads p (Enters p k s n) (t.next + 1) _ may
      (subst (λ r. Safe (Enters p k s n)
      (case_of r >>= λ x. stays (hand_over p.blocks f (delay_list f s) (put_facility f x (enters_and_falls n t s)))))
      (sym (released_is n (facility f s) owned))
      (let handed = handed_over p each_block flow k (made_in k) u (change-keeps p flow gone acts.typed) f (delay_list f s) below
      (idle-released f (enters_and_falls n t s)) (λ m. omega arith) in
      entered_once p k s n _ (Then gone handed) (omega (arith, sum-raised t.next s.entries, trace-grows p handed))))

  -- STORAGES AND QUEUES

  pub safe_enter : (u : Units) (values : List ℤ) (row : Row) → Acts p s n t (blocks.Enter u) row → Safe (Reaches p k s) (meets p n t (blocks.Enter u) values s)
  unfolding effect
  safe_enter u values row acts =
      let may = first_may_be_entered p t.next _ [] acts.kinds.exits in
      let kind = is_storage p.entities u.entity acts.kinds.entities in
      let fit = good_units p needed.Storage u acts.kinds.entities acts.kinds.constants in
      let rule = the_rule p t.next codes.over_capacity (nat_le u.number (capacity_at p.entities u.entity)) (blocks.Enter u) row refl acts.flow in
      enter_cases
      (λ r. Safe (Reaches p k s)
      (if has_to_wait r then Gives (place_by n (JoinsDelayList u.entity) s) else
      then_placed n (leads p.blocks (t.next + 1) (case_of r >>= λ x. stays (put_storage u.entity x.1 (enters_and_falls n t s))))))
      u.number (storage u.entity s) (ap (nat_le u.number) (acts.typed.sized u.entity) ∙ rule)
      (λ free.
      safe_placed p k s n _ (safe_leads p (Enters p k s n) (t.next + 1) _ may
      (just_goes p s n t (blocks.Enter u) row acts k (t.next + 1) (with_units u.entity (units_of row u.entity + u.number) row)
      (put_storage u.entity (storages.with_entries u.number (storage u.entity s)) s).entities (λ q. refl) (at_first _ []) may
      (balanced-storage p n u.entity (units_of row u.entity + u.number) (storages.with_entries u.number (storage u.entity s)) row
      s.entities kind.0 kind.1 refl (omega arith) (λ _. leb-true _ _ free) (came_in u.number _) (omega (arith, fit.number)))
      (falls_paid p s n t (blocks.Enter u) row acts Falls [] refl (λ q. refl) 0))))
      (refused p k s n (JoinsDelayList u.entity) acts.active tt (acts.active, asks (blocks.Enter u) row acts u.entity refl, fit.entity) refl (omega arith))

  -- what a storage holds of the units that a row promises
  held : (u : Units) (row : Row) (kind : Option Kind) (capacity : ℕ) → kind ≡ Some (kinds.Storage capacity) → units_of row u.entity
      ≤ content_of u.entity s.entities kind → units_of row u.entity ≤ (storage u.entity s).contents.content
  held u row kind capacity is h = subst (λ k. units_of row u.entity ≤ content_of u.entity s.entities k) is h

  pub safe_leave : (u : Units) (row : Row) → Acts p s n t (blocks.Leave u) row → Safe (Enters p k s n) (leave p.blocks n t u s)
  safe_leave u row acts =
      let may = first_may_be_entered p t.next _ [] acts.kinds.exits in
      let kind = is_storage p.entities u.entity acts.kinds.entities in
      let enough = leb-true u.number (units_of row u.entity)
      (the_rule p t.next codes.too_few_units (nat_le u.number (units_of row u.entity)) (blocks.Leave u) row refl acts.flow) in
      let within = held u row (kind_at p.entities u.entity) kind.0 kind.1 (inside (blocks.Leave u) row acts u.entity) in
      let v : State = put_storage u.entity (storages.with_exits u.number (storage u.entity s)) (enters_and_falls n t s) in
      let gone = goes p s n t (blocks.Leave u) row acts k (made_in k) 0 0 t (t.next + 1)
      (with_units u.entity (units_of row u.entity - u.number) row) v.entities (unchanged s t) (λ q. refl) (at_first _ []) may
      (balanced-storage p n u.entity (units_of row u.entity - u.number) (storages.with_exits u.number (storage u.entity s)) row s.entities
      kind.0 kind.1 refl (omega (arith, enough, within)) (λ before. omega (arith, before))
      (went_out u.number _ (le-leb u.number (storage u.entity s).contents.content (omega (arith, enough, within)))) (omega arith))
      (falls_paid p s n t (blocks.Leave u) row acts Falls [] refl (λ q. refl) 0) in
      safe_leads p (Enters p k s n) (t.next + 1) _ may
      (subst (λ r. Safe (Enters p k s n)
      (case_of r >>= λ x. stays
      (admission p.blocks u.entity (delay_list u.entity s) (put_storage u.entity x (enters_and_falls n t s)))))
      (sym (left_is u.number (storage u.entity s) (le-leb u.number (storage u.entity s).contents.content (omega (arith, enough, within)))))
      (let admitted = admits p each_block flow k (made_in k) v (change-keeps p flow gone acts.typed) u.entity (delay_list u.entity s)
      (λ m. omega arith) in entered_once p k s n _ (Then gone admitted) (omega (arith, sum-raised t.next s.entries, trace-grows p admitted))))

  pub safe_join : (u : Units) (row : Row) → Acts p s n t (blocks.Queue u) row → Safe (Enters p k s n) (join_queue p.blocks n t u s)
  safe_join u row acts =
      let may = first_may_be_entered p t.next _ [] acts.kinds.exits in
      let kind = is_queue p.entities u.entity acts.kinds.entities in
      let fit = good_units p needed.Queue u acts.kinds.entities acts.kinds.constants in
      safe_leads p (Enters p k s n) (t.next + 1) _ may
      (just_goes p s n t (blocks.Queue u) row acts k (t.next + 1) (with_units u.entity (units_of row u.entity + u.number) row)
      (put_queue u.entity (with_arrivals u.number (queue u.entity s)) s).entities (λ q. refl) (at_first _ []) may
      (balanced-queue p n u.entity (units_of row u.entity + u.number) (with_arrivals u.number (queue u.entity s)) row s.entities kind
      (omega arith) (omega (arith, fit.number)) (λ h. omega (arith, h))) (falls_paid p s n t (blocks.Queue u) row acts Falls [] refl (λ q. refl) 0))

  pub safe_depart : (u : Units) (row : Row) → Acts p s n t (blocks.Depart u) row → Safe (Enters p k s n) (depart p.blocks n t u s)
  safe_depart u row acts =
      let may = first_may_be_entered p t.next _ [] acts.kinds.exits in
      let kind = is_queue p.entities u.entity acts.kinds.entities in
      let enough = leb-true u.number (units_of row u.entity)
      (the_rule p t.next codes.too_few_units (nat_le u.number (units_of row u.entity)) (blocks.Depart u) row refl acts.flow) in
      let within : units_of row u.entity ≤ (queue u.entity s).content =
      subst (λ k. units_of row u.entity ≤ content_of u.entity s.entities k) kind (inside (blocks.Depart u) row acts u.entity) in
      safe_leads p (Enters p k s n) (t.next + 1) _ may
      (subst (λ r. Safe (Enters p k s n) (case_of r >>= λ x. stays (put_queue u.entity x (enters_and_falls n t s))))
      (sym (departed_is u.number (queue u.entity s) (le-leb u.number (queue u.entity s).content (omega (arith, enough, within)))))
      (just_goes p s n t (blocks.Depart u) row acts k (t.next + 1) (with_units u.entity (units_of row u.entity - u.number) row)
      (put_queue u.entity (with_departures u.number (queue u.entity s)) s).entities (λ q. refl) (at_first _ []) may
      (balanced-queue p n u.entity (units_of row u.entity - u.number) (with_departures u.number (queue u.entity s)) row s.entities kind
      (omega (arith, enough, within)) (omega arith) (λ h. omega (arith, h))) (falls_paid p s n t (blocks.Depart u) row acts Falls [] refl (λ q. refl) 0)))

  -- TRANSFERS

  -- it goes along one of its edges
  goes_to : (block : Block) (row : Row) → Acts p s n t block row → (to : ℕ)
      → Contains (edges p (own_table p) t.next block row) (move to row) → MayBeEntered p to
      → Paid p (1 + weighs_there p to (parameters_of n s) + 0) (weighs_there p t.next (parameters_of n s) + 0)
      → Safe (Enters p k s n) (transfer p.blocks n t to s)
  goes_to block row acts to along may pays =
      safe_leads p (Enters p k s n) to _ may
      (just_goes p s n t block row acts k to row s.entities (λ q. refl) along may (balanced-nothing p n row s.entities) pays)

  pub safe_transfer : (to : ℕ) (row : Row) → Acts p s n t (blocks.Transfer to) row → Safe (Enters p k s n) (transfer p.blocks n t to s)
  safe_transfer to row acts =
      goes_to (blocks.Transfer to) row acts to (at_first _ []) (first_may_be_entered p t.next _ [] acts.kinds.exits)
      (falls_paid p s n t (blocks.Transfer to) row acts (Goes to) [] refl (λ q. refl) 0)

  pub safe_fraction : (f : Fraction) (drawn : ℤ) (row : Row) → Acts p s n t (blocks.TransferByFraction f) row
      → Safe (Enters p k s n) (transfer p.blocks n t (choice_of t.next f drawn) s)
  safe_fraction f drawn row acts =
      let others : ℕ = leads_to t.next (goes_or_falls f.otherwise) in
      choose (λ to. Safe (Enters p k s n) (transfer p.blocks n t to s)) (int_lt drawn (pos f.thousandths)) f.target (unwrap_or f.otherwise (t.next + 1))
      (λ is. goes_to (blocks.TransferByFraction f) row acts f.target (at_second (move others row) _ [])
      (second_may_be_entered p t.next _ _ [] acts.kinds.exits)
      (other_paid p s n t (blocks.TransferByFraction f) row acts _ (Goes f.target) [] refl (λ q. refl) 0))
      (λ other.
      subst (λ to. Safe (Enters p k s n) (transfer p.blocks n t to s)) (led_to t.next f.otherwise)
      (goes_to (blocks.TransferByFraction f) row acts others (at_first _ (move f.target row ∷ []))
      (first_may_be_entered p t.next _ (at_once (Goes f.target) ∷ []) acts.kinds.exits)
      (falls_paid p s n t (blocks.TransferByFraction f) row acts (goes_or_falls f.otherwise) _ refl (λ q. refl) 0)))

  -- it enters and stays at its block, with two next blocks from then on
  pub safe_both : (two : Both) (row : Row) → Acts p s n t (blocks.TransferBoth two) row → Safe (Enters p k s n) (both p.blocks n t two s)
  safe_both two row acts =
      let first = first_may_be_entered p t.next _ (at_once (Goes two.second) ∷ []) acts.kinds.exits in
      let second = second_may_be_entered p t.next _ _ [] acts.kinds.exits in
      safe_leads p (Enters p k s n) (leads_to t.next (goes_or_falls two.first)) _ first
      (safe_leads p (Enters p k s n) two.second _ second
      (entered_once p k s n _ (Then
      (EntersLast n t (blocks.TransferBoth two) row acts.is (present s.lists n acts.active)
      (λ weighted. omega (
        arith,
        weighs_choice p s n t (blocks.TransferBoth two) row acts (leads_to t.next (goes_or_falls two.first), two.second) refl,
        (choice_paid p weighted t.next (blocks.TransferBoth two) row (leads_to t.next (goes_or_falls two.first), two.second)
            (parameters_of n s) acts.is.block_is acts.is.row_is refl).entry,
        acts.weighs weighted,
      ))) Done) (omega (arith, sum-raised t.next s.entries))))

  -- CONDITIONS

  -- where it is not refused it goes to the next block, or to the other one that its block names
  led : (block : Block) (row : Row) → Acts p s n t block row → ((way : Way) → Makes block way (parameters_of n s) (parameters_of n s))
      → after t.next block row ≡ row → (otherwise : Option ℕ) → exits_with (returns_read block row) block ≡ falls_or_goes otherwise
      → exits block ≡ falls_or_goes otherwise → (so : Bool) → (is_none otherwise && not so) ≡ false
      → Safe (Enters p k s n) (transfer p.blocks n t (led_by t.next otherwise so) s)
  led block row acts makes same otherwise ways is so passes = by_case otherwise so ways is passes
    where
      along : (es : List Exit) (to : ℕ) → exits_with (returns_read block row) block ≡ es
          → Contains (edges_along t.next es row) (move to row) → Contains (edges p (own_table p) t.next block row) (move to row)
      along es to ways there =
          Contains-append_left (edges_from t.next block row) (chain_edges (own_table p) block row) (move to row)
          (subst (λ r. Contains (edges_along t.next (exits_with (returns_read block row) block) r) (move to row)) (sym same)
          (subst (λ xs. Contains (edges_along t.next xs row) (move to row)) (sym ways) there))

      exits_hold : (es : List Exit) → exits block ≡ es → All (λ (exit : Exit). MayBeEntered p (leads_to t.next exit.way)) es
      exits_hold es is = subst (All (λ (exit : Exit). MayBeEntered p (leads_to t.next exit.way))) is acts.kinds.exits

      by_case : (o : Option ℕ) (b : Bool) → exits_with (returns_read block row) block ≡ falls_or_goes o → exits block ≡ falls_or_goes o
          → (is_none o && not b) ≡ false → Safe (Enters p k s n) (transfer p.blocks n t (led_by t.next o b) s)
      by_case None true ways is passes =
          goes_to block row acts (t.next + 1) (along _ (t.next + 1) ways (at_first _ []))
          (first_may_be_entered p t.next _ [] (exits_hold _ is)) (falls_paid p s n t block row acts Falls [] ways (makes _) 0)
      by_case None false ways is passes = absurd (false≢true (sym passes))
      by_case (Some c) true ways is passes =
          goes_to block row acts (t.next + 1) (along _ (t.next + 1) ways (at_first _ (move c row ∷ [])))
          (first_may_be_entered p t.next _ (at_once (Goes c) ∷ []) (exits_hold _ is))
          (falls_paid p s n t block row acts Falls (at_once (Goes c) ∷ []) ways (makes _) 0)
      by_case (Some c) false ways is passes =
          goes_to block row acts c (along _ c ways (at_second (move (t.next + 1) row) _ []))
          (second_may_be_entered p t.next _ _ [] (exits_hold _ is)) (other_paid p s n t block row acts (at_once Falls) (Goes c) [] ways (makes _) 0)

  pub safe_comparison : (test : Test) (values : List ℤ) (row : Row) → Acts p s n t (blocks.Test test) row
      → Safe (Reaches p k s) (meets p n t (blocks.Test test) values s)
  unfolding effect
  safe_comparison test values row acts =
      safe_if (Reaches p k s) (is_none test.otherwise && not (passes_test test values)) _ _
      (λ false. refused p k s n JoinsRetryList acts.active tt acts.active refl (omega arith))
      (λ passes. safe_placed p k s n _ (led (blocks.Test test) row acts (λ way q. refl) refl test.otherwise refl refl (passes_test test values) passes))

  pub safe_gate : (gate : Gate) (values : List ℤ) (row : Row) → Acts p s n t (blocks.Gate gate) row
      → Safe (Reaches p k s) (meets p n t (blocks.Gate gate) values s)
  unfolding effect
  safe_gate gate values row acts =
      safe_if (Reaches p k s) (is_none gate.otherwise && not (is_so gate.condition gate.entity s)) _ _
      (λ false. refused p k s n JoinsRetryList acts.active tt acts.active refl (omega arith))
      (λ passes. safe_placed p k s n _
      (led (blocks.Gate gate) row acts (λ way q. refl) refl gate.otherwise refl refl (is_so gate.condition gate.entity s) passes))

  -- PARAMETERS

  -- a parameter of it is set, and it goes along an edge of its block, where all other parameters are what they were
  with_assigned : (block : Block) (row state : Row) → Acts p s n t block row → (q : ℕ) (value : ℤ) (to : ℕ)
      → Contains (edges p (own_table p) t.next block row) (move to state) → MayBeEntered p to
      → IsAsKnown (kind_of state q) (Some value) → ((r : ℕ) → r ≢ q → kind_of state r ≡ kind_of row r) → state.facilities ≡ row.facilities
      → state.units ≡ row.units
      → Paid p (1 + weighs_there p to (put None (parameters_of n s) q (Some value)) + 0)
      (weighs_there p t.next (parameters_of n s) + 0) → Enters p k s n (enter_next n t to (assign_to n q value s), StaysActive)
  with_assigned block row state acts q value to along may here others facilities units pays =
      entered_once p k s n _ (Then
      (goes_with p s n t block row acts k (made_in k) to state q value here others along may
      (balanced-parameters p n row state s.entities facilities units) pays) Done) (omega (arith, sum-raised t.next s.entries))

  -- and is known to be what it is set to
  sets : (block : Block) (row : Row) → Acts p s n t block row → (q : ℕ) (kind : ParamKind) (value : ℤ) (to : ℕ)
      → Contains (edges p (own_table p) t.next block row) (move to (with_parameter q kind row)) → MayBeEntered p to
      → IsAsKnown (Some kind) (Some value)
      → Paid p (1 + weighs_there p to (put None (parameters_of n s) q (Some value)) + 0)
      (weighs_there p t.next (parameters_of n s) + 0) → Enters p k s n (enter_next n t to (assign_to n q value s), StaysActive)
  sets block row acts q kind value to along may is pays =
      with_assigned block row (with_parameter q kind row) acts q value to along may
      (value_as (Some value) (Some kind) _ (kind_of_set q kind row) is) (λ r other. kind_of_other q r kind row (λ same. other (sym same))) refl refl pays

  -- the value of a parameter that its row knows something of
  known_value : (block : Block) (row : Row) → Acts p s n t block row → (q : ℕ) (kind : ParamKind) → kind_of row q ≡ Some kind
      → IsAsKnown (Some kind) (parameter_at n q s.transactions)
  known_value block row acts q kind is =
      let bears = bearer_at s.transactions n t acts.is.found in
      subst (IsAsKnown (Some kind)) (parameter_read s n q bears.0 bears.1)
      (value_as (at None (parameters_of n s) q) (kind_of row q) (Some kind) (sym is) (its_parameters p s acts.typed n t block row acts.is q))

  pub safe_assign : (a : Assign) (value : ℤ) (row : Row) → Acts p s n t (blocks.Assign a) row → TellsValue a.value value
      → Safe (Enters p k s n) (assign p.blocks n t a value s)
  safe_assign a value row acts tells =
      let may = first_may_be_entered p t.next _ [] acts.kinds.exits in
      let height_was = height a.parameter (parameters_of n s) in
      let outcome = evaluation_outcome (evaluation_of (put_by a.mode (unwrap_or (parameter_at n a.parameter s.transactions) (pos 0)) value)) in
      safe_bind (λ new. Any new × Does (assigns a.mode a.value) height_was (above new)) (Enters p k s n) outcome _
      (safe_given Any (λ new. Does (assigns a.mode a.value) height_was (above new)) outcome (safe_answered _)
      (assigned_so a.mode a.value (unwrap_or (parameter_at n a.parameter s.transactions) (pos 0)) value height_was tells))
      (λ new does. safe_leads p (Enters p k s n) (t.next + 1) _ may
      (sets (blocks.Assign a) row acts a.parameter Num new (t.next + 1) (at_first _ []) may tt
      (falls_set_paid p s n t (blocks.Assign a) row acts Falls [] refl a.parameter new refl does.1)))

  pub safe_loop : (l : Loop) (row : Row) → Acts p s n t (blocks.Loop l) row → Safe (Enters p k s n) (loop p.blocks n t l s)
  safe_loop l row acts =
      let number = loop_is_number p (own_table p) t.next l row acts.flow in
      let old = some_of (parameter_at n l.parameter s.transactions)
      (value_is_set Num (parameter_at n l.parameter s.transactions) (known_value (blocks.Loop l) row acts l.parameter Num number)) in
      safe_found (Enters p k s n) (parameter_at n l.parameter s.transactions) old.0 _ old.1
      (let height_was : height l.parameter (parameters_of n s) ≡ above old.0 =
      (let bears = bearer_at s.transactions n t acts.is.found in
      ap (λ v. option_map_or above v 0) (parameter_read s n l.parameter bears.0 bears.1 ∙ old.1)) in
      safe_bind (λ left. Any left × (left ≡ old.0 -ℤ pos 1)) (Enters p k s n)
      (evaluation_outcome (evaluation_of (difference_of old.0 (pos 1)))) _
      (safe_given Any (λ left. left ≡ old.0 -ℤ pos 1) (evaluation_outcome (evaluation_of (difference_of old.0 (pos 1)))) (safe_answered _) (lowered old.0))
      (λ left lower.
      let here : IsAsKnown (kind_of row l.parameter) (Some left) = value_as (Some left) (Some Num) _ number tt in
      choose (λ to. Safe (Enters p k s n) (leads p.blocks to (stays (enter_next n t to (assign_to n l.parameter left s)))))
      (int_lt (pos 0) left) l.target (t.next + 1)
      (λ more.
      let may = second_may_be_entered p t.next _ _ [] acts.kinds.exits in
      safe_leads p (Enters p k s n) l.target _ may
      (with_assigned (blocks.Loop l) row row acts l.parameter left l.target (at_second (move (t.next + 1) row) _ []) may here
      (λ r other. refl) refl refl
      (other_set_paid p s n t (blocks.Loop l) row acts _ (Goes l.target) [] refl l.parameter left refl
      (height_was ∙ one_less old.0 left lower.1 (omega (arith, ints, more))))))
      (λ falls.
      let may = first_may_be_entered p t.next _ (at_once (Goes l.target) ∷ []) acts.kinds.exits in
      safe_leads p (Enters p k s n) (t.next + 1) _ may
      (with_assigned (blocks.Loop l) row row acts l.parameter left (t.next + 1) (at_first _ (move l.target row ∷ [])) may here
      (λ r other. refl) refl refl (falls_set_paid p s n t (blocks.Loop l) row acts Falls _ refl l.parameter left refl (none_above left falls))))))

  pub safe_mark : (o : Option ℕ) (row : Row) → Acts p s n t (blocks.Mark o) row → Safe (Enters p k s n) (mark p.blocks n t o s)
  safe_mark None row acts =
      let may = first_may_be_entered p t.next _ [] acts.kinds.exits in
      safe_leads p (Enters p k s n) (t.next + 1) _ may
      (entered_once p k s n _ (Then
      (goes p s n t (blocks.Mark None) row acts k (made_in k) 0 0 (record t { mark = s.clock }) (t.next + 1) row s.entities
      (record { next = refl; mark = λ clock mark. clock }) (λ q. refl) (at_first _ []) may (balanced-nothing p n row s.entities)
      (falls_paid p s n t (blocks.Mark None) row acts Falls [] refl (λ q. refl) 0)) Done) (omega (arith, sum-raised t.next s.entries)))
  safe_mark (Some q) row acts =
      let may = first_may_be_entered p t.next _ [] acts.kinds.exits in
      safe_leads p (Enters p k s n) (t.next + 1) _ may
      (sets (blocks.Mark (Some q)) row acts q Num s.clock (t.next + 1) (at_first _ []) may tt
      (falls_set_paid p s n t (blocks.Mark (Some q)) row acts Falls [] refl q s.clock refl tt))

  -- the block PLUS, by the operand that it evaluates and the parameter that it sets, if it sets one
  abbrev plus_block : Operand → Option ℕ → Block
  plus_block operand q = blocks.Plus (record { value = operand; parameter = q })

  safe_plus_by : (operand : Operand) (o : Option ℕ) (value : ℤ) (row : Row) → Acts p s n t (plus_block operand o) row
      → Safe (Enters p k s n) (plus p.blocks n t o value s)
  safe_plus_by operand None value row acts =
      let may = first_may_be_entered p t.next _ [] acts.kinds.exits in
      safe_leads p (Enters p k s n) (t.next + 1) _ may
      (just_goes p s n t (plus_block operand None) row acts k (t.next + 1) row s.entities (λ q. refl) (at_first _ []) may
      (balanced-nothing p n row s.entities) (falls_paid p s n t (plus_block operand None) row acts Falls [] refl (λ q. refl) 0))
  safe_plus_by operand (Some q) value row acts =
      let may = first_may_be_entered p t.next _ [] acts.kinds.exits in
      safe_leads p (Enters p k s n) (t.next + 1) _ may
      (sets (plus_block operand (Some q)) row acts q Num value (t.next + 1) (at_first _ []) may tt
      (falls_set_paid p s n t (plus_block operand (Some q)) row acts Falls [] refl q value refl tt))

  pub safe_plus : (a : Plus) (value : ℤ) (row : Row) → Acts p s n t (blocks.Plus a) row → Safe (Enters p k s n) (plus p.blocks n t a.parameter value s)
  safe_plus a value row acts = safe_plus_by a.value a.parameter value row acts

  -- SUBROUTINES

  pub safe_call : (c : Call) (row : Row) → Acts p s n t (blocks.TransferToSubroutine c) row → Safe (Enters p k s n) (call p.blocks n t c s)
  safe_call c row acts =
      let may = first_may_be_entered p t.next _ [] acts.kinds.exits in
      safe_leads p (Enters p k s n) c.target _ may
      (sets (blocks.TransferToSubroutine c) row acts c.parameter (Ret (t.next ∷ [])) (pos t.next) c.target (at_first _ []) may
      (t.next, or_left (t.next == t.next) false (eq-eqb t.next t.next refl), refl)
      (falls_set_paid p s n t (blocks.TransferToSubroutine c) row acts (Goes c.target) [] refl c.parameter (pos t.next) refl tt))

  -- its parameter holds a return, and it goes along the edge of that one
  pub safe_come_back : All (ReturnsHold p) p.returns → (q : ℕ) (row : Row) → Acts p s n t (blocks.TransferByParameter q) row
      → Safe (Enters p k s n) (come_back p.blocks n t q s)
  safe_come_back each_return q row acts =
      let block : Block = blocks.TransferByParameter q in
      let kind = return_is p (own_table p) t.next q row acts.flow in
      let held = value_returns kind.0 (parameter_at n q s.transactions) (known_value block row acts q (Ret kind.0) kind.1) in
      let along : Contains (edges p (own_table p) t.next block row) (move (held.0 + 1) row) =
      Contains-append_left (edges_from t.next block row) [] (move (held.0 + 1) row)
      (subst (λ (o : Option ParamKind). Contains (edges_along t.next (map returns_to (return_blocks o)) row) (move (held.0 + 1) row))
      (sym kind.1) (returns_along held.0 t.next row kind.0 held.1)) in
      safe_found (Enters p k s n) (parameter_at n q s.transactions) (pos held.0) _ held.2
      (subst (λ to. Safe (Enters p k s n) (transfer p.blocks n t to s)) (sym (after_it held.0))
      (goes_to block row acts (held.0 + 1) along (may_come_back p each_block each_return t.next q held.0 row kind.0 acts.is.row_is kind.1 held.1)
      (return_paid p t.next block row acts.is.block_is acts.is.row_is held.0
      (subst (λ (o : Option ParamKind). Contains (map returns_to (return_blocks o)) (returns_to held.0)) (sym kind.1)
      (returns_among held.0 kind.0 held.1)) (parameters_of n s) (λ q. refl) 0)))

  -- LOGIC SWITCHES, SAVEVALUES AND TABLES

  pub safe_logic : (l : Logic) (row : Row) → Acts p s n t (blocks.Logic l) row → Safe (Enters p k s n) (logic p.blocks n t l s)
  safe_logic l row acts =
      let may = first_may_be_entered p t.next _ [] acts.kinds.exits in
      let below = named_below p.entities (needs needed.Switch l.switch) [] acts.kinds.entities in
      safe_leads p (Enters p k s n) (t.next + 1) _ may
      (just_goes p s n t (blocks.Logic l) row acts k (t.next + 1) row
      (put_switch l.switch (switch_after l.action (switch l.switch s)) s).entities (λ q. refl) (at_first _ []) may
      (balanced-switch p n l.switch (switch_after l.action (switch l.switch s)) row s.entities below)
      (falls_paid p s n t (blocks.Logic l) row acts Falls [] refl (λ q. refl) 0))

  pub safe_save : (a : Save) (value : ℤ) (row : Row) → Acts p s n t (blocks.Savevalue a) row → Safe (Enters p k s n) (save p.blocks n t a value s)
  safe_save a value row acts =
      let may = first_may_be_entered p t.next _ [] acts.kinds.exits in
      let below = named_below p.entities (needs needed.Savevalue a.savevalue) _ acts.kinds.entities in
      safe_bind Any (Enters p k s n) (evaluation_outcome (evaluation_of (put_by a.mode (savevalue a.savevalue s) value))) _ (safe_answered _)
      (λ new _.
      safe_leads p (Enters p k s n) (t.next + 1) _ may
      (just_goes p s n t (blocks.Savevalue a) row acts k (t.next + 1) row (put_savevalue a.savevalue new s).entities (λ q. refl)
      (at_first _ []) may (balanced-savevalue p n a.savevalue new row s.entities below)
      (falls_paid p s n t (blocks.Savevalue a) row acts Falls [] refl (λ q. refl) 0)))

  pub safe_tabulate : (e : ℕ) (value : ℤ) (row : Row) → Acts p s n t (blocks.Tabulate e) row → Safe (Enters p k s n) (tabulate p.blocks n t e value s)
  safe_tabulate e value row acts =
      let may = first_may_be_entered p t.next _ [] acts.kinds.exits in
      let below = named_below p.entities (needs needed.Table e) [] acts.kinds.entities in
      safe_bind (λ (new : Tabulation). new.count ≤ (table e s).count + 1) (Enters p k s n)
      (evaluation_outcome (evaluation_of (tabulation_of value (table e s)))) _ (counts_once value (table e s))
      (λ new more.
      safe_leads p (Enters p k s n) (t.next + 1) _ may
      (just_goes p s n t (blocks.Tabulate e) row acts k (t.next + 1) row (put_table e new s).entities (λ q. refl) (at_first _ []) may
      (balanced-table p n e new row s.entities below more) (falls_paid p s n t (blocks.Tabulate e) row acts Falls [] refl (λ q. refl) 0)))

  -- TERMINATE

  pub safe_terminate : (by : Operand) (value : ℤ) (row : Row) → Acts p s n t (blocks.Terminate by) row → Safe (Enters p k s n) (terminate n t value s)
  safe_terminate by value row acts =
      let last = has_entered p s n t (blocks.Terminate by) row acts in
      let none = the_rule p t.next codes.owns_at_end (length row.facilities == 0) (blocks.Terminate by) row refl acts.flow in
      safe_if (Enters p k s n) (int_lt value (pos 0)) _ _
      (λ below. tt)
      (λ counts.
      safe_test (Enters p k s n) (not (owns_any n s.entities.facilities)) _
      (ap not (owns_none s.entities.facilities n (λ f. owner_as p s n t (blocks.Terminate by) row acts f ∙ lists-none row.facilities none f)))
      (record {
        entries = suc k;
        arrivals = made_in k;
        borrowed = 1;
        left = 0;
        trace = Then (EntersLast n t (blocks.Terminate by) row acts.is (present s.lists n acts.active)
            (last_borrowed p s n t (blocks.Terminate by) row acts)) (Then (Counts value) Done);
        may = (acts.active, record { t = last.its; row = row; found = last.found; row_is = last.row_is; none = none });
        settles = last_paid p s n t (blocks.Terminate by) row acts refl;
        few_entries = omega arith;
        few_arrivals = omega arith;
        grows = omega (arith, sum-raised t.next s.entries);
      }))
