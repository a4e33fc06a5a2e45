-- Copies, assembly and priority: what SPLIT, ASSEMBLE, PRIORITY and blocks that are only passed do to a well-typed
-- state is a list of elementary changes, and never an error stop.
use Rattle.std.proofs.Common.{◌≡◌, ℕ, zero, suc, ◌+◌, ◌-◌, ◌≤◌, ℤ, List, [], ◌∷◌, ◌++◌, length, Option, Some, None, Bool, true, false, not}
use Rattle.std.proofs.Common.{if◌then◌else◌, ◌==◌, option_map, refl, sym, ap, ◌∙◌, subst, arith, inl, inr, ◌<◌}
use Rattle.std.specs.Prelude.{◌*◌, ◌&&◌, nat_le, Contains}
use Rattle.std.proofs.lemmas.List.Elements.{All-head, All-tail}
use Rattle.std.specs.Option.{option_map_or}
use Rattle.std.specs.List.{find}
use Rattle.std.proofs.lemmas.Bool.{cases_lt, eqb-true, leb-true, le-leb, false≢true, and_parts}
use Rattle.gw_object.specs.declared.blocks.Priority.{Priority}
use Rattle.gw_object.specs.declared.blocks.Split.{Split}
use Rattle.gw_object.specs.declared.blocks.Block.{Block}
use Rattle.gw_object.specs.declared.blocks.Block.TheVariants as blocks
use Rattle.gw_object.specs.declared.parts.Parts.{Parts}
use Rattle.gw_rules.specs.Exits.{leads_to, for_copies, goes_or_falls}
use Rattle.gw_rules.specs.Kinds.{block_at}
use Rattle.gw_rules.specs.KindsLaws.{MayBeEntered}
use Rattle.gw_rules.specs.FlowCodes as codes
use Rattle.gw_rules.specs.Blocks.{FlowEdge, move, edges}
use Rattle.gw_rules.specs.Rows.{Row, parameters_alone}
use Rattle.gw_rules.specs.Flow.{own_table, own_row}
use Rattle.gw_num.proofs.Tables.{at-put_other}
use Rattle.gw_transactions.specs.declared.Transaction.{Transaction}
use Rattle.gw_transactions.specs.Parameters.{no_parameters}
use Rattle.gw_transactions.specs.Transactions.{LiveTransaction, made_with, attributes_at, live_count}
use Rattle.gw_entities.specs.Facility.{owns_any}
use Rattle.gw_step.specs.declared.placement.Placement.{Placement}
use Rattle.gw_step.specs.declared.placement.Placement.TheVariants.{StaysActive, RestsAhead, RestsBehind, AwaitsSet, LeavesModel}
use Rattle.gw_step.specs.Numbers.{made_in}
use Rattle.gw_step.specs.State.{Assembly, State}
use Rattle.gw_step.specs.Times.{parameters_of}
use Rattle.gw_step.specs.Changes.{enter_next, enters_and_falls, copy_to, copies_made, is_of, assemble_all, come_to}
use Rattle.gw_step.specs.Blocks.{split, assembly_at, joined_by_one, assemble_in, assemble, is_priority, set_priority, passes}
use Rattle.gw_step.specs.Typing.{AreAsKnown}
use Rattle.gw_step.proofs.Outcomes.{choose}
use Rattle.gw_step.proofs.Owning.{lists-none}
use Rattle.gw_step.proofs.Attributes.{bearer_at, number_below, attributes-past, written_at}
use Rattle.gw_step.proofs.Balances.{balanced-nothing}
use Rattle.gw_step.proofs.Traces.{Becomes, Rested, Paid, Settles, credited, its_parameters, present, EntersLast, Copied, Assembled, Comes, Trace, Done, Then}
use Rattle.gw_step.proofs.Bounds.{entered-live, written-live}
use Rattle.gw_step.proofs.Paying.{own_parameters, copies_pay, exits_paid}
use Rattle.gw_step.specs.Weight.{weighs_there}
use Rattle.gw_step.proofs.Within.{sum-raised}
use Rattle.gw_step.proofs.Calm.{trace-grows}
use Rattle.gw_rules.specs.WeightsLaws.{PaysExit}
use Rattle.gw_rules.specs.declared.ways.Way.TheVariants.{Falls}
use Rattle.gw_step.proofs.Unstopped.{Safe, safe_test, safe_if}
use Rattle.gw_step.proofs.AtBlock.{first_may_be_entered, second_may_be_entered}
use Rattle.gw_step.proofs.Moving.{Acts, has_entered, unchanged, Enters, safe_leads, at_first, at_second, the_rule, goes, owner_as, falls_paid}
use Rattle.gw_step.proofs.Moving.{last_paid, last_borrowed}
use Rattle.gw_step.proofs.Effects.{owns_none}

-- what isn't at most a number is above it
above : (n most : ℕ) → nat_le n most ≡ false → most < n
above n most h = elim (cases_lt most n) [
  | inl lt ↦ lt
  | inr ge ↦ absurd (false≢true (sym h ∙ le-leb n most ge))
]

-- COPIES

-- the transaction n is there, with this mark time, and its parameters are what a state knows them to be
record IsThere (n : ℕ) (u : Transaction) (state : Row) (parameters : List (Option ℤ)) (s : State) : Type 0 where
  found : attributes_at n s.transactions ≡ Some u
  known : AreAsKnown (Some state) (parameters_of n s)
  same : parameters_of n s ≡ parameters

-- it is there still, once a copy of it was made
there-still : (n : ℕ) (u t : Transaction) (target : ℕ) (state : Row) (parameters : List (Option ℤ)) (s : State)
    → IsThere n u state parameters s → IsThere n u state parameters (copy_to n t target s)
there-still n u t target state parameters s is =
    let v : Option LiveTransaction = Some (made_with (parameters_of n s) (record t { next = target })) in
    let below = number_below s.transactions n u is.found in
    let other = at-put_other None s.transactions (length s.transactions) n v (λ e. omega (arith, below, e)) in
    record {
      found = attributes-past s.transactions n u v is.found;
      known = subst (λ o. AreAsKnown (Some state) (option_map_or (λ (x : LiveTransaction). x.parameters) o no_parameters)) (sym other) is.known;
      same = ap (λ o. option_map_or (λ (x : LiveTransaction). x.parameters) o no_parameters) other ∙ is.same;
    }

-- one more lives then
copied-live : (n : ℕ) (t : Transaction) (target : ℕ) (s : State) → live_count (copy_to n t target s).transactions ≤ live_count s.transactions + 1
copied-live n t target s =
    omega (arith, written-live s.transactions (length s.transactions) (Some (made_with (parameters_of n s) (record t { next = target }))))

module _ (p : Parts) (n target b : ℕ) (t u : Transaction) (block : Block) (row state : Row) (mark : t.mark ≡ u.mark)
    (block_is : block_at p.blocks b ≡ Some block) (row_is : own_row p b ≡ Some row)
    (along : Contains (edges p (own_table p) b block row) (move target state)) (may : MayBeEntered p target)
    (facilities : state.facilities ≡ []) (units : state.units ≡ []) (parameters : List (Option ℤ)) where
  -- copies are made one after the other
  copies_traced : (k en ar : ℕ) (s : State) → IsThere n u state parameters s → live_count s.transactions + k ≤ 65536
      → Trace p en ar (k * weighs_there p target parameters) s en (ar + k) 0 (copies_made k n t target s)
  unfolding copies_made
  copies_traced zero en ar s is few =
      let none : ar ≡ ar + 0 = omega arith in
      let free : 0 ≡ 0 * weighs_there p target parameters = omega arith in
      subst (λ m. Trace p en ar (0 * weighs_there p target parameters) s en m 0 s) none (subst (λ c. Trace p en ar c s en ar 0 s) free Done)
  copies_traced (suc k) en ar s is few =
      let one : suc ar + k ≡ ar + suc k = omega arith in
      subst (λ m. Trace p en ar (suc k * weighs_there p target parameters) s en m 0 (copies_made k n t target (copy_to n t target s))) one
      (Then (Copied n target b t u block row state is.found mark is.known block_is row_is along may facilities units (omega (arith, few))
      (λ weighted. omega (arith, ap (weighs_there p target) is.same)))
      (copies_traced k en (suc ar) (copy_to n t target s) (there-still n u t target state parameters s is) (omega (arith, few, copied-live n t target s))))

-- no copies are none
none_made : (n : ℕ) (t : Transaction) (target : ℕ) (s : State) → copies_made 0 n t target s ≡ s
unfolding copies_made
none_made n t target s = refl

-- where there are copies, there is an edge for them
for_them : (copies : ℕ) (x m : FlowEdge) → (copies == 0) ≡ false → Contains (x ∷ (((if not (copies == 0) then m ∷ [] else []) ++ []) ++ [])) m
for_them copies x m some = subst (λ b. Contains (x ∷ (((if not b then m ∷ [] else []) ++ []) ++ [])) m) (sym some) (at_second x m [])

-- what is found passes
found-passes : (passes : Assembly → Bool) (xs : List Assembly) (a : Assembly) → find passes xs ≡ Some a → passes a ≡ true
found-passes passes [] a h = absurd cc
found-passes passes (x ∷ xs) a h = by_test (passes x) refl h (found-passes passes xs a)
  where
    by_test : (b : Bool) → passes x ≡ b → (if b then Some x else find passes xs) ≡ Some a → (find passes xs ≡ Some a → passes a ≡ true) → passes a ≡ true
    by_test true is h rest = let same : x ≡ a = cc in subst (λ y. passes y ≡ true) same is
    by_test false is h rest = rest h

-- an assembly that is found at a block is the one of its own block and set
pub found-own : (block set : ℕ) (xs : List Assembly) (a : Assembly) → find (is_of block set) xs ≡ Some a → find (is_of a.block a.set) xs ≡ Some a
found-own block set xs a h =
    let both = and_parts (a.block == block) (a.set == set) (found-passes (is_of block set) xs a h) in
    let one : a.block ≡ block = eqb-true a.block block both.0 in
    let other : a.set ≡ set = eqb-true a.set set both.1 in
    subst (λ b. find (is_of b a.set) xs ≡ Some a) (sym one) (subst (λ z. find (is_of block z) xs ≡ Some a) (sym other) h)

module _ (p : Parts) (s : State) (n : ℕ) (t : Transaction) (k : ℕ) where
  -- it falls to the next block as u, and is then placed so
  falls_and_rests : (block : Block) (row : Row) → Acts p s n t block row → (u : Transaction) (placement : Placement) → Becomes s t u
      → Contains (edges p (own_table p) t.next block row) (move (t.next + 1) row) → MayBeEntered p (t.next + 1)
      → Rested p n placement (enter_next n u (t.next + 1) s) → credited placement (suc k) ≡ suc k
      → Settles p n placement (enter_next n u (t.next + 1) s) 0 0
      → Paid p (1 + weighs_there p (t.next + 1) (parameters_of n s) + 0) (weighs_there p t.next (parameters_of n s) + 0)
      → Enters p k s n (enter_next n u (t.next + 1) s, placement)
  falls_and_rests block row acts u placement same along may rested none settles pays = record {
    entries = suc k;
    arrivals = made_in k;
    borrowed = 0;
    left = 0;
    trace = Then (goes p s n t block row acts k (made_in k) 0 0 u (t.next + 1) row s.entities same (λ q. refl) along may
        (balanced-nothing p n row s.entities) pays) Done;
    may = rested;
    settles = settles;
    few_entries = omega (arith, none);
    few_arrivals = omega arith;
    grows = omega (arith, sum-raised u.next s.entries);
  }

  -- SPLIT

  -- it entered, and its parameters are what they were
  there-entered : (block : Block) (row : Row) → Acts p s n t block row
      → IsThere n (record t { current = t.next; next = t.next + 1 }) (parameters_alone row) (parameters_of n s) (enters_and_falls n t s)
  there-entered block row acts =
      let bears = bearer_at s.transactions n t acts.is.found in
      let a : Transaction = record t { current = t.next; next = t.next + 1 } in
      let now = written_at s.transactions n a bears.0 bears.1 in
      let before : AreAsKnown (Some row) bears.0.parameters =
      subst (λ o. AreAsKnown (Some row) (option_map_or (λ (x : LiveTransaction). x.parameters) o no_parameters)) bears.1
      (its_parameters p s acts.typed n t block row acts.is) in
      record {
        found = ap (option_map (λ (x : LiveTransaction). x.attributes)) now;
        known = subst (λ o. AreAsKnown (Some (parameters_alone row)) (option_map_or (λ (x : LiveTransaction). x.parameters) o no_parameters)) (sym now) before;
        same = ap (λ o. option_map_or (λ (x : LiveTransaction). x.parameters) o no_parameters) now ∙ own_parameters s.transactions n bears.0 bears.1;
      }

  -- where there are copies, a SPLIT pays for each of them besides
  copies_paid : (c : Split) (row : Row) → Acts p s n t (blocks.Split c) row → (c.copies == 0) ≡ false
      → Paid p (1 + weighs_there p (t.next + 1) (parameters_of n s) + c.copies
      * weighs_there p (leads_to t.next (goes_or_falls c.target)) (parameters_of n s)) (weighs_there p t.next (parameters_of n s) + 0)
  copies_paid c row acts some weighted =
      let exits = exits_paid p t.next (blocks.Split c) row acts.is.block_is acts.is.row_is weighted in
      let copies = All-head (PaysExit p t.next (blocks.Split c)) (for_copies c.copies (goes_or_falls c.target)) []
      (All-tail (PaysExit p t.next (blocks.Split c)) _ (for_copies c.copies (goes_or_falls c.target) ∷ []) exits) (ap (λ none. not none && true) some) in
      omega (
        arith,
        copies_pay p t.next (blocks.Split c) row acts.is.block_is acts.is.row_is c.copies
            (leads_to t.next (goes_or_falls c.target)) (parameters_of n s) copies,
      )

  splits : (c : Split) (row : Row) (acts : Acts p s n t (blocks.Split c) row) → live_count s.transactions + c.copies ≤ 65536
      → MayBeEntered p (t.next + 1) → MayBeEntered p (leads_to t.next (goes_or_falls c.target))
      → Enters p k s n (copies_made c.copies n (record t { current = t.next }) (leads_to t.next (goes_or_falls c.target)) (enters_and_falls n t s), StaysActive)
  splits c row acts few may others =
      let target = leads_to t.next (goes_or_falls c.target) in
      let copy : Transaction = record t { current = t.next } in
      let u = enters_and_falls n t s in
      let here = falls_and_rests (blocks.Split c) row acts t StaysActive (unchanged s t) (at_first _ _) may tt refl refl
      (falls_paid p s n t (blocks.Split c) row acts Falls _ refl (λ q. refl) 0) in
      by_number (c.copies == 0) refl here
    where
      by_number : (b : Bool) → (c.copies == 0) ≡ b → Enters p k s n (enters_and_falls n t s, StaysActive)
          → Enters p k s n (
            copies_made c.copies n (record t { current = t.next }) (leads_to t.next (goes_or_falls c.target))
                (enters_and_falls n t s),
            StaysActive,
          )
      by_number true is here =
          let copy : Transaction = record t { current = t.next } in
          let target = leads_to t.next (goes_or_falls c.target) in
          let same : enters_and_falls n t s ≡ copies_made c.copies n copy target (enters_and_falls n t s) =
          sym (ap (λ j. copies_made j n copy target (enters_and_falls n t s)) (eqb-true c.copies 0 is)
          ∙ none_made n copy target (enters_and_falls n t s)) in
          subst (λ v. Enters p k s n (v, StaysActive)) same here
      by_number false is here =
          let target = leads_to t.next (goes_or_falls c.target) in
          let copy : Transaction = record t { current = t.next } in
          let live = entered-live s.transactions n (record t { current = t.next; next = t.next + 1 }) in
          let gone = goes p s n t (blocks.Split c) row acts k (made_in k) 0 (c.copies * weighs_there p target (parameters_of n s)) t
          (t.next + 1) row s.entities (unchanged s t) (λ q. refl) (at_first _ _) may (balanced-nothing p n row s.entities) (copies_paid c row acts is) in
          let made = copies_traced p n target t.next copy (record t { current = t.next; next = t.next + 1 }) (blocks.Split c) row
          (parameters_alone row) refl acts.is.block_is acts.is.row_is
          (for_them c.copies (move (t.next + 1) row) (move target (parameters_alone row)) is) others refl refl (parameters_of n s) c.copies
          (suc k) (made_in k) (enters_and_falls n t s) (there-entered (blocks.Split c) row acts) (omega (arith, few, live)) in
          record {
            entries = suc k;
            arrivals = made_in k + c.copies;
            borrowed = 0;
            left = 0;
            trace = Then gone made;
            may = tt;
            settles = refl;
            few_entries = omega arith;
            few_arrivals = omega (arith, few);
            grows = omega (arith, sum-raised t.next s.entries, trace-grows p made);
          }

  pub safe_split : (c : Split) (row : Row) → Acts p s n t (blocks.Split c) row → Safe (Enters p k s n) (split p.blocks n t c s)
  safe_split c row acts =
      let target = leads_to t.next (goes_or_falls c.target) in
      let may = first_may_be_entered p t.next _ (for_copies c.copies (goes_or_falls c.target) ∷ []) acts.kinds.exits in
      let others = second_may_be_entered p t.next _ _ [] acts.kinds.exits in
      safe_if (Enters p k s n) (nat_le (live_count s.transactions + c.copies) 65536) _ _
      (λ few.
      let made = splits c row acts (leb-true (live_count s.transactions + c.copies) 65536 few) may others in
      safe_leads p (Enters p k s n) (t.next + 1) _ may
      (choose (Safe (Enters p k s n)) (c.copies == 0) _ _ (λ none. made) (λ some. safe_leads p (Enters p k s n) target _ others made)))
      (λ many. tt)

  -- ASSEMBLE

  -- another has come to an assembly, and leaves
  joins : (size : ℕ) (row : Row) → Acts p s n t (blocks.Assemble size) row → (length row.facilities == 0) ≡ true → (a : Assembly)
      → assembly_at t.next t.set s ≡ Some a → Enters p k s n (joined_by_one a (enter_next n t t.next s), LeavesModel)
  joins size row acts none a is =
      let last = has_entered p s n t (blocks.Assemble size) row acts in
      let found = found-own t.next t.set s.lists.assemblies a is in
      let v = enter_next n t t.next s in
      let may : Rested p n LeavesModel v = (acts.active, record { t = last.its; row = row; found = last.found; row_is = last.row_is; none = none }) in
      choose (λ w. Enters p k s n (w, LeavesModel)) (nat_le a.missing 1) (assemble_all a v) (come_to a v)
      (λ last. record {
        entries = suc k;
        arrivals = made_in k;
        borrowed = 1;
        left = 0;
        settles =
            last_paid p s n t (blocks.Assemble size) row acts refl;
        trace =
            Then (EntersLast n t (blocks.Assemble size) row acts.is (present s.lists n acts.active)
            (last_borrowed p s n t (blocks.Assemble size) row acts)) (Then (Assembled a found) Done);
        may = may;
        few_entries = omega arith;
        few_arrivals = omega arith;
        grows = omega (arith, sum-raised t.next s.entries);
      })
      (λ more. record {
        entries = suc k;
        arrivals = made_in k;
        borrowed = 1;
        left = 0;
        settles =
            last_paid p s n t (blocks.Assemble size) row acts refl;
        trace =
            Then (EntersLast n t (blocks.Assemble size) row acts.is (present s.lists n acts.active)
            (last_borrowed p s n t (blocks.Assemble size) row acts)) (Then (Comes a found (above a.missing 1 more)) Done);
        may = may;
        few_entries = omega arith;
        few_arrivals = omega arith;
        grows = omega (arith, sum-raised t.next s.entries);
      })

  assembles : (size : ℕ) (row : Row) → Acts p s n t (blocks.Assemble size) row → nat_le size 1 ≡ false → (o : Option Assembly)
      → assembly_at t.next t.set s ≡ o → Safe (Enters p k s n) (assemble_in p.blocks n t size o s)
  assembles size row acts more None is =
      let may = first_may_be_entered p t.next _ [] acts.kinds.exits in
      let some : 1 ≤ size - 1 = omega (arith, above size 1 more) in
      safe_leads p (Enters p k s n) (t.next + 1) _ may
      (falls_and_rests (blocks.Assemble size) row acts t (AwaitsSet (record { block = t.next; set = t.set; missing = size - 1 }))
      (unchanged s t) (at_first _ []) may (acts.active, some) refl refl (falls_paid p s n t (blocks.Assemble size) row acts Falls [] refl (λ q. refl) 0))
  assembles size row acts more (Some a) is =
      let none = the_rule p t.next codes.owns_at_end (length row.facilities == 0) (blocks.Assemble size) row refl acts.flow in
      safe_test (Enters p k s n) (not (owns_any n s.entities.facilities)) _
      (ap not (owns_none s.entities.facilities n (λ f. owner_as p s n t (blocks.Assemble size) row acts f ∙ lists-none row.facilities none f)))
      (joins size row acts none a is)

  pub safe_assemble : (size : ℕ) (row : Row) → Acts p s n t (blocks.Assemble size) row → Safe (Enters p k s n) (assemble p.blocks n t size s)
  safe_assemble size row acts =
      let may = first_may_be_entered p t.next _ [] acts.kinds.exits in
      safe_if (Enters p k s n) (nat_le size 1) _ _
      (λ alone. safe_leads p (Enters p k s n) (t.next + 1) _ may
      (falls_and_rests (blocks.Assemble size) row acts t StaysActive (unchanged s t) (at_first _ []) may tt refl refl
      (falls_paid p s n t (blocks.Assemble size) row acts Falls [] refl (λ q. refl) 0)))
      (λ more. assembles size row acts more (assembly_at t.next t.set s) refl)

  -- PRIORITY, AND BLOCKS THAT ARE ONLY PASSED

  pub safe_priority : (a : Priority) (value : ℤ) (row : Row) → Acts p s n t (blocks.Priority a) row
      → Safe (Enters p k s n) (set_priority p.blocks n t a.behind value s)
  safe_priority a value row acts =
      let may = first_may_be_entered p t.next _ [] acts.kinds.exits in
      let u : Transaction = record t { priority = value } in
      let same : Becomes s t u = record { next = refl; mark = λ clock mark. mark } in
      safe_if (Enters p k s n) (is_priority value) _ _
      (λ fits. safe_leads p (Enters p k s n) (t.next + 1) _ may
      (choose (λ placement. Enters p k s n (enter_next n u (t.next + 1) s, placement)) a.behind RestsBehind RestsAhead
      (λ behind. falls_and_rests (blocks.Priority a) row acts u RestsBehind same (at_first _ []) may acts.active refl refl
      (falls_paid p s n t (blocks.Priority a) row acts Falls [] refl (λ q. refl) 0))
      (λ ahead. falls_and_rests (blocks.Priority a) row acts u RestsAhead same (at_first _ []) may acts.active refl refl
      (falls_paid p s n t (blocks.Priority a) row acts Falls [] refl (λ q. refl) 0))))
      (λ unfit. tt)

  -- who passes stays active, or goes ahead of its peers on the current events chain or behind them
  abbrev StaysOrYields : Placement → Type 0
  StaysOrYields StaysActive = Unit {0}
  StaysOrYields RestsAhead = Unit {0}
  StaysOrYields RestsBehind = Unit {0}
  StaysOrYields placement = ⊥

  pub safe_passes : (block : Block) (placement : Placement) (row : Row) → Acts p s n t block row → StaysOrYields placement
      → Contains (edges p (own_table p) t.next block row) (move (t.next + 1) row) → MayBeEntered p (t.next + 1)
      → Paid p (1 + weighs_there p (t.next + 1) (parameters_of n s) + 0) (weighs_there p t.next (parameters_of n s) + 0)
      → Safe (Enters p k s n) (passes p.blocks n t placement s)
  safe_passes block StaysActive row acts yields along may pays =
      safe_leads p (Enters p k s n) (t.next + 1) _ may (falls_and_rests block row acts t StaysActive (unchanged s t) along may tt refl refl pays)
  safe_passes block RestsAhead row acts yields along may pays =
      safe_leads p (Enters p k s n) (t.next + 1) _ may (falls_and_rests block row acts t RestsAhead (unchanged s t) along may acts.active refl refl pays)
  safe_passes block RestsBehind row acts yields along may pays =
      safe_leads p (Enters p k s n) (t.next + 1) _ may (falls_and_rests block row acts t RestsBehind (unchanged s t) along may acts.active refl refl pays)
  safe_passes block placement row acts yields along may pays = absurd yields
