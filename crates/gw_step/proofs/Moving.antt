-- The active transaction at its block, and where it goes.
use Rattle.std.proofs.Common.{◌≡◌, ◌≢◌, ℕ, suc, ◌+◌, ◌≤◌, ℤ, List, [], ◌∷◌, Option, Some, None, Bool, true, false, not, refl, sym, ap, ◌∙◌, subst, arith}
use Rattle.std.specs.Prelude.{sum, IsSomeAnd, Contains, All}
use Rattle.std.proofs.lemmas.List.Elements.{All-head}
use Rattle.gw_object.specs.declared.blocks.Block.{Block}
use Rattle.gw_object.specs.declared.parts.Parts.{Parts}
use Rattle.gw_rules.specs.Kinds.{block_at, is_generate}
use Rattle.gw_rules.specs.KindsLaws.{MayBeEntered, BlockHolds}
use Rattle.gw_rules.specs.Rows.{Row, kind_of, owns}
use Rattle.gw_rules.specs.Blocks.{Rule, own_rules, move, edges, returns_read}
use Rattle.gw_rules.proofs.Parameters.{own_rules_hold}
use Rattle.gw_rules.specs.Flow.{own_table}
use Rattle.gw_rules.specs.FlowLaws.{MayPass}
use Rattle.gw_num.specs.Table.{at}
use Rattle.gw_num.proofs.Tables.{by_entry}
use Rattle.gw_transactions.specs.declared.Transaction.{Transaction}
use Rattle.gw_entities.specs.Facility.{idle, is_owned_by}
use Rattle.gw_step.specs.declared.placement.Placement.{Placement}
use Rattle.gw_step.specs.declared.placement.Placement.TheVariants.{StaysActive}
use Rattle.gw_step.specs.Placing.{place_by}
use Rattle.gw_step.specs.Numbers.{made_in}
use Rattle.gw_step.specs.Outcome.{Outcome, Gives}
use Rattle.gw_step.specs.State.{EntityStates, State, may_enter}
use Rattle.gw_step.specs.Changes.{enter_next, assign_to}
use Rattle.gw_step.specs.Times.{parameters_of}
use Rattle.gw_step.specs.Blocks.{leads, then_placed}
use Rattle.gw_step.specs.Typing.{IsAsKnown, lists_facility, WellTyped}
use Rattle.gw_transactions.specs.Transactions.{LiveTransaction, with_attributes}
use Rattle.gw_step.specs.Places.{place}
use Rattle.gw_step.proofs.Attributes.{bearer_at, written_at}
use Rattle.gw_step.proofs.Agreeing.{Balanced}
use Rattle.gw_step.proofs.Traces.{IsAt, place-free, its_chain, Becomes, its_parameters, present, Rested, Paid, Settles, credited, Change, Goes}
use Rattle.gw_step.proofs.Traces.{GoesWith, Trace, Done, Then, trace_on, placed_traced, its_row}
use Rattle.gw_step.proofs.Within.{sum-raised}
use Rattle.gw_step.proofs.Calm.{Moves, MakesEntry, Calms, Refuses, refused_calms, placed_grows}
use Rattle.gw_step.proofs.Unstopped.{Safe, safe_bind, safe_test}
use Rattle.gw_step.specs.Turning.{choice_at, two_next}
use Rattle.gw_step.proofs.Paying.{one_plain, two_here, weighs_one, weighs_two, weighs_within, own_parameters, Does, Makes, set_makes, first_paid, second_paid}
use Rattle.gw_num.specs.Table.{put}
use Rattle.gw_rules.specs.WeightsLaws.{Weighted}
use Rattle.gw_step.specs.Weight.{height, weighs_there, heavier, weight_in}
use Rattle.gw_rules.specs.Weights.{above, changed_parameter, treatment}
use Rattle.gw_rules.specs.declared.ways.Way.{Way}
use Rattle.gw_rules.specs.declared.ways.Exit.{Exit}
use Rattle.gw_rules.specs.Exits.{leads_to, at_once, exits_with}
use Rattle.gw_rules.specs.declared.edges.Target.TheVariants as targets

-- the active transaction of a well-typed state is at a block, in a row, and what kinds and flow say of the two
pub record Acts (p : Parts) (s : State) (n : ℕ) (t : Transaction) (block : Block) (row : Row) : Type 0 where
  pub typed : WellTyped p s
  pub active : s.lists.active ≡ Some n
  pub is : IsAt p s.transactions n t block row
  pub kinds : BlockHolds p t.next block
  pub flow : MayPass p (own_table p) t.next block row
  -- it weighs what its next block weighs: it has no other
  pub weighs : Weighted p → weighs_there p t.next (parameters_of n s) ≤ weight_in p (at None s.transactions n)

-- a block to which a transaction may go on may be entered
pub enterable : (o : Option Block) → IsSomeAnd o (λ block. is_generate (Some block) ≡ false) → may_enter o ≡ true
enterable None h = absurd h
enterable (Some block) h = ap not h

pub safe_leads : {A : Type 0} (p : Parts) (P : A → Type 0) (b : ℕ) (o : Outcome A) → MayBeEntered p b → Safe P o → Safe P (leads p.blocks b o)
safe_leads p P b o may h = safe_test P (may_enter (block_at p.blocks b)) o (enterable (block_at p.blocks b) may) h

-- the first and the second edge of a block
pub at_first : {A : Type 0} (x : A) (xs : List A) → Contains (x ∷ xs) x
at_first x xs = (0, omega arith, refl)

pub at_second : {A : Type 0} (x y : A) (xs : List A) → Contains (x ∷ y ∷ xs) y
at_second x y xs = (1, omega arith, refl)

-- the rule of its own that a block has
pub the_rule : (p : Parts) (b code : ℕ) (holds : Bool) (block : Block) (row : Row) → own_rules p block row
    ≡ (record { code = code; holds = holds }) ∷ [] → MayPass p (own_table p) b block row → holds ≡ true
the_rule p b code holds block row is pass =
    let one : Rule = record { code = code; holds = holds } in
    All-head (λ (rule : Rule). rule.holds ≡ true) one [] (subst (All (λ (rule : Rule). rule.holds ≡ true)) is (own_rules_hold p (own_table p) b block row pass))

-- what a state comes to in a step, from as many entries as steps and what they may have made: one entry more at most, and what one step may make
pub record Reaches (p : Parts) (k : ℕ) (s t : State) : Type 0 where
  pub entries : ℕ
  pub arrivals : ℕ
  -- a credit that is given back
  pub borrowed : ℕ
  pub trace : Trace p k (made_in k) borrowed s entries arrivals borrowed t
  pub few_entries : entries ≤ suc k
  pub few_arrivals : arrivals ≤ made_in (suc k)
  pub moves : Moves s t

-- what entering comes to, and that the active transaction n may then be placed so
pub record Enters (p : Parts) (k : ℕ) (s : State) (n : ℕ) (e : State × Placement) : Type 0 where
  pub entries : ℕ
  pub arrivals : ℕ
  -- a credit, and what is left of it; with the placement it is given back
  pub borrowed : ℕ
  pub left : ℕ
  pub trace : Trace p k (made_in k) borrowed s entries arrivals left e.0
  pub may : Rested p n e.1 e.0
  pub settles : Settles p n e.1 e.0 left borrowed
  pub few_entries : credited e.1 entries ≤ suc k
  pub few_arrivals : arrivals ≤ made_in (suc k)
  pub grows : sum s.entries + 1 ≤ sum e.0.entries

-- it entered, and stays active
pub entered_once : (p : Parts) (k : ℕ) (s : State) (n : ℕ) (t : State) → Trace p k (made_in k) 0 s (suc k) (made_in k) 0 t → sum s.entries
    + 1 ≤ sum t.entries → Enters p k s n (t, StaysActive)
entered_once p k s n t xs grows =
    record {
      entries = suc k;
      arrivals = made_in k;
      borrowed = 0;
      left = 0;
      trace = xs;
      may = tt;
      settles = refl;
      few_entries =
          omega arith;
      few_arrivals = omega arith;
      grows = grows;
    }

-- then it is placed
pub safe_placed : (p : Parts) (k : ℕ) (s : State) (n : ℕ) (o : Outcome (State × Placement)) → Safe (Enters p k s n) o → Safe (Reaches p k s) (then_placed n o)
safe_placed p k s n o h =
    safe_bind (Enters p k s n) (Reaches p k s) o (λ e. Gives (place_by n e.1 e.0)) h
    (λ e x. record {
      entries = credited e.1 x.entries;
      arrivals = x.arrivals;
      borrowed = x.borrowed;
      trace = trace_on p x.trace (placed_traced p x.entries x.arrivals x.left x.borrowed n e.1 e.0 x.may x.settles);
      few_entries = x.few_entries;
      few_arrivals = x.few_arrivals;
      moves = MakesEntry (placed_grows n e.1 s e.0 x.grows);
    })

-- it was refused
pub refused : (p : Parts) (k : ℕ) (s : State) (n : ℕ) (placement : Placement) → s.lists.active ≡ Some n → Refuses placement
    → Rested p n placement s → Settles p n placement s 0 0 → credited placement k ≤ suc k → Reaches p k s (place_by n placement s)
refused p k s n placement active refuses may settles few =
    record {
      entries = credited placement k;
      arrivals = made_in k;
      borrowed = 0;
      trace =
          placed_traced p k (made_in k) 0 0 n placement s may settles;
      few_entries = few;
      few_arrivals = omega arith;
      moves =
          Calms (λ same few. refused_calms n s active placement refuses);
    }

-- it enters its block as it is
pub unchanged : (s : State) (t : Transaction) → Becomes s t t
unchanged s t = record { next = refl; mark = λ clock mark. mark }

-- the transaction n, which was t, entered its block for the last time, and is at a row
pub record HasEntered (p : Parts) (s : State) (n : ℕ) (t : Transaction) (row : Row) : Type 0 where
  pub its : LiveTransaction
  pub found : at None (enter_next n t t.next s).transactions n ≡ Some its
  pub place_is : place its ≡ targets.Block t.next
  pub row_is : own_table p (place its) ≡ Some row

-- a state knows of each parameter what a row knows of it
abbrev pub Knows : Row → Row → Type 0
Knows row state = (q : ℕ) → kind_of state q ≡ kind_of row q

module _ (p : Parts) (s : State) (n : ℕ) (t : Transaction) (block : Block) (row : Row) (acts : Acts p s n t block row) where
  -- a parameter is what a state knows it to be, where its row knows the same
  as_before : (state : Row) (q : ℕ) → kind_of state q ≡ kind_of row q → IsAsKnown (kind_of state q) (at None (parameters_of n s) q)
  as_before state q same = subst (λ kind. IsAsKnown kind (at None (parameters_of n s) q)) (sym same) (its_parameters p s acts.typed n t block row acts.is q)

  -- it goes along an edge
  pub goes : (en ar c d : ℕ) (u : Transaction) (to : ℕ) (state : Row) (h : EntityStates) → Becomes s t u → Knows row state
      → Contains (edges p (own_table p) t.next block row) (move to state) → MayBeEntered p to → Balanced p n (Some row) (Some state) s.entities h
      → Paid p (1 + weighs_there p to (parameters_of n s) + d) (weighs_there p t.next (parameters_of n s) + c)
      → Change p en ar c s (suc en) ar d (record (enter_next n u to s) { entities = h })
  goes en ar c d u to state h same known along may balance pays =
      Goes n to t u block row state h acts.is same (present s.lists n acts.active) (λ q. as_before state q (known q)) along may balance
      (λ weighted. omega (arith, pays weighted, acts.weighs weighted))

  -- it goes along an edge with a parameter that is set: of this one the edge's state knows what it is set to, and of each other one what the row knows of it
  pub goes_with : (en ar : ℕ) (to : ℕ) (state : Row) (q : ℕ) (value : ℤ) → IsAsKnown (kind_of state q) (Some value)
      → ((r : ℕ) → r ≢ q → kind_of state r ≡ kind_of row r) → Contains (edges p (own_table p) t.next block row) (move to state) → MayBeEntered p to
      → Balanced p n (Some row) (Some state) s.entities s.entities
      → Paid p (1 + weighs_there p to (put None (parameters_of n s) q (Some value)) + 0)
      (weighs_there p t.next (parameters_of n s) + 0) → Change p en ar 0 s (suc en) ar 0 (enter_next n t to (assign_to n q value s))
  goes_with en ar to state q value here others along may balance pays =
      GoesWith n to q value t block row state acts.is (present s.lists n acts.active)
      (by_entry None (parameters_of n s) q (Some value) (λ r v. IsAsKnown (kind_of state r) v) here
      (λ r other. as_before state r (others r other))) along may balance (λ weighted. omega (arith, pays weighted, acts.weighs weighted))

  -- and stays active, and nothing else happens
  pub just_goes : (k : ℕ) (to : ℕ) (state : Row) (h : EntityStates) → Knows row state
      → Contains (edges p (own_table p) t.next block row) (move to state) → MayBeEntered p to → Balanced p n (Some row) (Some state) s.entities h
      → Paid p (1 + weighs_there p to (parameters_of n s) + 0) (weighs_there p t.next (parameters_of n s) + 0)
      → Enters p k s n (record (enter_next n t to s) { entities = h }, StaysActive)
  just_goes k to state h known along may balance pays =
      entered_once p k s n _ (Then (goes k (made_in k) 0 0 t to state h (unchanged s t) known along may balance pays) Done)
      (omega (arith, sum-raised t.next s.entries))

  -- what its row says of an owner, and what is inside at least
  pub owner_as : (f : ℕ) → is_owned_by n (at idle s.entities.facilities f) ≡ owns row f
  owner_as f = acts.typed.owned f n ∙ ap (lists_facility f) (its_row p s.transactions n t block row acts.is)

  -- it enters its block to go nowhere from there: it is there, and at its row still
  pub has_entered : HasEntered p s n t row
  has_entered =
      let bears = bearer_at s.transactions n t acts.is.found in
      let last : Transaction = record t { current = t.next } in
      record {
        its = with_attributes last bears.0;
        found = written_at s.transactions n last bears.0 bears.1;
        place_is = place-free (with_attributes last bears.0) last (its_chain (at None s.transactions n) bears.0 None bears.1 acts.is.free) refl;
        row_is = ap (own_table p)
            (place-free (with_attributes last bears.0) last (its_chain (at None s.transactions n) bears.0 None bears.1 acts.is.free) refl) ∙ acts.is.row_is;
      }

  -- it enters its block and goes on as u to a block, and has one next block: it weighs what that weighs
  pub weighs_next : (u : Transaction) (to : ℕ) → two_next p (record u { current = u.next; next = to }) ≡ None
      → weight_in p (at None (enter_next n u to s).transactions n) ≡ weighs_there p to (parameters_of n s)
  weighs_next u to one =
      let bears = bearer_at s.transactions n t acts.is.found in
      let next : Transaction = record u { current = u.next; next = to } in
      ap (weight_in p) (written_at s.transactions n next bears.0 bears.1)
      ∙ weighs_one p (with_attributes next bears.0) (its_chain (at None s.transactions n) bears.0 None bears.1 acts.is.free) one
      ∙ ap (weighs_there p to) (own_parameters s.transactions n bears.0 bears.1)

  -- it enters a block that gives a choice, and stays at it: it weighs what the heavier of the two weighs
  pub weighs_choice : (pair : ℕ × ℕ) → choice_at t.next block ≡ Some pair → weight_in p (at None (enter_next n t t.next s).transactions n)
      ≡ heavier p pair (parameters_of n s)
  weighs_choice pair is =
      let bears = bearer_at s.transactions n t acts.is.found in
      let last : Transaction = record t { current = t.next } in
      ap (weight_in p) (written_at s.transactions n last bears.0 bears.1)
      ∙ weighs_two p (with_attributes last bears.0) pair (its_chain (at None s.transactions n) bears.0 None bears.1 acts.is.free)
      (two_here p last block pair refl acts.is.block_is is) ∙ ap (heavier p pair) (own_parameters s.transactions n bears.0 bears.1)

  -- it enters its block and stays at it: it weighs no more than that
  weighs_still : Weighted p → weight_in p (at None (enter_next n t t.next s).transactions n) ≤ weighs_there p t.next (parameters_of n s)
  weighs_still weighted =
      let bears = bearer_at s.transactions n t acts.is.found in
      let last : Transaction = record t { current = t.next } in
      let most = weighs_within p weighted (with_attributes last bears.0) block row
      (its_chain (at None s.transactions n) bears.0 None bears.1 acts.is.free) acts.is.block_is acts.is.row_is in
      omega (
        arith,
        most,
        ap (weight_in p) (written_at s.transactions n last bears.0 bears.1),
        ap (weighs_there p t.next) (own_parameters s.transactions n bears.0 bears.1),
      )

  -- the first of its ways is paid for
  pub falls_paid : (way : Way) (es : List Exit) → exits_with (returns_read block row) block ≡ at_once way ∷ es
      → Makes block way (parameters_of n s) (parameters_of n s) → (c : ℕ)
      → Paid p (1 + weighs_there p (leads_to t.next way) (parameters_of n s) + c) (weighs_there p t.next (parameters_of n s) + c)
  falls_paid way es is = first_paid p t.next block row acts.is.block_is acts.is.row_is way es is (parameters_of n s) (parameters_of n s)

  -- and the second
  pub other_paid : (e : Exit) (way : Way) (es : List Exit) → exits_with (returns_read block row) block ≡ e ∷ at_once way ∷ es
      → Makes block way (parameters_of n s) (parameters_of n s) → (c : ℕ)
      → Paid p (1 + weighs_there p (leads_to t.next way) (parameters_of n s) + c) (weighs_there p t.next (parameters_of n s) + c)
  other_paid e way es is = second_paid p t.next block row acts.is.block_is acts.is.row_is e way es is (parameters_of n s) (parameters_of n s)

  -- and each of the two with a parameter that is set
  pub falls_set_paid : (way : Way) (es : List Exit) → exits_with (returns_read block row) block ≡ at_once way ∷ es → (q : ℕ) (value : ℤ)
      → changed_parameter block ≡ Some q → Does (treatment block way) (height q (parameters_of n s)) (above value)
      → Paid p (1 + weighs_there p (leads_to t.next way) (put None (parameters_of n s) q (Some value)) + 0) (weighs_there p t.next (parameters_of n s) + 0)
  falls_set_paid way es is q value sets does =
      first_paid p t.next block row acts.is.block_is acts.is.row_is way es is (parameters_of n s)
      (put None (parameters_of n s) q (Some value)) (set_makes block way q value (parameters_of n s) sets does) 0

  pub other_set_paid : (e : Exit) (way : Way) (es : List Exit) → exits_with (returns_read block row) block ≡ e ∷ at_once way ∷ es
      → (q : ℕ) (value : ℤ) → changed_parameter block ≡ Some q → Does (treatment block way) (height q (parameters_of n s)) (above value)
      → Paid p (1 + weighs_there p (leads_to t.next way) (put None (parameters_of n s) q (Some value)) + 0) (weighs_there p t.next (parameters_of n s) + 0)
  other_set_paid e way es is q value sets does =
      second_paid p t.next block row acts.is.block_is acts.is.row_is e way es is (parameters_of n s)
      (put None (parameters_of n s) q (Some value)) (set_makes block way q value (parameters_of n s) sets does) 0

  -- who enters its block for the last time pays the entry by the weight of its place
  pub last_paid : choice_at t.next block ≡ None → Paid p 1 (weight_in p (at None (enter_next n t t.next s).transactions n) + 0)
  last_paid plain weighted =
      omega (
        arith,
        weighs_next t t.next (one_plain p (record t { current = t.next }) block acts.is.block_is plain),
        weighted.least t.next block acts.is.block_is,
      )

  -- the entry itself is borrowed until then
  pub last_borrowed : Paid p (1 + weight_in p (at None (enter_next n t t.next s).transactions n) + 0) (weight_in p (at None s.transactions n) + 1)
  last_borrowed weighted = omega (arith, weighs_still weighted, acts.weighs weighted)
