-- Typed states never get stuck.
use Rattle.std.proofs.Common.{◌≡◌, ◌≢◌, ℕ, zero, suc, ◌+◌, ◌≤◌, ℤ, List, [], ◌∷◌, Option, Some, None, Bool, true, false, is_some, is_none}
use Rattle.std.proofs.Common.{if◌then◌else◌, ◌==◌, ◌&&◌, refl, sym, ap, ◌∙◌, subst, arith, ⊎_elim}
use Rattle.std.specs.Prelude.{All, IfSome, IsSome, Contains}
use Rattle.std.proofs.lemmas.Bool.{eqb-true}
use Rattle.gw_object.specs.declared.blocks.Block.{Block}
use Rattle.gw_object.specs.declared.blocks.Block.TheVariants as blocks
use Rattle.gw_object.specs.declared.parts.Parts.{Parts}
use Rattle.gw_object.specs.declared.blocks.Both.{Both}
use Rattle.gw_rules.specs.declared.ways.Way.TheVariants.{Falls, Goes}
use Rattle.gw_rules.specs.Exits.{leads_to, goes_or_falls, at_once}
use Rattle.gw_rules.specs.Kinds.{block_at}
use Rattle.gw_rules.specs.KindsLaws.{MayBeEntered, ReturnsHold, BlockHolds}
use Rattle.gw_rules.proofs.PlusTheorems.{comes_to}
use Rattle.gw_rules.proofs.KindsHold.{kinds_pass_at_each_place}
use Rattle.gw_rules.specs.Rows.{Row}
use Rattle.gw_rules.specs.Blocks.{move, edges}
use Rattle.gw_rules.specs.Flow.{own_table}
use Rattle.gw_rules.specs.FlowLaws.{FlowHolds}
use Rattle.gw_rules.proofs.Passing.{flow_passes_at_each_block}
use Rattle.gw_rules.specs.WeightsLaws.{Weighted}
use Rattle.gw_rules.specs.Accepted.{Checked}
use Rattle.gw_rules.proofs.AllPass.{kinds_pass, plus_passes, flow_passes}
use Rattle.gw_num.specs.Table.{at}
use Rattle.gw_transactions.specs.declared.Transaction.{Transaction}
use Rattle.gw_transactions.specs.Transactions.{LiveTransaction, attributes_at}
use Rattle.gw_step.specs.Numbers.{made_in}
use Rattle.gw_step.specs.declared.ends.End.TheVariants.{Budget}
use Rattle.gw_step.specs.Outcome.{Outcome, Gives, EndsBy, HasNoCase, evaluation_outcome}
use Rattle.gw_step.specs.State.{FutureEvent, State, with_streams}
use Rattle.gw_rules.specs.Values.{operands}
use Rattle.gw_step.specs.Times.{parameters_of, environment_of}
use Rattle.gw_step.specs.Changes.{wake, clock_moves}
use Rattle.gw_step.specs.Blocks.{refuses, the_value, link, effect, meets, act}
use Rattle.gw_step.specs.declared.placement.Placement.TheVariants.{JoinsRetryList}
use Rattle.gw_step.specs.Placing.{place_by}
use Rattle.gw_step.specs.Turning.{choice_at, choice_of, two_next, towards, turn_to}
use Rattle.gw_step.specs.Weight.{weighs_there, weight_in}
use Rattle.gw_step.specs.Step.{next_event, next_active, meets_one, refusal, tries, tries_both, goes_on, scan, within_budget, step_outcome, step}
use Rattle.gw_step.specs.Residence.{occurrences, active_numbers}
use Rattle.gw_step.specs.Job.{Job, Step, then_step, after, start_of}
use Rattle.gw_step.proofs.Outcomes.{choose}
use Rattle.gw_step.proofs.Rests.{all_come_to_rest}
use Rattle.gw_step.proofs.Steps.{some_is}
use Rattle.gw_step.proofs.Residence.{one_if, at_most_one, same_number}
use Rattle.gw_step.specs.Places.{IsThere}
use Rattle.gw_step.specs.Typing.{IsPlaced, WellTyped, AreWithinCapacity}
use Rattle.gw_step.specs.Safety.{RetryingResideOnce, CheckedObjectsStart, StartIsWellTyped, StepsKeepTypes, TurnsKeepTypes, WellTypedStatesStep}
use Rattle.gw_step.specs.Safety.{ReachedStatesAreWellTyped, NoJobIsStuck, AllJobsEnd, StoragesKeepTheirCapacity}
use Rattle.gw_step.proofs.Traces.{IsAt, KeepStreams, place-free, its_chain, present, present_free, turns, Turns, Activates, ClockMoves, Woken, Draws}
use Rattle.gw_step.proofs.Traces.{Marks, Change, Trace, Done, Then, trace_on, change-keeps, trace-keeps}
use Rattle.gw_step.proofs.Bounds.{trace-fills}
use Rattle.gw_step.proofs.Timed.{TellsTime, values_tell}
use Rattle.gw_step.proofs.Calm.{Moves, MakesEntry, Calms, Ends, activates_calms, clock_calms}
use Rattle.gw_step.specs.declared.ends.End.{End}
use Rattle.gw_step.proofs.Unstopped.{Safe, safe_bind, safe_then, safe_if, safe_found, safe_given}
use Rattle.gw_step.proofs.Drawn.{IsSound, Read, safe_operands}
use Rattle.gw_step.proofs.Asked.{are_read, arrival_read, acts_at}
use Rattle.gw_step.proofs.AtBlock.{first_may_be_entered, second_may_be_entered}
use Rattle.gw_step.proofs.Paying.{one_apart, two_here, its_weight_of_two, choice_paid}
use Rattle.gw_step.proofs.Moving.{Acts, Reaches, refused, safe_placed, at_first, at_second, falls_paid}
use Rattle.gw_step.proofs.Calling.{some_of, is_at}
use Rattle.gw_step.proofs.Effects.{safe_call, safe_come_back, safe_comparison, safe_gate, safe_advance, safe_seize, safe_release, safe_enter}
use Rattle.gw_step.proofs.Effects.{safe_leave, safe_join, safe_depart, safe_assign, safe_transfer, safe_fraction, safe_both, safe_loop, safe_logic}
use Rattle.gw_step.proofs.Effects.{safe_save, safe_mark, safe_plus, safe_tabulate, safe_terminate}
use Rattle.gw_step.proofs.Copying.{safe_split, safe_assemble, safe_priority, safe_passes}
use Rattle.gw_step.proofs.Linking.{safe_link, safe_unlink}
use Rattle.gw_step.proofs.Arriving.{Starts, safe_generate, start_typed}
use Rattle.gw_step.proofs.Attributes.{bearer_at, written_at, attributes_of}

-- WHAT IS TO BE MOVED

-- draws change nothing of it
moves_after : (s : State) (streams : List ℕ) (t : State) → Moves (with_streams streams s) t → Moves s t
moves_after s streams t (MakesEntry grows) = MakesEntry grows
moves_after s streams t (Calms less) = Calms less
moves_after s streams t (Ends ended less) = Ends ended less

-- nor does a turn
moves_turned : (s : State) (n : ℕ) (t : Transaction) (to : ℕ) (u : State) → Moves (turn_to n t to s) u → Moves s u
moves_turned s n t to u (MakesEntry grows) = MakesEntry grows
moves_turned s n t to u (Calms less) = Calms less
moves_turned s n t to u (Ends ended less) = Ends ended less

-- nor do the count of steps and the end
moves_marked : (s t : State) (steps : ℕ) (ended : Option End) → (IsSome t.ended → IsSome ended) → Moves s t
    → Moves s (record t { steps = steps; ended = ended })
moves_marked s t steps ended brings (MakesEntry grows) = MakesEntry grows
moves_marked s t steps ended brings (Calms less) = Calms (λ same few. less same (record { few = few.few }))
moves_marked s t steps ended brings (Ends some less) = Ends (brings some) less

-- THE SCAN

-- who is active in a well-typed state
record IsActive (p : Parts) (s : State) (n : ℕ) (t : Transaction) : Type 0 where
  typed : WellTyped p s
  active : s.lists.active ≡ Some n
  found : attributes_at n s.transactions ≡ Some t

-- who has two next blocks is in the block to which it goes on, and that gives the choice
two_of : (p : Parts) (t : Transaction) (pair : ℕ × ℕ) → two_next p t ≡ Some pair → (t.current ≡ t.next)
    × (choice_of t.next (block_at p.blocks t.next) ≡ Some pair)
two_of p t pair is = by_test (t.current == t.next) refl is
  where
    by_test : (same : Bool) → (t.current == t.next) ≡ same → (if same then choice_of t.next (block_at p.blocks t.next) else None)
        ≡ Some pair → (t.current ≡ t.next) × (choice_of t.next (block_at p.blocks t.next) ≡ Some pair)
    by_test true same is = (eqb-true t.current t.next same, is)
    by_test false same is = absurd cc

live : (o : Option LiveTransaction) → 1 ≤ one_if (is_some o) → is_some o ≡ true
live None h = absurd (omega (arith, h))
live (Some t) h = refl

module _ (p : Parts) (each_return : All (ReturnsHold p) p.returns)
    (each_block : (b : ℕ) (block : Block) → block_at p.blocks b ≡ Some block → BlockHolds p b block) (flow : FlowHolds p (own_table p))
    (sound : IsSound p) (k : ℕ) where
  -- the one walk over the blocks
  safe_meets : (s : State) (n : ℕ) (t : Transaction) (block : Block) (values : List ℤ) (row : Row) → Acts p s n t block row
      → TellsTime block values → Safe (Reaches p k s) (meets p n t block values s)
  unfolding effect
  safe_meets s n t (blocks.Generate g) values row acts tells = safe_placed p k s n _ (safe_generate p sound s n t k g row acts)
  safe_meets s n t (blocks.Terminate by) values row acts tells = safe_placed p k s n _ (safe_terminate p each_block flow s n t k by (the_value values) row acts)
  safe_meets s n t (blocks.Advance time) values row acts tells =
      safe_placed p k s n _ (safe_advance p each_block flow s n t k time (the_value values) row acts tells)
  safe_meets s n t (blocks.Seize f) values row acts tells = safe_seize p each_block flow s n t k f values row acts
  safe_meets s n t (blocks.Release f) values row acts tells = safe_placed p k s n _ (safe_release p each_block flow s n t k f row acts)
  safe_meets s n t (blocks.Enter u) values row acts tells = safe_enter p each_block flow s n t k u values row acts
  safe_meets s n t (blocks.Leave u) values row acts tells = safe_placed p k s n _ (safe_leave p each_block flow s n t k u row acts)
  safe_meets s n t (blocks.Queue u) values row acts tells = safe_placed p k s n _ (safe_join p each_block flow s n t k u row acts)
  safe_meets s n t (blocks.Depart u) values row acts tells = safe_placed p k s n _ (safe_depart p each_block flow s n t k u row acts)
  safe_meets s n t (blocks.Test test) values row acts tells = safe_comparison p each_block flow s n t k test values row acts
  safe_meets s n t (blocks.Gate gate) values row acts tells = safe_gate p each_block flow s n t k gate values row acts
  safe_meets s n t (blocks.Assign a) values row acts tells = safe_placed p k s n _ (safe_assign p each_block flow s n t k a (the_value values) row acts tells)
  safe_meets s n t (blocks.Transfer target) values row acts tells = safe_placed p k s n _ (safe_transfer p each_block flow s n t k target row acts)
  safe_meets s n t (blocks.TransferByFraction f) values row acts tells =
      safe_placed p k s n _ (safe_fraction p each_block flow s n t k f (the_value values) row acts)
  safe_meets s n t (blocks.TransferBoth two) values row acts tells = safe_placed p k s n _ (safe_both p each_block flow s n t k two row acts)
  safe_meets s n t (blocks.TransferToSubroutine c) values row acts tells = safe_placed p k s n _ (safe_call p each_block flow s n t k c row acts)
  safe_meets s n t (blocks.TransferByParameter q) values row acts tells =
      safe_placed p k s n _ (safe_come_back p each_block flow s n t k each_return q row acts)
  safe_meets s n t (blocks.Loop l) values row acts tells = safe_placed p k s n _ (safe_loop p each_block flow s n t k l row acts)
  safe_meets s n t (blocks.Logic l) values row acts tells = safe_placed p k s n _ (safe_logic p each_block flow s n t k l row acts)
  safe_meets s n t (blocks.Savevalue a) values row acts tells = safe_placed p k s n _ (safe_save p each_block flow s n t k a (the_value values) row acts)
  safe_meets s n t (blocks.Mark q) values row acts tells = safe_placed p k s n _ (safe_mark p each_block flow s n t k q row acts)
  safe_meets s n t (blocks.Split c) values row acts tells = safe_placed p k s n _ (safe_split p s n t k c row acts)
  safe_meets s n t (blocks.Assemble size) values row acts tells = safe_placed p k s n _ (safe_assemble p s n t k size row acts)
  safe_meets s n t (blocks.Link l) values row acts tells = safe_placed p k s n (link n t l s) (safe_link p s n t k l row acts)
  safe_meets s n t (blocks.Unlink u) values row acts tells = safe_placed p k s n _ (safe_unlink p s n t k flow u row acts)
  safe_meets s n t (blocks.Priority a) values row acts tells = safe_placed p k s n _ (safe_priority p s n t k a (the_value values) row acts)
  safe_meets s n t (blocks.Plus a) values row acts tells = safe_placed p k s n _ (safe_plus p each_block flow s n t k a (the_value values) row acts)
  safe_meets s n t (blocks.Tabulate e) values row acts tells = safe_placed p k s n _ (safe_tabulate p each_block flow s n t k e (the_value values) row acts)
  safe_meets s n t block values row acts tells =
      safe_placed p k s n _ (safe_passes p s n t k block _ row acts tt (at_first _ [])
      (first_may_be_entered p t.next _ [] acts.kinds.exits) (falls_paid p s n t block row acts Falls [] refl (λ q. refl) 0))

  safe_act : (s : State) (n : ℕ) (t : Transaction) (block : Block) (row : Row) → Acts p s n t block row → Safe (Reaches p k s) (act p n t block s)
  unfolding act
  safe_act s n t block row acts =
      let env = environment_of n t s in
      safe_bind (λ read. Read s.streams read × TellsTime block read.0) (Reaches p k s) (evaluation_outcome (operands p env block s.streams)) _
      (safe_given (Read s.streams) (λ read. TellsTime block read.0) (evaluation_outcome (operands p env block s.streams))
      (safe_operands p sound env t.next block s.streams acts.kinds (are_read p sound.entities s n t block row acts)) (values_tell p env block s.streams))
      (λ read keeps.
      let u : State = with_streams read.1 s in
      safe_then (Reaches p k u) (Reaches p k s) (meets p n t block read.0 u)
      (safe_meets u n t block read.0 row
      (record { typed = acts.typed; active = acts.active; is = acts.is; kinds = acts.kinds; flow = acts.flow; weighs = acts.weighs }) keeps.1)
      (λ v x. record {
        entries = x.entries;
        arrivals = x.arrivals;
        borrowed = x.borrowed;
        trace = Then (Draws read.1 keeps.0) x.trace;
        few_entries = x.few_entries;
        few_arrivals = x.few_arrivals;
        moves = moves_after s read.1 v x.moves;
      }))

  -- WHO HAS ONE NEXT BLOCK

  the_block : (s : State) (n : ℕ) (t : Transaction) → IsActive p s n t → (block : Block) × (block_at p.blocks t.next ≡ Some block)
  the_block s n t here =
      let bears = bearer_at s.transactions n t here.found in
      let placed : IsPlaced p bears.0 = subst (λ o. IfSome o (IsPlaced p)) bears.1 (here.typed.placed n) in
      let free = present_free p s.transactions s.lists s.entities here.typed n (present s.lists n here.active) in
      let at_block = place-free bears.0 t (its_chain (at None s.transactions n) bears.0 None bears.1 free) bears.2 in
      some_of (block_at p.blocks t.next) (subst (IsThere p) at_block placed.there)

  safe_meets_one : (s : State) (n : ℕ) (t : Transaction) → IsActive p s n t → (Weighted p → two_next p t ≡ None) → Safe (Reaches p k s) (meets_one p n t s)
  safe_meets_one s n t here one =
      let block = the_block s n t here in
      let acts = acts_at p sound.entities each_block flow s here.typed n t block.0 here.active here.found block.1 one in
      safe_found (Reaches p k s) (block_at p.blocks t.next) block.0 _ block.1 (safe_act s n t block.0 acts.0 acts.1)

  -- whether its block refuses it can be told
  safe_refusal : (s : State) (n : ℕ) (t : Transaction) → IsActive p s n t → (Weighted p → two_next p t ≡ None)
      → Safe (λ answer. KeepStreams s.streams answer.1) (refusal p n t s)
  safe_refusal s n t here one =
      let block = the_block s n t here in
      let acts = acts_at p sound.entities each_block flow s here.typed n t block.0 here.active here.found block.1 one in
      let env = environment_of n t s in
      let answer : List ℤ × List ℕ → Outcome (Bool × List ℕ) = λ read. Gives (refuses n block.0 read.0 (with_streams read.1 s), read.1) in
      safe_found (λ (answer : Bool × List ℕ). KeepStreams s.streams answer.1) (block_at p.blocks t.next) block.0 _ block.1
      (safe_bind (Read s.streams) (λ (answer : Bool × List ℕ). KeepStreams s.streams answer.1)
      (evaluation_outcome (operands p env block.0 s.streams)) answer
      (safe_operands p sound env t.next block.0 s.streams acts.1.kinds (are_read p sound.entities s n t block.0 acts.0 acts.1)) (λ read keeps. keeps))

  -- WHO HAS TWO

  -- it tries one of the two blocks
  safe_tries : (s : State) (n : ℕ) (t : Transaction) (block : Block) (row : Row) (to : ℕ) (otherwise : State → Outcome State)
      → IsActive p s n t → IsAt p s.transactions n t block row → Contains (edges p (own_table p) t.next block row) (move to row) → MayBeEntered p to
      → (Weighted p → (t.current ≢ to) × (weighs_there p to (parameters_of n s) ≤ weight_in p (at None s.transactions n)))
      → ((streams : List ℕ) → Safe (Reaches p k (with_streams streams s)) (otherwise (with_streams streams s)))
      → Safe (Reaches p k s) (tries p n t to otherwise s)
  safe_tries s n t block row to otherwise here is along may pays else_safe =
      let typed = change-keeps p flow (turn 0 0 0) here.typed in
      let bears = bearer_at s.transactions n t here.found in
      let there : IsActive p (turn_to n t to s) n (towards to t) =
      record { typed = typed; active = here.active; found = attributes_of _ _ (written_at s.transactions n (towards to t) bears.0 bears.1) } in
      let one : Weighted p → two_next p (towards to t) ≡ None = λ weighted. one_apart p (towards to t) (pays weighted).0 in
      safe_bind (λ (answer : Bool × List ℕ). KeepStreams s.streams answer.1) (Reaches p k s)
      (refusal p n (towards to t) (turn_to n t to s)) _ (safe_refusal (turn_to n t to s) n (towards to t) there one)
      (λ answer keeps.
      safe_if (Reaches p k s) answer.0 (otherwise (with_streams answer.1 s)) (meets_one p n (towards to t) (turn_to n t to s))
      (λ refused. safe_then (Reaches p k (with_streams answer.1 s)) (Reaches p k s) (otherwise (with_streams answer.1 s)) (else_safe answer.1)
      (λ u x. record {
        entries = x.entries;
        arrivals = x.arrivals;
        borrowed = x.borrowed;
        trace = Then (Draws answer.1 keeps) x.trace;
        few_entries = x.few_entries;
        few_arrivals = x.few_arrivals;
        moves = moves_after s answer.1 u x.moves;
      }))
      (λ passes. safe_then (Reaches p k (turn_to n t to s)) (Reaches p k s) (meets_one p n (towards to t) (turn_to n t to s))
      (safe_meets_one (turn_to n t to s) n (towards to t) there one)
      (λ u x. record {
        entries = x.entries;
        arrivals = x.arrivals;
        borrowed = x.borrowed;
        trace =
            Then (turn k (made_in k) x.borrowed) x.trace;
        few_entries = x.few_entries;
        few_arrivals = x.few_arrivals;
        moves = moves_turned s n t to u x.moves;
      })))
    where
      turn : (en ar c : ℕ) → Change p en ar c s en ar c (turn_to n t to s)
      turn en ar c = Turns n to t block row is (present s.lists n here.active) along may (λ weighted. omega (arith, (pays weighted).1))

  -- it turns to either
  turns_typed : (s : State) (n : ℕ) (t : Transaction) (block : Block) (pair : ℕ × ℕ) → IsActive p s n t → block_at p.blocks t.next
      ≡ Some block → choice_at t.next block ≡ Some pair → WellTyped p (turn_to n t pair.0 s) × WellTyped p (turn_to n t pair.1 s)
  turns_typed s n t (blocks.TransferBoth two) pair here there is =
      let first : ℕ = leads_to t.next (goes_or_falls two.first) in
      let its : (first, two.second) ≡ pair = cc in
      let row = is_at p each_block flow s here.typed n t (blocks.TransferBoth two) here.found
      (present_free p s.transactions s.lists s.entities here.typed n (present s.lists n here.active)) there in
      let kinds = each_block t.next (blocks.TransferBoth two) there in
      let to_first = turns p flow s here.typed n first t (blocks.TransferBoth two) row.0 row.1 (present s.lists n here.active)
      (at_first _ (move two.second row.0 ∷ [])) (first_may_be_entered p t.next _ (at_once (Goes two.second) ∷ []) kinds.exits) in
      let to_second = turns p flow s here.typed n two.second t (blocks.TransferBoth two) row.0 row.1 (present s.lists n here.active)
      (at_second (move first row.0) _ []) (second_may_be_entered p t.next _ _ [] kinds.exits) in
      subst (λ (x : ℕ × ℕ). WellTyped p (turn_to n t x.0 s) × WellTyped p (turn_to n t x.1 s)) its (to_first, to_second)
  turns_typed s n t block pair here there is = absurd cc

  -- refused at both it rests, where it is
  safe_rests : (s : State) (n : ℕ) → s.lists.active ≡ Some n → Reaches p k s (place_by n JoinsRetryList s)
  safe_rests s n active = refused p k s n JoinsRetryList active tt active refl (omega arith)

  drawn : (s : State) (n : ℕ) (t : Transaction) (streams : List ℕ) → IsActive p s n t → IsActive p (with_streams streams s) n t
  drawn s n t streams here = record { typed = here.typed; active = here.active; found = here.found }

  safe_both_next : (s : State) (n : ℕ) (t : Transaction) (two : Both) → IsActive p s n t → t.current ≡ t.next → block_at p.blocks t.next
      ≡ Some (blocks.TransferBoth two) → Safe (Reaches p k s) (tries_both p n t (leads_to t.next (goes_or_falls two.first), two.second) s)
  safe_both_next s n t two here same there =
      let block : Block = blocks.TransferBoth two in
      let pair : ℕ × ℕ = (leads_to t.next (goes_or_falls two.first), two.second) in
      let row = is_at p each_block flow s here.typed n t block here.found
      (present_free p s.transactions s.lists s.entities here.typed n (present s.lists n here.active)) there in
      let kinds = each_block t.next block there in
      let weighs = its_weight_of_two p s.transactions n t block row.0 pair row.1 (two_here p t block pair same there refl) in
      let paid = λ (weighted : Weighted p). choice_paid p weighted t.next block row.0 pair (parameters_of n s) there row.1.row_is refl in
      safe_tries s n t block row.0 pair.0 (λ u. tries p n t pair.1 (λ v. Gives (place_by n JoinsRetryList v)) u) here row.1
      (at_first _ (move two.second row.0 ∷ [])) (first_may_be_entered p t.next _ (at_once (Goes two.second) ∷ []) kinds.exits)
      (λ weighted. ((λ to_it. (paid weighted).first_other (sym same ∙ to_it)), omega (arith, weighs, (paid weighted).first)))
      (λ streams. safe_tries (with_streams streams s) n t block row.0 pair.1 (λ v. Gives (place_by n JoinsRetryList v))
      (drawn s n t streams here) row.1 (at_second (move pair.0 row.0) _ []) (second_may_be_entered p t.next _ _ [] kinds.exits)
      (λ weighted. ((λ to_it. (paid weighted).second_other (sym same ∙ to_it)), omega (arith, weighs, (paid weighted).second)))
      (λ later. safe_rests (with_streams later s) n here.active))

  safe_choice : (s : State) (n : ℕ) (t : Transaction) (block : Block) (pair : ℕ × ℕ) → IsActive p s n t → t.current ≡ t.next
      → block_at p.blocks t.next ≡ Some block → choice_at t.next block ≡ Some pair → Safe (Reaches p k s) (tries_both p n t pair s)
  safe_choice s n t (blocks.TransferBoth two) pair here same there is =
      let its : (leads_to t.next (goes_or_falls two.first), two.second) ≡ pair = cc in
      subst (λ x. Safe (Reaches p k s) (tries_both p n t x s)) its (safe_both_next s n t two here same there)
  safe_choice s n t block pair here same there is = absurd cc

  -- it goes on: to its one next block, or to one of two
  safe_goes_on : (s : State) (n : ℕ) (t : Transaction) → IsActive p s n t → Safe (Reaches p k s) (goes_on p n t (two_next p t) s)
  safe_goes_on s n t here = let block = the_block s n t here in by_two (two_next p t) refl block.0 block.1
    where
      by_two : (o : Option (ℕ × ℕ)) → two_next p t ≡ o → (block : Block) → block_at p.blocks t.next ≡ Some block → Safe (Reaches p k s) (goes_on p n t o s)
      by_two None is block there = safe_meets_one s n t here (λ weighted. is)
      by_two (Some pair) is block there =
          let chosen = two_of p t pair is in
          safe_choice s n t block pair here chosen.0 there (sym (ap (choice_of t.next) there) ∙ chosen.1)

  safe_active : (s : State) → WellTyped p s → (n : ℕ) → s.lists.active ≡ Some n → Safe (Reaches p k s) (scan p (Some n) s)
  safe_active s ty n active =
      let here = live (at None s.transactions n) (omega (arith, ty.resides n, ap (λ a. occurrences n (active_numbers a)) active, same_number n n refl)) in
      let bears = some_of (at None s.transactions n) here in
      let found : attributes_at n s.transactions ≡ Some bears.0.attributes = attributes_of (at None s.transactions n) bears.0 bears.1 in
      safe_found (Reaches p k s) (attributes_at n s.transactions) bears.0.attributes _ found
      (safe_goes_on s n bears.0.attributes (record { typed = ty; active = active; found = found }))

  -- a step with no entry and no arrival
  apart : (s t : State) → Trace p k (made_in k) 0 s k (made_in k) 0 t → Moves s t → Reaches p k s t
  apart s t xs moves = record {
    entries = k;
    arrivals = made_in k;
    borrowed = 0;
    trace = xs;
    few_entries = omega arith;
    few_arrivals =
        omega arith;
    moves = moves;
  }

  safe_events : (s : State) → s.lists.active ≡ None → (events : List FutureEvent) → s.lists.future_events ≡ events → Safe (Reaches p k s) (next_event events s)
  safe_events s nobody [] is = tt
  safe_events s nobody (e ∷ es) is =
      apart s (wake (clock_moves e.time s)) (Then (ClockMoves e es is) (Then Woken Done)) (Calms (λ same few. clock_calms s e es nobody is same few))

  safe_chain : (s : State) → s.lists.active ≡ None → (ns : List ℕ) → s.lists.current_events ≡ ns → Safe (Reaches p k s) (next_active ns s)
  safe_chain s nobody [] is = safe_events s nobody s.lists.future_events refl
  safe_chain s nobody (n ∷ ns) is =
      apart s (record s { lists = record s.lists { active = Some n; current_events = ns } }) (Then (Activates n ns nobody is) Done)
      (Calms (λ same few. activates_calms n ns s nobody is))

  safe_scan : (s : State) → WellTyped p s → (active : Option ℕ) → s.lists.active ≡ active → Safe (Reaches p k s) (scan p active s)
  safe_scan s ty None is = safe_chain s is s.lists.current_events refl
  safe_scan s ty (Some n) is = safe_active s ty n is

  -- THE STEP

  reaches_on : (s t u : State) (x : Reaches p k s t) → Change p x.entries x.arrivals x.borrowed t x.entries x.arrivals x.borrowed u
      → Moves s u → Reaches p k s u
  reaches_on s t u x c moves =
      record {
        entries = x.entries;
        arrivals = x.arrivals;
        borrowed = x.borrowed;
        trace = trace_on p x.trace (Then c Done);
        few_entries =
            x.few_entries;
        few_arrivals = x.few_arrivals;
        moves = moves;
      }

  within_traced : (budget : ℕ) (s t : State) → Reaches p k s t → Reaches p k s (within_budget budget t)
  within_traced budget s t x =
      choose (Reaches p k s) (is_none t.ended && (t.steps == budget)) (record t { ended = Some Budget }) t
      (λ spent. reaches_on s t (record t { ended = Some Budget }) x (Marks t.steps (Some Budget))
      (moves_marked s t t.steps (Some Budget) (λ some. refl) x.moves)) (λ left. x)

  stepped_traced : (budget : ℕ) (s t : State) (o : Outcome State) → Safe (Reaches p k s) o → step_outcome budget s o ≡ Some t → Reaches p k s t
  stepped_traced budget s t (Gives u) h is =
      let same : within_budget budget (record u { steps = s.steps + 1 }) ≡ t = cc in
      subst (Reaches p k s) same
      (within_traced budget s (record u { steps = s.steps + 1 })
      (reaches_on s u (record u { steps = s.steps + 1 }) h (Marks (s.steps + 1) u.ended) (moves_marked s u (s.steps + 1) u.ended (λ some. some) h.moves)))
  stepped_traced budget s t (EndsBy end) h is =
      let same : record s { steps = s.steps + 1; ended = Some end } ≡ t = cc in
      subst (Reaches p k s) same
      (apart s (record s { steps = s.steps + 1; ended = Some end }) (Then (Marks (s.steps + 1) (Some end)) Done) (Ends refl (omega arith)))
  stepped_traced budget s t HasNoCase h is = absurd h

  stepped_leads : (budget : ℕ) (s : State) (o : Outcome State) → Safe (Reaches p k s) o → (t : State) × (step_outcome budget s o ≡ Some t)
  stepped_leads budget s (Gives u) h = (within_budget budget (record u { steps = s.steps + 1 }), refl)
  stepped_leads budget s (EndsBy end) h = (record s { steps = s.steps + 1; ended = Some end }, refl)
  stepped_leads budget s HasNoCase h = absurd h

  -- each step of a well-typed state is a list of elementary changes
  step_traced : (budget : ℕ) (s t : State) → WellTyped p s → step p budget s ≡ Some t → Reaches p k s t
  unfolding step
  step_traced budget s t ty is = by_test (is_none s.ended) is
    where
      by_test : (b : Bool) → (if b then step_outcome budget s (scan p s.lists.active s) else None) ≡ Some t → Reaches p k s t
      by_test true is = stepped_traced budget s t (scan p s.lists.active s) (safe_scan s ty s.lists.active refl) is
      by_test false is = absurd cc

  step_leads : (budget : ℕ) (s : State) → WellTyped p s → s.ended ≡ None → (t : State) × (step p budget s ≡ Some t)
  unfolding step
  step_leads budget s ty runs =
      let found = stepped_leads budget s (scan p s.lists.active s) (safe_scan s ty s.lists.active refl) in
      (found.0, ap (λ e. if is_none e then step_outcome budget s (scan p s.lists.active s) else None) runs ∙ found.1)

-- THE LAWS

pub kinds_of : (p : Parts) → Checked p → (b : ℕ) (block : Block) → block_at p.blocks b ≡ Some block → BlockHolds p b block
kinds_of p checked = ((kinds_pass_at_each_place p).0 (kinds_pass p checked)).5

pub returns_of : (p : Parts) → Checked p → All (ReturnsHold p) p.returns
returns_of p checked = ((kinds_pass_at_each_place p).0 (kinds_pass p checked)).2

pub flow_of : (p : Parts) → Checked p → FlowHolds p (own_table p)
flow_of p checked = (flow_passes_at_each_block p (own_table p)).0 (flow_passes p checked)

pub sound_of : (p : Parts) → Checked p → IsSound p
sound_of p checked = record {
  entities = ((kinds_pass_at_each_place p).0 (kinds_pass p checked)).0;
  procedures = λ env q pr may. let came = comes_to p env q pr (kinds_pass p checked) (plus_passes p checked) may in (came.0, came.1);
}

starts : (j : Job) → Checked j.parts → (first : State) × (start_of j ≡ Some first) × Starts j.parts first
starts j checked =
    let sound = sound_of j.parts checked in
    start_typed j.parts (flow_of j.parts checked) sound
    (arrival_read j.parts sound.entities (kinds_of j.parts checked) (flow_of j.parts checked)) j.count j.streams

pub checked_objects_start : CheckedObjectsStart
checked_objects_start j checked = let first = starts j checked in (first.0, first.1)

started_as : (j : Job) (s : State) → Checked j.parts → start_of j ≡ Some s → Starts j.parts s
started_as j s checked is =
    let first = starts j checked in
    subst (Starts j.parts) (some_is first.0 s (sym first.1 ∙ is)) first.2

pub start_is_well_typed : StartIsWellTyped
start_is_well_typed j s checked is = (started_as j s checked is).typed

-- a step, from so many entries and arrivals
pub reached_in_step : (j : Job) (k : ℕ) (s t : State) → Checked j.parts → WellTyped j.parts s → Step j s t → Reaches j.parts k s t
reached_in_step j k s t checked ty is =
    step_traced j.parts (returns_of j.parts checked) (kinds_of j.parts checked) (flow_of j.parts checked) (sound_of j.parts checked) k j.budget s t ty is

pub steps_keep_types : StepsKeepTypes
steps_keep_types j s t checked ty is = trace-keeps j.parts (flow_of j.parts checked) (reached_in_step j 0 s t checked ty is).trace ty

pub turns_keep_types : TurnsKeepTypes
turns_keep_types p s n t pair checked ty active found is =
    let here : IsActive p s n t = record { typed = ty; active = active; found = found } in
    let block = the_block p (returns_of p checked) (kinds_of p checked) (flow_of p checked) (sound_of p checked) 0 s n t here in
    turns_typed p (returns_of p checked) (kinds_of p checked) (flow_of p checked) (sound_of p checked) 0 s n t block.0 pair here block.1
    (sym (ap (choice_of t.next) block.1) ∙ (two_of p t pair is).1)

pub well_typed_states_step : WellTypedStatesStep
well_typed_states_step j s checked ty runs =
    step_leads j.parts (returns_of j.parts checked) (kinds_of j.parts checked) (flow_of j.parts checked) (sound_of j.parts checked) 0 j.budget s ty runs

-- what a reached state is
record IsKept (p : Parts) (s : State) : Type 0 where
  typed : WellTyped p s
  within : AreWithinCapacity s.entities

kept_on : (j : Job) → Checked j.parts → (s t : State) → IsKept j.parts s → Step j s t → IsKept j.parts t
kept_on j checked s t h is = record {
  typed = steps_keep_types j s t checked h.typed is;
  within = trace-fills j.parts (reached_in_step j 0 s t checked h.typed is).trace h.within;
}

one_more : (j : Job) → Checked j.parts → (s : State) (o : Option State) → ((m : State) → o ≡ Some m → IsKept j.parts m) → then_step j o
    ≡ Some s → IsKept j.parts s
one_more j checked s None before is = absurd cc
one_more j checked s (Some m) before is = kept_on j checked m s (before m refl) is

reached : (j : Job) → Checked j.parts → (n : ℕ) (s : State) → after j n (start_of j) ≡ Some s → IsKept j.parts s
unfolding after
reached j checked zero s is =
    let first = started_as j s checked is in
    record { typed = first.typed; within = first.within }
reached j checked (suc n) s is = one_more j checked s (after j n (start_of j)) (λ m there. reached j checked n m there) is

pub reached_states_are_well_typed : ReachedStatesAreWellTyped
reached_states_are_well_typed j n s checked alone = (reached j checked n s alone).typed

pub storages_keep_their_capacity : StoragesKeepTheirCapacity
storages_keep_their_capacity j n s checked alone = (reached j checked n s alone).within

pub retrying_reside_once : RetryingResideOnce
retrying_reside_once j n s checked alone m waits =
    let once = (reached_states_are_well_typed j n s checked alone).resides m in
    let most = at_most_one (is_some (at None s.transactions m)) in
    (omega (arith, once, most, waits), omega (arith, once, most, waits))

pub no_job_is_stuck : NoJobIsStuck
no_job_is_stuck j n s checked alone stuck =
    let next = well_typed_states_step j s checked (reached_states_are_well_typed j n s checked alone) stuck.0 in
    let never : None ≡ Some next.0 = sym stuck.1 ∙ next.1 in
    absurd cc

pub all_jobs_end : AllJobsEnd
all_jobs_end j checked some =
    let first = checked_objects_start j checked in
    let rest = all_come_to_rest j first.0 first.1 some in
    record {
      steps = rest.steps;
      state = rest.state;
      alone = rest.alone;
      final = ⊎_elim (λ final. final) (λ stuck. absurd (no_job_is_stuck j rest.steps rest.state checked rest.alone stuck)) rest.over;
    }
