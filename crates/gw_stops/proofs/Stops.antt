-- Each error stop is stuck.
use Rattle.std.proofs.Common.{◌≡◌, ◌⊎◌, ℕ, zero, suc, ◌+◌, ◌<◌, ℤ, pos, ◌-ℤ◌, List, [], ◌∷◌, ◌++◌, Option, Some, None, Bool, true, false, not}
use Rattle.std.proofs.Common.{if◌then◌else◌, is_some, ◌&&◌, nat_le, ◌==◌, Result, Ok, refl, sym, ap, ◌∙◌, subst, arith, inl, inr, option_map}
use Rattle.std.proofs.Common.{option_to_list}
use Rattle.std.specs.Prelude.{int_lt, IfSome}
use Rattle.std.proofs.lemmas.Bool.{lt-leb, le-leb, false≢true, or_left, or_right, ne_eqb}
use Rattle.std.proofs.lemmas.Int.{ints}
use Rattle.gw_object.specs.declared.blocks.Operand.{Operand}
use Rattle.gw_object.specs.declared.blocks.Generate.{Generate}
use Rattle.gw_object.specs.declared.blocks.Spread.{Spread}
use Rattle.gw_object.specs.declared.blocks.Block.{Block}
use Rattle.gw_object.specs.declared.blocks.Block.TheVariants as blocks
use Rattle.gw_object.specs.declared.parts.Parts.{Parts}
use Rattle.gw_rules.specs.Environment.{Environment}
use Rattle.gw_rules.specs.Sources.{operand_at, evaluation_operands as evaluated_at}
use Rattle.gw_rules.specs.Values.{Evaluation, Value, Unset, ◌>>=◌ as ◌then◌, evaluation_of, operand_value, drawn_time, single_value, one_operand, operands}
use Rattle.gw_rules.specs.Kinds.{block_at, is_generate}
use Rattle.gw_rules.specs.Exits.{leads_to, goes_or_falls}
use Rattle.gw_num.specs.Table.{at}
use Rattle.gw_num.specs.Arithmetic.{difference_of}
use Rattle.gw_num.specs.declared.arithmetic.NumFault.{NumFault}
use Rattle.gw_transactions.specs.declared.Transaction.{Transaction}
use Rattle.gw_transactions.specs.Transactions.{parameter_at, live_count}
use Rattle.gw_entities.specs.declared.facilities.Facility.{Facility}
use Rattle.gw_entities.specs.declared.storages.Storage.{Storage}
use Rattle.gw_entities.specs.Facility.{idle, is_owned_by, owns_any, seizure_by, release_by, without_owner, is_idle, with_owner}
use Rattle.gw_entities.specs.Storage.{has_room, with_entries, entry_of, exit_of, with_exits}
use Rattle.gw_entities.specs.Queue.{departure_of, with_departures}
use Rattle.gw_step.specs.declared.ends.End.TheVariants.{Number, Live}
use Rattle.gw_step.specs.Outcome.{Outcome, Gives, EndsBy, HasNoCase, ◌>>=◌, only_if, case_of, evaluation_outcome}
use Rattle.gw_step.specs.State.{Assembly, State, may_enter, with_streams}
use Rattle.gw_step.specs.Times.{environment_of, environment_of_next, moment_after, drawn_moment}
use Rattle.gw_step.specs.Changes.{facility, storage, queue}
use Rattle.gw_step.specs.Blocks.{has_to_wait, refuses, refused_placement, the_value, leads, is_owed, next_arrival, others_lead, block_after}
use Rattle.gw_step.specs.Blocks.{loop_target, assembly_at, assemble_in, taken_by, plus, then_placed, effect, meets, act}
use Rattle.gw_step.specs.Start.{nothing, start_outcome, first_moment, first_arrival, first_arrivals}
use Rattle.gw_step.specs.declared.placement.Placement.TheVariants.{JoinsRetryList}
use Rattle.gw_step.specs.Placing.{place_by}
use Rattle.gw_step.specs.Turning.{two_next, towards, turn_to}
use Rattle.gw_step.specs.Step.{meets_one, tries, goes_on, scan}
use Rattle.gw_step.specs.Job.{Job, IsStuck}
use Rattle.gw_step.proofs.Steps.{step-none}
use Rattle.gw_stops.specs.Activations.{OneLacksValue}
use Rattle.gw_stops.specs.Attempts.{Attempt, at_its_one, at_the_first, at_the_second, Attempts, Tries}
use Rattle.gw_stops.specs.Moves.{IsNoTarget, goes_on_to, ComesToNoEnd}
use Rattle.gw_stops.specs.Stops.{ReleaseOfAnothersStops, SeizeOfOnesOwnStops, TerminateWhileOwningStops, AssembleWhileOwningStops}
use Rattle.gw_stops.specs.Stops.{LeaveOfTooMuchStops, DepartOfTooMuchStops, EnterAboveCapacityStops, MissingBlockStops, MoveToNoTargetStops}
use Rattle.gw_stops.specs.Stops.{ChoiceOfNoTargetStops, CopiesToNoTargetStop, MembersToNoTargetStop, OperandWithoutValueStops, LoopByUnsetStops}
use Rattle.gw_stops.specs.Stops.{ReturnByUnsetStops, IntervalWithoutValueStops, ArrivalWithoutValueHasNoStart}
use Rattle.gw_stops.proofs.Activations.{lacks_value}

-- OUTCOMES WITHOUT A CASE

-- a test makes no case of none
only_none : {A : Type 0} (b : Bool) → only_if {A = A} b HasNoCase ≡ HasNoCase
only_none true = refl
only_none false = refl

-- where a test fails there is none
only_failed : {A : Type 0} (b : Bool) (o : Outcome A) → b ≡ false → only_if b o ≡ HasNoCase
only_failed b o fails = ap (λ b. only_if b o) fails

-- nor where one holds and there is none then
if_none : {A : Type 0} (b : Bool) (o q : Outcome A) → b ≡ true → o ≡ HasNoCase → (if b then o else q) ≡ HasNoCase
if_none b o q holds none = ap (λ b. if b then o else q) holds ∙ none

else_none : {A : Type 0} (b : Bool) (o q : Outcome A) → b ≡ false → q ≡ HasNoCase → (if b then o else q) ≡ HasNoCase
else_none b o q fails none = ap (λ b. if b then o else q) fails ∙ none

-- where what is given has none
then_none : {A B : Type 0} (o : Outcome A) (f : A → Outcome B) (a : A) → o ≡ Gives a → f a ≡ HasNoCase → (o >>= f) ≡ HasNoCase
then_none o f a gives none = ap (λ o. o >>= f) gives ∙ none

-- or where none is given
bind_none : {A B : Type 0} (o : Outcome A) (f : A → Outcome B) → o ≡ HasNoCase → (o >>= f) ≡ HasNoCase
bind_none o f none = ap (λ o. o >>= f) none

-- where what has to be there is absent
absent : {A B : Type 0} (o : Option A) (f : A → Outcome B) → o ≡ None → (case_of o >>= f) ≡ HasNoCase
absent o f none = ap (λ o. case_of o >>= f) none

-- also behind the test of a move
asks_in_vain : {A B : Type 0} (bs : List Block) (b : ℕ) (o : Option A) (f : A → Outcome B) → o ≡ None → leads bs b (case_of o >>= f) ≡ HasNoCase
asks_in_vain bs b o f none = ap (leads bs b) (absent o f none) ∙ only_none (may_enter (block_at bs b))

-- a move to no target
no_target : (bs : List Block) (b : ℕ) → IsNoTarget bs b → may_enter (block_at bs b) ≡ false
no_target bs b (inl none) = ap may_enter none
no_target bs b (inr generate) = ap may_enter generate.1

leads_none : {A : Type 0} (bs : List Block) (b : ℕ) (o : Outcome A) → IsNoTarget bs b → leads bs b o ≡ HasNoCase
leads_none bs b o none = only_failed (may_enter (block_at bs b)) o (no_target bs b none)

leads_to_none : {A : Type 0} (bs : List Block) (a b : ℕ) (o : Outcome A) → Some a ≡ Some b → IsNoTarget bs b → leads bs a o ≡ HasNoCase
leads_to_none bs a b o to none = let same : a ≡ b = cc in leads_none bs a o (subst (IsNoTarget bs) (sym same) none)

-- A STATE WITHOUT A CASE

module _ (p : Parts) (n : ℕ) where
  -- who has no case at a block isn't refused there
  unrefused : (t : Transaction) (block : Block) (u : State) (read : List ℤ × List ℕ) (refused : Bool)
      → (if refused then Gives (place_by n (refused_placement block) (with_streams read.1 u)) else
      then_placed n (effect p n t block read.0 (with_streams read.1 u))) ≡ HasNoCase → refused ≡ false
  unrefused t block u read true none = absurd cc
  unrefused t block u read false none = refl

  -- where a transaction has no case at its one next block, neither has what tries it
  module _ (t : Transaction) (u : State) (otherwise : List ℕ → Outcome State) where
    abbrev answered_so : Bool × List ℕ → Outcome State
    answered_so answer = if answer.0 then otherwise answer.1 else meets_one p n t u

    by_operands : (block : Block) (read : Outcome (List ℤ × List ℕ)) → meets_one p n t u ≡ HasNoCase
        → (read >>= λ read. meets p n t block read.0 (with_streams read.1 u)) ≡ HasNoCase
        → ((read >>= λ read. Gives (refuses n block read.0 (with_streams read.1 u), read.1)) >>= answered_so) ≡ HasNoCase
    by_operands block (Gives read) met none =
        ap (λ refused. answered_so (refused, read.1)) (unrefused t block u read (refuses n block read.0 (with_streams read.1 u)) none) ∙ met
    by_operands block (EndsBy end) met none = absurd cc
    by_operands block HasNoCase met none = refl

    by_block : (block : Option Block) → meets_one p n t u ≡ HasNoCase → (case_of block >>= λ block. act p n t block u) ≡ HasNoCase
        → ((case_of block >>= λ block. evaluation_outcome (operands p (environment_of n t u) block u.streams)
        >>= λ read. Gives (refuses n block read.0 (with_streams read.1 u), read.1)) >>= answered_so) ≡ HasNoCase
    unfolding act
    by_block None met none = refl
    by_block (Some block) met none = by_operands block (evaluation_outcome (operands p (environment_of n t u) block u.streams)) met none

  tries_none : (t : Transaction) (b : ℕ) (otherwise : State → Outcome State) (s : State) → meets_one p n (towards b t) (turn_to n t b s)
      ≡ HasNoCase → tries p n t b otherwise s ≡ HasNoCase
  tries_none t b otherwise s none = by_block (towards b t) (turn_to n t b s) (λ streams. otherwise (with_streams streams s)) (block_at p.blocks b) none none

  goes_on_none : (s u : State) (own t : Transaction) → Attempt p s n own t u → meets_one p n t u ≡ HasNoCase → goes_on p n own (two_next p own) s ≡ HasNoCase
  goes_on_none s u own t (at_its_one one) none = ap (λ two. goes_on p n own two s) one ∙ none
  goes_on_none s u own t (at_the_first {pair = pair} two) none =
      ap (λ two. goes_on p n own two s) two ∙ tries_none own pair.0 (λ v. tries p n own pair.1 (λ w. Gives (place_by n JoinsRetryList w)) v) s none
  goes_on_none s u own t (at_the_second {pair = pair} {streams = streams} two refused) none =
      ap (λ two. goes_on p n own two s) two
      ∙ ap (λ o. o >>= λ answer. if answer.0 then tries p n own pair.1 (λ w. Gives (place_by n JoinsRetryList w)) (with_streams answer.1 s)
      else meets_one p n (towards pair.0 own) (turn_to n own pair.0 s)) refused
      ∙ tries_none own pair.1 (λ w. Gives (place_by n JoinsRetryList w)) (with_streams streams s) none

-- what an attempt of the active transaction comes to
stuck_before : (j : Job) (s u : State) (n : ℕ) (t : Transaction) → Attempts j s u n t → meets_one j.parts n t u ≡ HasNoCase → IsStuck j s
stuck_before j s u n t attempts none = (
  attempts.runs,
  step-none j.parts j.budget s attempts.runs
      (ap (λ a. scan j.parts a s) attempts.active
      ∙ ap (λ o. case_of o >>= λ own. goes_on j.parts n own (two_next j.parts own) s) attempts.found
      ∙ goes_on_none j.parts n s u attempts.own t attempts.attempt none),
)

-- at this block
stuck_at : (j : Job) (s u : State) (n : ℕ) (t : Transaction) (block : Block) → Tries j s u n t block → act j.parts n t block u ≡ HasNoCase → IsStuck j s
stuck_at j s u n t block tries none =
    stuck_before j s u n t tries.attempts
    (then_none (case_of (block_at j.parts.blocks t.next)) (λ block. act j.parts n t block u) block (ap case_of tries.before) none)

no_effect : (p : Parts) (n : ℕ) (t : Transaction) (block : Block) (values : List ℤ) (streams : List ℕ) (s : State)
    → operands p (environment_of n t s) block s.streams ≡ Value (values, streams) → refuses n block values (with_streams streams s) ≡ false
    → effect p n t block values (with_streams streams s) ≡ HasNoCase → act p n t block s ≡ HasNoCase
unfolding act
no_effect p n t block values streams s read free none =
    ap (λ o. evaluation_outcome o >>= λ read. meets p n t block read.0 (with_streams read.1 s)) read
    ∙ else_none (refuses n block values (with_streams streams s)) _ _ free (ap (then_placed n) none)

-- FACILITIES

pub release_of_anothers_stops : ReleaseOfAnothersStops
unfolding effect
release_of_anothers_stops j s u n f t tries owned =
    stuck_at j s u n t (blocks.Release f) tries
    (no_effect j.parts n t (blocks.Release f) [] u.streams u refl refl
    (asks_in_vain j.parts.blocks (t.next + 1) (release_by n (facility f u)) _ (ap (λ b. if b then Some (without_owner (facility f u)) else None) owned)))

seizes_nothing : (n : ℕ) (f : Facility) → is_owned_by n f ≡ true → seizure_by n f ≡ None
seizes_nothing n f owned = ap (λ b. if b then None else if is_idle f then Some (true, with_owner n f) else Some (false, f)) owned

pub seize_of_ones_own_stops : SeizeOfOnesOwnStops
unfolding effect
seize_of_ones_own_stops j s u n f t tries owned =
    stuck_at j s u n t (blocks.Seize f) tries
    (no_effect j.parts n t (blocks.Seize f) [] u.streams u refl (ap has_to_wait (seizes_nothing n (facility f u) owned))
    (asks_in_vain j.parts.blocks (t.next + 1) (seizure_by n (facility f u)) _ (seizes_nothing n (facility f u) owned)))

-- who owns one owns any
owning : (n f : ℕ) (facilities : List Facility) → is_owned_by n (at idle facilities f) ≡ true → owns_any n facilities ≡ true
owning n f [] owned = absurd (false≢true owned)
owning n zero (x ∷ xs) owned = or_left (is_owned_by n x) (owns_any n xs) owned
owning n (suc f) (x ∷ xs) owned = or_right (is_owned_by n x) (owns_any n xs) (owning n f xs owned)

not_below_0 : (k : ℕ) (b : Bool) → int_lt (pos k) (pos 0) ≡ b → b ≡ false
not_below_0 k true below = absurd (omega (arith, ints, below))
not_below_0 k false above = refl

pub terminate_while_owning_stops : TerminateWhileOwningStops
unfolding effect
terminate_while_owning_stops j s u n f k t by streams tries read owned =
    stuck_at j s u n t (blocks.Terminate by) tries
    (no_effect j.parts n t (blocks.Terminate by) (pos k ∷ []) streams u (ap (λ v. v then λ value. Value (single_value value)) read) refl
    (else_none (int_lt (pos k) (pos 0)) _ _ (not_below_0 k (int_lt (pos k) (pos 0)) refl)
    (only_failed (not (owns_any n u.entities.facilities)) _ (ap not (owning n f u.entities.facilities owned)))))

pub assemble_while_owning_stops : AssembleWhileOwningStops
unfolding effect
assemble_while_owning_stops j s u n f size t a tries more begun owned =
    stuck_at j s u n t (blocks.Assemble size) tries
    (no_effect j.parts n t (blocks.Assemble size) [] u.streams u refl refl
    (else_none (nat_le size 1) _ _ (lt-leb size 1 more)
    (ap (λ o. assemble_in j.parts.blocks n t size o (with_streams u.streams u)) begun
    ∙ only_failed (not (owns_any n u.entities.facilities)) _ (ap not (owning n f u.entities.facilities owned)))))

-- STORAGES AND QUEUES

pub leave_of_too_much_stops : LeaveOfTooMuchStops
unfolding effect
leave_of_too_much_stops j s u n t units tries few =
    stuck_at j s u n t (blocks.Leave units) tries
    (no_effect j.parts n t (blocks.Leave units) [] u.streams u refl refl
    (asks_in_vain j.parts.blocks (t.next + 1) (exit_of units.number (storage units.entity u)) _
    (ap (λ b. if b then Some (with_exits units.number (storage units.entity u)) else None)
    (lt-leb units.number (storage units.entity u).contents.content few))))

pub depart_of_too_much_stops : DepartOfTooMuchStops
unfolding effect
depart_of_too_much_stops j s u n t units tries few =
    stuck_at j s u n t (blocks.Depart units) tries
    (no_effect j.parts n t (blocks.Depart units) [] u.streams u refl refl
    (asks_in_vain j.parts.blocks (t.next + 1) (departure_of units.number (queue units.entity u)) _
    (ap (λ b. if b then Some (with_departures units.number (queue units.entity u)) else None) (lt-leb units.number (queue units.entity u).content few))))

enters_nothing : (n : ℕ) (s : Storage) → s.capacity < n → entry_of n s ≡ None
enters_nothing n s above = ap (λ b. if b then (if has_room n s then Some (true, with_entries n s) else Some (false, s)) else None) (lt-leb n s.capacity above)

pub enter_above_capacity_stops : EnterAboveCapacityStops
unfolding effect
enter_above_capacity_stops j s u n t units tries above =
    stuck_at j s u n t (blocks.Enter units) tries
    (no_effect j.parts n t (blocks.Enter units) [] u.streams u refl (ap has_to_wait (enters_nothing units.number (storage units.entity u) above))
    (asks_in_vain j.parts.blocks (t.next + 1) (entry_of units.number (storage units.entity u)) _ (enters_nothing units.number (storage units.entity u) above)))

-- MOVES

pub missing_block_stops : MissingBlockStops
missing_block_stops j s u n t attempts none = stuck_before j s u n t attempts (absent (block_at j.parts.blocks t.next) (λ block. act j.parts n t block u) none)

-- what arithmetic answered is given
answers : {A : Type 0} (r : Result A NumFault) (a : A) → r ≡ Ok a → evaluation_outcome (evaluation_of r) ≡ Gives a
answers r a is = ap (λ r. evaluation_outcome (evaluation_of r)) is

module _ (p : Parts) (n b : ℕ) (t : Transaction) (none : IsNoTarget p.blocks b) where
  comes_back_to_none : {A : Type 0} (value : Option ℤ) (f : ℤ → Outcome A) → option_map block_after value ≡ Some b
      → (case_of value >>= λ v. leads p.blocks (block_after v) (f v)) ≡ HasNoCase
  comes_back_to_none None f to = refl
  comes_back_to_none (Some v) f to = leads_to_none p.blocks (block_after v) b (f v) to none

  loops_to_none : {A : Type 0} (value : Option ℤ) (to_ : ℤ → ℕ) (f : ℤ → Outcome A)
      → IfSome value (λ old. difference_of old (pos 1) ≡ Ok (old -ℤ pos 1)) → option_map (λ old. to_ (old -ℤ pos 1)) value ≡ Some b
      → (case_of value >>= λ old. evaluation_outcome (evaluation_of (difference_of old (pos 1))) >>= λ left. leads p.blocks (to_ left) (f left)) ≡ HasNoCase
  loops_to_none None to_ f counts to = refl
  loops_to_none (Some old) to_ f counts to =
      then_none (evaluation_outcome (evaluation_of (difference_of old (pos 1)))) (λ left. leads p.blocks (to_ left) (f left))
      (old -ℤ pos 1) (answers (difference_of old (pos 1)) (old -ℤ pos 1) counts)
      (leads_to_none p.blocks (to_ (old -ℤ pos 1)) b (f (old -ℤ pos 1)) to none)

  assembles_to_none : (size : ℕ) (s : State) (one : Bool) (a : Option Assembly) (o : Outcome _)
      → (if not one && is_some a then None else Some (t.next + 1)) ≡ Some b
      → (if one then leads p.blocks (t.next + 1) o else assemble_in p.blocks n t size a s) ≡ HasNoCase
  assembles_to_none size s true a o to = leads_to_none p.blocks (t.next + 1) b o to none
  assembles_to_none size s false None o to = leads_to_none p.blocks (t.next + 1) b _ to none
  assembles_to_none size s false (Some a) o to = absurd cc

  falls_to_none : {A : Type 0} (o : Outcome A) → Some (t.next + 1) ≡ Some b → leads p.blocks (t.next + 1) o ≡ HasNoCase
  falls_to_none o to = leads_to_none p.blocks (t.next + 1) b o to none

  sets_to_none : (q : Option ℕ) (value : ℤ) (s : State) → Some (t.next + 1) ≡ Some b → plus p.blocks n t q value s ≡ HasNoCase
  sets_to_none None value s to = falls_to_none _ to
  sets_to_none (Some q) value s to = falls_to_none _ to

  no_move : (block : Block) (values : List ℤ) (s : State) → ComesToNoEnd p n t block values s → goes_on_to n t block values s ≡ Some b
      → effect p n t block values s ≡ HasNoCase
  unfolding effect
  no_move (blocks.Generate g) values s ends to = then_none (next_arrival p t.next g s) _ ends.0 ends.1 (falls_to_none _ to)
  no_move (blocks.Terminate by) values s ends to = absurd cc
  no_move (blocks.Advance time) values s ends to = then_none (moment_after s.clock (the_value values)) _ ends.0 ends.1 (falls_to_none _ to)
  no_move (blocks.Assign a) values s ends to = then_none _ _ ends.0 (answers _ ends.0 ends.1) (falls_to_none _ to)
  no_move (blocks.Test test) values s ends to = leads_to_none p.blocks _ b _ to none
  no_move (blocks.Gate gate) values s ends to = leads_to_none p.blocks _ b _ to none
  no_move (blocks.Transfer target) values s ends to = leads_to_none p.blocks _ b _ to none
  no_move (blocks.TransferByFraction f) values s ends to = leads_to_none p.blocks _ b _ to none
  no_move (blocks.TransferBoth two) values s ends to = absurd cc
  no_move (blocks.TransferToSubroutine c) values s ends to = leads_to_none p.blocks _ b _ to none
  no_move (blocks.TransferByParameter q) values s ends to = comes_back_to_none (parameter_at n q s.transactions) _ to
  no_move (blocks.Loop l) values s ends to = loops_to_none (parameter_at n l.parameter s.transactions) (loop_target t.next l.target) _ ends to
  no_move (blocks.Split c) values s ends to =
      if_none (nat_le (live_count s.transactions + c.copies) 65536) _ (EndsBy Live) (le-leb _ 65536 ends) (falls_to_none _ to)
  no_move (blocks.Assemble size) values s ends to = assembles_to_none size s (nat_le size 1) (assembly_at t.next t.set s) _ to
  no_move (blocks.Link l) values s ends to = absurd cc
  no_move (blocks.Savevalue a) values s ends to = then_none _ _ ends.0 (answers _ ends.0 ends.1) (falls_to_none _ to)
  no_move (blocks.Mark None) values s ends to = falls_to_none _ to
  no_move (blocks.Mark (Some q)) values s ends to = falls_to_none _ to
  no_move (blocks.Priority a) values s ends to = if_none _ _ (EndsBy Number) ends (falls_to_none _ to)
  no_move (blocks.Plus a) values s ends to = sets_to_none a.parameter (the_value values) s to
  no_move (blocks.Tabulate e) values s ends to = then_none _ _ ends.0 (answers _ ends.0 ends.1) (falls_to_none _ to)
  no_move block values s ends to = falls_to_none _ to

pub move_to_no_target_stops : MoveToNoTargetStops
move_to_no_target_stops j s u n b t block values streams tries read free ends to none =
    stuck_at j s u n t block tries
    (no_effect j.parts n t block values streams u read free (no_move j.parts n b t none block values (with_streams streams u) ends to))

leads_either : {A : Type 0} (bs : List Block) (a b c : ℕ) (o : Outcome A) → (a ≡ c) ⊎ (b ≡ c) → IsNoTarget bs c → leads bs a (leads bs b o) ≡ HasNoCase
leads_either bs a b c o (inl first) none = leads_none bs a (leads bs b o) (subst (IsNoTarget bs) (sym first) none)
leads_either bs a b c o (inr second) none = ap (leads bs a) (leads_none bs b o (subst (IsNoTarget bs) (sym second) none))
    ∙ only_none (may_enter (block_at bs a))

pub choice_of_no_target_stops : ChoiceOfNoTargetStops
unfolding effect
choice_of_no_target_stops j s u n b t two tries is none =
    stuck_at j s u n t (blocks.TransferBoth two) tries
    (no_effect j.parts n t (blocks.TransferBoth two) [] u.streams u refl refl
    (leads_either j.parts.blocks (leads_to t.next (goes_or_falls two.first)) two.second b _ is none))

others_none : {A : Type 0} (bs : List Block) (others b : ℕ) (o : Outcome A) → 0 < others → IsNoTarget bs b → others_lead bs others b o ≡ HasNoCase
others_none bs others b o some none = else_none (others == 0) o (leads bs b o) (ne_eqb others 0 (λ zero. omega (arith, some, zero))) (leads_none bs b o none)

pub copies_to_no_target_stop : CopiesToNoTargetStop
unfolding effect
copies_to_no_target_stop j s u n t c tries some few none =
    stuck_at j s u n t (blocks.Split c) tries
    (no_effect j.parts n t (blocks.Split c) [] u.streams u refl refl
    (if_none (nat_le (live_count u.transactions + c.copies) 65536) _ (EndsBy Live) (le-leb _ 65536 few)
    (ap (leads j.parts.blocks (t.next + 1)) (others_none j.parts.blocks c.copies (leads_to t.next (goes_or_falls c.target)) _ some none)
    ∙ only_none (may_enter (block_at j.parts.blocks (t.next + 1))))))

pub members_to_no_target_stop : MembersToNoTargetStop
unfolding effect
members_to_no_target_stop j s u n t taken tries some none =
    stuck_at j s u n t (blocks.Unlink taken) tries
    (no_effect j.parts n t (blocks.Unlink taken) [] u.streams u refl refl
    (ap (leads j.parts.blocks (t.next + 1)) (others_none j.parts.blocks (taken_by taken u) taken.target _ some none)
    ∙ only_none (may_enter (block_at j.parts.blocks (t.next + 1)))))

-- PARAMETERS THAT AREN'T SET

pub loop_by_unset_stops : LoopByUnsetStops
unfolding effect
loop_by_unset_stops j s u n t l tries unset =
    stuck_at j s u n t (blocks.Loop l) tries
    (no_effect j.parts n t (blocks.Loop l) [] u.streams u refl refl (absent (parameter_at n l.parameter u.transactions) _ unset))

pub return_by_unset_stops : ReturnByUnsetStops
unfolding effect
return_by_unset_stops j s u n q t tries unset =
    stuck_at j s u n t (blocks.TransferByParameter q) tries
    (no_effect j.parts n t (blocks.TransferByParameter q) [] u.streams u refl refl (absent (parameter_at n q u.transactions) _ unset))

module _ (p : Parts) (env : Environment) where
  the_only : (o : Operand) (streams : List ℕ) → OneLacksValue p env (o ∷ []) streams → operand_value p env o streams ≡ Unset
  the_only o streams (inl none) = lacks_value p env o streams none
  the_only o streams (inr later) = absurd later.2

  in_order : {A : Type 0} (a b : Operand) (streams : List ℕ) (f : ℤ × List ℕ → ℤ × List ℕ → Evaluation A)
      → OneLacksValue p env (a ∷ b ∷ []) streams → (operand_value p env a streams then λ x. operand_value p env b x.1 then f x) ≡ Unset
  in_order a b streams f (inl none) = ap (λ v. v then λ x. operand_value p env b x.1 then f x) (lacks_value p env a streams none)
  in_order a b streams f (inr later) =
      ap (λ v. v then λ x. operand_value p env b x.1 then f x) later.1
      ∙ ap (λ v. v then f later.0) (the_only b later.0.1 later.2)

  single : (o : Operand) (streams : List ℕ) → OneLacksValue p env (o ∷ []) streams → one_operand p env (Some o) streams ≡ Unset
  single o streams lacks = ap (λ v. v then λ value. Value (single_value value)) (the_only o streams lacks)

  of_table : (o : Option Operand) (streams : List ℕ) → OneLacksValue p env (option_to_list o) streams → one_operand p env o streams ≡ Unset
  of_table None streams lacks = absurd lacks
  of_table (Some o) streams lacks = single o streams lacks

  no_time : (time : Spread) (streams : List ℕ) → OneLacksValue p env (time.mean ∷ time.half ∷ []) streams → drawn_time p env time streams ≡ Unset
  no_time time streams lacks = in_order time.mean time.half streams _ lacks

  no_moment : (time : Spread) (clock : ℤ) (streams : List ℕ) → OneLacksValue p env (time.mean ∷ time.half ∷ []) streams
      → drawn_moment p env time clock streams ≡ HasNoCase
  no_moment time clock streams lacks =
      ap (λ v. evaluation_outcome v >>= λ d. moment_after clock d.0 >>= λ moment. Gives (moment, d.1)) (no_time time streams lacks)

  no_values : (block : Block) (streams : List ℕ) → is_generate (Some block) ≡ false
      → OneLacksValue p env (evaluated_at p.entities block) streams → operands p env block streams ≡ Unset
  no_values (blocks.Generate g) streams other lacks = absurd cc
  no_values (blocks.Terminate by) streams other lacks = single by streams lacks
  no_values (blocks.Advance time) streams other lacks = ap (λ v. v then λ time. Value (single_value time)) (no_time time streams lacks)
  no_values (blocks.Assign a) streams other lacks = single a.value streams lacks
  no_values (blocks.Test test) streams other lacks = in_order test.left test.right streams _ lacks
  no_values (blocks.Savevalue a) streams other lacks = single a.value streams lacks
  no_values (blocks.Priority a) streams other lacks = single a.value streams lacks
  no_values (blocks.Plus a) streams other lacks = single a.value streams lacks
  no_values (blocks.Tabulate e) streams other lacks = of_table (operand_at p.entities e) streams lacks
  no_values block streams other lacks = absurd lacks

pub operand_without_value_stops : OperandWithoutValueStops
unfolding act
operand_without_value_stops j s u n t block tries other lacks =
    stuck_at j s u n t block tries
    (ap (λ o. evaluation_outcome o >>= λ read. meets j.parts n t block read.0 (with_streams read.1 u))
    (no_values j.parts (environment_of n t u) block u.streams other lacks))

pub interval_without_value_stops : IntervalWithoutValueStops
unfolding effect
interval_without_value_stops j s u n t g tries owed lacks =
    stuck_at j s u n t (blocks.Generate g) tries
    (no_effect j.parts n t (blocks.Generate g) [] u.streams u refl refl
    (bind_none _ _ (if_none (is_owed g.limit (at 0 u.scheduled t.next)) _ _ owed
    (bind_none _ _ (no_moment j.parts (environment_of_next g.priority u) g.interval u.clock u.streams lacks)))))

-- THE START

module _ (p : Parts) (g : Generate) (after : List Block) (s : State) (first : g.first ≡ None)
    (lacks : OneLacksValue p (environment_of_next g.priority s) (g.interval.mean ∷ g.interval.half ∷ []) s.streams) where
  arrives_never : (b : ℕ) → first_arrival p b (blocks.Generate g) s ≡ HasNoCase
  arrives_never b =
      bind_none _ _ (ap (first_moment p g s) first ∙ no_moment p (environment_of_next g.priority s) g.interval s.clock s.streams lacks)

  goes_wrong : (before behind : State → Outcome State) (o : Outcome State) → ((u : State) → before u ≡ Gives s → behind u ≡ HasNoCase)
      → (o >>= before) ≡ Gives s → (o >>= behind) ≡ HasNoCase
  goes_wrong before behind (Gives u) then_ is = then_ u is
  goes_wrong before behind (EndsBy end) then_ is = absurd cc
  goes_wrong before behind HasNoCase then_ is = absurd cc

  never_arrive : (b : ℕ) (before : List Block) (from : State) → first_arrivals p b before from ≡ Gives s
      → first_arrivals p b (before ++ blocks.Generate g ∷ after) from ≡ HasNoCase
  unfolding first_arrivals
  never_arrive b [] from is =
      let same : from ≡ s = cc in
      subst (λ x. (first_arrival p b (blocks.Generate g) x >>= first_arrivals p (b + 1) after) ≡ HasNoCase) (sym same)
      (ap (λ o. o >>= first_arrivals p (b + 1) after) (arrives_never b))
  never_arrive b (block ∷ before) from is =
      goes_wrong (first_arrivals p (b + 1) before) (first_arrivals p (b + 1) (before ++ blocks.Generate g ∷ after))
      (first_arrival p b block from) (λ u there. never_arrive (b + 1) before u there) is

pub arrival_without_value_has_no_start : ArrivalWithoutValueHasNoStart
arrival_without_value_has_no_start j before after g s are arrive first lacks =
    let none = nothing j.parts j.count j.streams in
    ap (λ bs. start_outcome none (first_arrivals j.parts 1 bs none)) are
    ∙ ap (start_outcome none) (never_arrive j.parts g after s first lacks 1 before none arrive)
