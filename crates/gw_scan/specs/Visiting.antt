-- The visit of a machine's active transaction to its next block: what the block may rely on, and what it makes.
use Rattle.std.specs.Prelude.{◌≡◌, ℕ, ℤ, ◌+◌, ◌≤◌, List, Option, Some, Bool, not, ◌&&◌, is_none, if◌then◌else◌, Result}
use Rattle.gw_assemblies.specs.declared.assemblies.Assembly.{Assembly as HeldAssembly}
use Rattle.gw_object.specs.declared.blocks.Block.{Block}
use Rattle.gw_object.specs.declared.blocks.Operand.{Operand}
use Rattle.gw_object.specs.declared.blocks.Unlink.{Unlink}
use Rattle.gw_rules.specs.Environment.{Environment}
use Rattle.gw_rules.specs.Values.{operand_value, with_first}
use Rattle.gw_rules.specs.declared.ends.PlusEnd.{PlusEnd}
use Rattle.gw_machine.specs.Coherence.{IsActive, IsOf, IsPassing, IsRunning}
use Rattle.gw_machine.specs.Configuration.{Configuration}
use Rattle.gw_machine.specs.Evaluating.{value_outcome}
use Rattle.gw_machine.specs.Slots.{greatest_set, set_by}
use Rattle.gw_machine.specs.View.{assembly_of, state_of, entity_count}
use Rattle.gw_machine.specs.declared.machine.Made.{Made}
use Rattle.gw_object.specs.declared.parts.Parts.{Parts}
use Rattle.gw_machine.specs.Leaving.{BecomesOnOk}
use Rattle.gw_scan.specs.Makes.{MakesFrom, MakesOnOk}
use Rattle.gw_scan.specs.declared.visit.Visit.{Visit}
use Rattle.gw_step.specs.Asks.{Asks, IsServed, Leads, MayLead}
use Rattle.gw_step.specs.Blocks.{act, admission, assemble_first, assemble_other, assembly_at, hand_over, joined_by_one, led_by, plus, tabulate}
use Rattle.gw_step.specs.Blocks.{then_placed, transfer, unlink_members, until}
use Rattle.gw_step.specs.Changes.{arrives, assign_to, copies_made, count_down, enter_next, enters_and_falls}
use Rattle.gw_step.specs.Operands.{MayMeet, MayStep, OperandsFit}
use Rattle.gw_step.specs.Outcome.{Outcome, Gives}
use Rattle.gw_step.specs.Placing.{place_by}
use Rattle.gw_step.specs.State.{Assembly, State, delay_list, with_streams}
use Rattle.gw_step.specs.Step.{meets_one}
use Rattle.gw_step.specs.Times.{environment_of}
use Rattle.gw_step.specs.Turning.{turn_to, two_next}
use Rattle.gw_step.specs.declared.placement.Placement.{Placement}
use Rattle.gw_step.specs.declared.placement.Placement.TheVariants.{JoinsRetryList, LeavesModel}
use Rattle.gw_transactions.specs.declared.Transaction.{Transaction}
use Rattle.gw_transactions.specs.Transactions.{attributes_at}

-- WHAT A STEP MAY RELY ON

-- once the transaction n, which is t, has turned to this block, its next block may be met, wherever the streams are
pub record MayTurn (p : Parts) (n : ℕ) (t : Transaction) (to : ℕ) (s : State) : Type 0 where
  pub values : (streams : List ℕ) → MayStep p (turn_to n t to (with_streams streams s))
  pub served : (streams : List ℕ) → IsServed p (turn_to n t to (with_streams streams s))

-- an active transaction with two next blocks may turn to either
abbrev pub MayTurnToBoth : Parts → State → Type 0
MayTurnToBoth p s =
    (n : ℕ) (t : Transaction) (pair : ℕ × ℕ) → s.lists.active ≡ Some n → attributes_at n s.transactions ≡ Some t
    → two_next p t ≡ Some pair → MayTurn p n t pair.0 s × MayTurn p n t pair.1 s

-- a machine of this object runs, has a slot for each parameter that a block sets, and its next block may be met, or each of two
pub record IsReady (p : Parts) (m : Configuration) : Type 0 where
  pub running : IsRunning p.blocks m
  pub own : IsOf p m
  pub slots : m.last ≡ greatest_set p.blocks
  pub values : MayStep p (state_of m)
  pub served : IsServed p (state_of m)
  pub turns : MayTurnToBoth p (state_of m)

-- WHAT A BLOCK MAY RELY ON

-- the machine's active transaction makes the visit
abbrev pub IsVisit : Visit → Configuration → Type 0
IsVisit v m = IsActive v.verified.now.blocks m v.tx v.transaction

-- the same, where the block has done its effect on an entity, and the entry is still to come
abbrev pub IsEntering : Visit → Configuration → Type 0
IsEntering v m = IsPassing v.verified.now.blocks m v.tx v.transaction

-- the transaction may go from its block to the one of this number
abbrev pub MayGo : Visit → ℕ → Type 0
MayGo v b = MayLead v.verified.now.blocks b

-- the transaction may fall from its block to the one after
abbrev pub MayFall : Visit → Type 0
MayFall v = MayGo v (v.transaction.next + 1)

-- the visit meets this block on a machine of its object, and what the block asks for is there
pub record Meets (v : Visit) (m : Configuration) (block : Block) : Type 0 where
  pub visit : IsVisit v m
  pub own : IsOf v.verified.now m
  pub values : MayMeet v.verified.now (state_of m) v.tx.number v.transaction block
  pub operands : OperandsFit (entity_count m) block
  pub slot : set_by block ≤ m.last
  pub asks : Asks v.verified.now v.tx.number (state_of m) block
  pub leads : Leads v.verified.now.blocks v.transaction.next block

-- the visit may be made on a machine of its object: what its one next block evaluates and asks for is there
pub record MayMake (v : Visit) (m : Configuration) : Type 0 where
  pub visit : IsVisit v m
  pub own : IsOf v.verified.now m
  pub slots : m.last ≡ greatest_set v.verified.now.blocks
  pub values : MayStep v.verified.now (state_of m)
  pub served : IsServed v.verified.now (state_of m)

-- the same, once the transaction has turned to this block
pub record MayTry (v : Visit) (to : ℕ) (m : Configuration) : Type 0 where
  pub visit : IsVisit v m
  pub own : IsOf v.verified.now m
  pub slots : m.last ≡ greatest_set v.verified.now.blocks
  pub turns : MayTurn v.verified.now v.tx.number v.transaction to (state_of m)

-- what the block's operands read
abbrev pub environment_in : Visit → Configuration → Environment
environment_in v m = environment_of v.tx.number v.transaction (state_of m)

-- an operand was evaluated for the visit, and moved the streams
abbrev pub EvaluatesFor : Visit → Operand → Configuration → Result ℤ PlusEnd → List ℕ → List ℕ → Type 0
EvaluatesFor v operand m result old new = operand_value v.verified.now (environment_in v m) operand old ≡ value_outcome result new

-- the assembly of the transaction's set at its next block, if one has begun there
abbrev pub assembly_met : Visit → Configuration → Option Assembly
assembly_met v m = assembly_at v.transaction.next v.transaction.set (state_of m)

-- WHAT IT MAKES

-- the transaction enters its next block, and the one after is now this one
abbrev pub after_entry : Visit → ℕ → State → State
after_entry v next s = enter_next v.tx.number v.transaction next s

-- the transaction enters its next block, and falls to the one after
abbrev pub after_fall : Visit → State → State
after_fall v s = enters_and_falls v.tx.number v.transaction s

-- the transaction enters its next block, and the one after is now this one; a parameter of it has this value before
abbrev pub after_assignment : Visit → ℕ → ℕ → ℤ → State → State
after_assignment v next p value s = after_entry v next (assign_to v.tx.number p value s)

-- the transaction enters and falls, and then a facility is handed over to the first of its delay list
abbrev pub falls_and_hands_over : ℕ → Visit → State → State
falls_and_hands_over f v s = hand_over v.verified.now.blocks f (delay_list f s) (after_fall v s)

-- the transaction enters and falls, and then those are admitted to a storage who wait for it
abbrev pub falls_and_admits : ℕ → Visit → State → State
falls_and_admits e v s = admission v.verified.now.blocks e (delay_list e s) (after_fall v s)

-- the transaction enters and falls, and then so many copies of it are made, which go to this block
abbrev pub falls_and_copies : ℕ → ℕ → Visit → State → State
falls_and_copies copies target v s =
    copies_made copies v.tx.number (record v.transaction { current = v.transaction.next }) target (after_fall v s)

-- the transaction enters and falls, and then so many members are taken from a user chain
abbrev pub falls_and_unlinks : ℕ → Unlink → Visit → State → State
falls_and_unlinks count u v s = unlink_members count u.chain u.target (after_fall v s)

-- the transaction enters, so much is counted down, and it leaves the model
abbrev pub enters_and_leaves : ℤ → Visit → State → State
enters_and_leaves by v s = place_by v.tx.number LeavesModel (count_down by (after_entry v v.transaction.next s))

-- the same, after draws that left the streams here
abbrev pub leaves_after : List ℕ → ℤ → Visit → State → State
leaves_after streams by v s = enters_and_leaves by v (with_streams streams s)

-- the transaction enters, one more has come to an assembly, and it leaves the model
abbrev pub joins_and_leaves : HeldAssembly → Visit → State → State
joins_and_leaves a v s = place_by v.tx.number LeavesModel (joined_by_one (assembly_of a) (after_entry v v.transaction.next s))

-- the transaction waits on the retry list, after draws that left the streams here
abbrev pub retries_after : List ℕ → Visit → State → State
retries_after streams v s = place_by v.tx.number JoinsRetryList (with_streams streams s)

-- the transaction meets its next block
abbrev pub meets_its_next : Visit → State → Outcome State
meets_its_next v s = meets_one v.verified.now v.tx.number v.transaction s

-- a block makes what the rules say of it
abbrev pub Acts : Made → Visit → Block → Configuration → Configuration → Type 0
Acts made v block old new = MakesFrom made (act v.verified.now v.tx.number v.transaction block) old new

-- the same; or there was no memory for it, and nothing changed
abbrev pub ActsOnOk : {E : Type 0} → Result Made E → Visit → Block → Configuration → Configuration → Type 0
ActsOnOk result v block old new = MakesOnOk result (act v.verified.now v.tx.number v.transaction block) old new

-- what entering and being placed come to by an effect, which is one for blocks and a transaction of a number
abbrev pub entry : (List Block → ℕ → Transaction → State → Outcome (State × Placement)) → Visit → State → Outcome State
entry effect v s = then_placed v.tx.number (effect v.verified.now.blocks v.tx.number v.transaction s)

-- the same, after draws that left the streams here
abbrev pub entry_after : List ℕ → (List Block → ℕ → Transaction → State → Outcome (State × Placement)) → Visit → State → Outcome State
entry_after streams effect v s = entry effect v (with_streams streams s)

-- what a PLUS comes to so by a value, and a TABULATE
abbrev pub plus_after : List ℕ → Option ℕ → ℤ → Visit → State → Outcome State
plus_after streams parameter value v s = entry_after streams (λ bs n t. plus bs n t parameter value) v s

abbrev pub tabulate_after : List ℕ → ℕ → ℤ → Visit → State → Outcome State
tabulate_after streams table value v s = entry_after streams (λ bs n t. tabulate bs n t table value) v s

-- what an ASSEMBLE comes to for the first of a set, for which so many more are missing, and for another one
abbrev pub first_assembles : ℕ → Visit → State → Outcome State
first_assembles missing v s = entry (λ bs n t. assemble_first bs n t missing) v s

abbrev pub other_assembles : HeldAssembly → Visit → State → Outcome State
other_assembles a v s = entry (λ bs n t. assemble_other n t (assembly_of a)) v s

-- the transaction enters with the streams here, falls to the block after, and is placed; or there was no memory for it, and nothing changed
abbrev pub PassesOnOk : {E : Type 0} → Result (Unit {0}) E → Visit → List ℕ → Placement → Configuration → Configuration → Type 0
PassesOnOk result v streams placement old new =
    BecomesOnOk result (λ s. place_by v.tx.number placement (after_fall v (with_streams streams s))) old new

-- the same, where the streams stay
abbrev pub PassesUndrawn : {E : Type 0} → Result (Unit {0}) E → Visit → Placement → Configuration → Configuration → Type 0
PassesUndrawn result v placement old new = PassesOnOk result v old.streams placement old new

-- the transaction enters with the streams here, falls to the block after, and rests until a moment; or there was no memory for it
abbrev pub PassesUntil : {E : Type 0} → Result (Unit {0}) E → Visit → List ℕ → ℤ → Configuration → Configuration → Type 0
PassesUntil result v streams moment old new = PassesOnOk result v streams (until old.clock moment) old new

-- the same, where the first stream is here
abbrev pub PassesWithin : {E : Type 0} → Result (Unit {0}) E → Visit → ℕ → ℤ → Configuration → Configuration → Type 0
PassesWithin result v stream moment old new = PassesUntil result v (with_first stream old.streams) moment old new

-- the same visit, by a transaction of this priority
abbrev pub with_priority : ℤ → Visit → Visit
with_priority priority v = record v { transaction = record v.transaction { priority = priority } }

-- the same visit, by a transaction of this mark time
abbrev pub with_mark : ℤ → Visit → Visit
with_mark mark v = record v { transaction = record v.transaction { mark = mark } }

-- the next arrival at a GENERATE is scheduled for a moment, after draws that left the streams here; and this
-- transaction enters and falls, its mark time being the clock
abbrev pub arrival_with : List ℕ → ℤ → ℤ → Visit → State → State
arrival_with streams priority moment v s =
    after_fall (with_mark s.clock v) (arrives v.transaction.next priority moment (with_streams streams s))

-- the same, after a draw that left the first stream here
abbrev pub arrival_drawn : ℕ → ℤ → ℤ → Visit → State → State
arrival_drawn stream priority moment v s = arrival_with (with_first stream s.streams) priority moment v s

-- the transaction goes to the next block of a TEST or a GATE where it is so, else to the other one; without another one it waits on the retry list
abbrev pub passes_or_retries : Visit → Option ℕ → Bool → State → Outcome State
passes_or_retries v otherwise so s =
    if is_none otherwise && not so
    then Gives (place_by v.tx.number JoinsRetryList s)
    else entry (λ bs n t. transfer bs n t (led_by t.next otherwise so)) v s

-- the same, after draws that left the streams here
abbrev pub passes_after : List ℕ → Visit → Option ℕ → Bool → State → Outcome State
passes_after streams v otherwise so s = passes_or_retries v otherwise so (with_streams streams s)
