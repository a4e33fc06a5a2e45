-- What trying one of two next blocks comes to.
use Rattle.std.specs.Prelude.{◌≡◌, ◌≢◌, ℕ, List, Bool, true, false, Option, Some, None, Result, Ok, Err, if◌then◌else◌}
use Rattle.std.specs.Borrow.{Bor}
use Rattle.std.specs.Option.{option_map_or}
use Rattle.gw_object.specs.declared.blocks.Block.{Block}
use Rattle.gw_machine.specs.Configuration.{Configuration}
use Rattle.gw_machine.specs.Leaving.{Becomes, Stays}
use Rattle.gw_machine.specs.View.{state_of}
use Rattle.gw_machine.specs.declared.machine.Made.{Made}
use Rattle.gw_machine.specs.declared.machine.Made.TheVariants.{Step, Last, Ends}
use Rattle.gw_members.specs.declared.tx.Tx.{Tx}
use Rattle.gw_object.specs.declared.parts.Parts.{Parts}
use Rattle.gw_rules.specs.Values.{operands}
use Rattle.gw_rules.specs.declared.ends.PlusEnd.{PlusEnd}
use Rattle.gw_scan.specs.Makes.{MakesFrom}
use Rattle.gw_scan.specs.Visiting.{IsVisit, MayMake, meets_its_next}
use Rattle.gw_scan.specs.declared.both.Before.{Before}
use Rattle.gw_scan.specs.declared.visit.Visit.{Visit}
use Rattle.gw_step.specs.Job.{IsFinal}
use Rattle.gw_step.specs.Outcome.{Outcome, Gives, EndsBy, ◌>>=◌, end_by, evaluation_outcome}
use Rattle.gw_step.specs.Placing.{place_by}
use Rattle.gw_step.specs.State.{State, with_streams}
use Rattle.gw_step.specs.Step.{goes_on, meets_one, refusal, refusal_by, tries, tries_both}
use Rattle.gw_step.specs.Times.{environment_of}
use Rattle.gw_step.specs.Turning.{towards, turn_to, two_next}
use Rattle.gw_step.specs.declared.placement.Placement.TheVariants.{JoinsRetryList}
use Rattle.gw_transactions.specs.declared.Transaction.{Transaction}
use Rattle.gw_transactions.specs.Transactions.{attributes_at}

-- THE VISIT

-- the same visit, to this block
abbrev pub visit_towards : ℕ → Visit → Visit
visit_towards to v = record v { transaction = towards to v.transaction }

-- the transaction meets this block, to which it has turned
abbrev pub meets_at : Visit → ℕ → State → Outcome State
meets_at v to s = meets_one v.verified.now v.tx.number (towards to v.transaction) s

-- it tries this block; or two, one after the other
abbrev pub tries_at : Visit → ℕ → (State → Outcome State) → State → Outcome State
tries_at v to otherwise s = tries v.verified.now v.tx.number v.transaction to otherwise s

abbrev pub tries_two : Visit → ℕ × ℕ → State → Outcome State
tries_two v pair s = tries_both v.verified.now v.tx.number v.transaction pair s

-- it goes on to its one next block, or to one of two
abbrev pub goes_from : Visit → State → Outcome State
goes_from v s = goes_on v.verified.now v.tx.number v.transaction (two_next v.verified.now v.transaction) s

-- WHETHER A BLOCK REFUSES

-- the answer of a block that lets everybody enter to n, which is t and meets it next, and the streams after its operands
abbrev pub no_refusal : Parts → ℕ → Transaction → Block → State → Outcome (Bool × List ℕ)
no_refusal p n t block s =
    evaluation_outcome (operands p (environment_of n t s) block s.streams) >>= λ read. Gives (false, read.1)

-- what was answered of a refusal, with the streams as they are then
abbrev pub TellsRefusal : Result Bool PlusEnd → List ℕ → Visit → Block → State → Type 0
TellsRefusal (Ok true) streams v block s =
    refusal_by v.verified.now v.tx.number v.transaction block s ≡ Gives (true, streams)
TellsRefusal (Ok false) streams v block s =
    (refusal_by v.verified.now v.tx.number v.transaction block s ≡ no_refusal v.verified.now v.tx.number v.transaction block s)
    × (streams ≡ s.streams)
TellsRefusal (Err end) streams v block s =
    (refusal_by v.verified.now v.tx.number v.transaction block s ≡ EndsBy (end_by end)) × (streams ≡ s.streams)

-- the transaction of a visit meets its next block where that doesn't refuse it; refused it does something else, and the draws stand
abbrev pub meets_or : (List ℕ → Outcome State) → Visit → State → Outcome State
meets_or otherwise v s =
    refusal v.verified.now v.tx.number v.transaction s >>= λ answer.
    if answer.0 then otherwise answer.1 else meets_its_next v s

-- what was answered of the refusal by the next block of a visit
abbrev pub TellsOfNext : Result Bool PlusEnd → Visit → Configuration → Configuration → Type 0
TellsOfNext (Ok true) v old new =
    refusal v.verified.now v.tx.number v.transaction (state_of old) ≡ Gives (true, new.streams)
TellsOfNext (Ok false) v old new =
    ((otherwise : List ℕ → Outcome State) → meets_or otherwise v (state_of old) ≡ meets_its_next v (state_of old))
    × (new.streams ≡ old.streams)
TellsOfNext (Err end) v old new =
    (refusal v.verified.now v.tx.number v.transaction (state_of old) ≡ EndsBy (end_by end)) × (new.streams ≡ old.streams)

-- TURNING

-- the machine is as it was but for the streams
abbrev pub KeepsButStreams : Configuration → Configuration → Type 0
KeepsButStreams old new = Becomes (with_streams new.streams (state_of old)) old new

-- the transaction has turned to a block, and the streams are others
abbrev pub HasTurned : Visit → ℕ → Configuration → Configuration → Type 0
HasTurned v to old new =
    Becomes (turn_to v.tx.number v.transaction to (with_streams new.streams (state_of old))) old new
    × MayMake (visit_towards to v) new

-- the transaction has turned to a block, which it meets then; or is refused by it, and the streams alone have changed;
-- or the evaluation of that ends the job so
abbrev pub TurnsTo : Result Bool PlusEnd → Visit → ℕ → Configuration → Configuration → Type 0
TurnsTo (Ok true) v to old new =
    ((otherwise : State → Outcome State) → tries_at v to otherwise (state_of old) ≡ meets_at v to (state_of new))
    × HasTurned v to old new
TurnsTo (Ok false) v to old new =
    ((otherwise : State → Outcome State) → tries_at v to otherwise (state_of old) ≡ otherwise (state_of new))
    × KeepsButStreams old new × IsVisit v new
TurnsTo (Err end) v to old new =
    ((otherwise : State → Outcome State) → tries_at v to otherwise (state_of old) ≡ EndsBy (end_by end))
    × KeepsButStreams old new

-- the same of the first of two blocks that doesn't refuse it; refused by both it would rest on the retry list
abbrev pub TurnsToOne : Result Bool PlusEnd → Visit → ℕ × ℕ → Configuration → Configuration → Type 0
TurnsToOne (Ok true) v pair old new =
    (to : ℕ) × (tries_two v pair (state_of old) ≡ meets_at v to (state_of new)) × HasTurned v to old new
TurnsToOne (Ok false) v pair old new =
    (tries_two v pair (state_of old) ≡ Gives (place_by v.tx.number JoinsRetryList (state_of new)))
    × KeepsButStreams old new × IsVisit v new
TurnsToOne (Err end) v pair old new =
    (tries_two v pair (state_of old) ≡ EndsBy (end_by end)) × KeepsButStreams old new

-- a transaction has the attributes still that it had before it might turn, unless the block that it is in was its next one
abbrev pub IsAsBefore : Tx → Transaction → Configuration → Type 0
IsAsBefore tx t m = t.current ≢ t.next → attributes_at tx.number m.transactions.txs ≡ Some t

-- TURNING BACK

-- the transaction n has the block that it is in as its next one again
abbrev pub turned_back : ℕ → State → State
turned_back n s = option_map_or (λ t. turn_to n t t.current s) (attributes_at n s.transactions) s

-- the active one has; where nobody is active nothing changes
abbrev pub active_back : State → State
active_back s = option_map_or (λ n. turned_back n s) s.lists.active s

-- what has to be undone is, with the streams that were before
abbrev pub undo_from : Before → State → State
undo_from before s = if before.turned then with_streams before.streams (active_back s) else s

-- GOING ON

-- the transaction has one next block, which it meets then, and what was done for that can be undone
pub record HasOneNext (v : Visit) (outcome : Outcome State) (before : Before) (old new : Configuration) (to : ℕ) : Type 0 where
  pub meets : outcome ≡ meets_at v to (state_of new)
  pub undo : undo_from before (state_of new) ≡ state_of old
  pub last : new.last ≡ old.last
  pub may : MayMake (visit_towards to v) new

-- so it is; or it is done, by what brings no named end; or there was no memory for it, and the machine stays in its state
abbrev pub GoesOn : {E : Type 0} → Result (Option Made) E → Visit → (State → Outcome State) → Before → Configuration → Configuration → Type 0
GoesOn (Ok None) v outcome before old new = (to : ℕ) × HasOneNext v (outcome (state_of old)) before old new to
GoesOn (Ok (Some made)) v outcome before old new =
    MakesFrom made outcome old new × (before.turned ≡ false) × (made ≡ Step → new.ended ≡ old.ended)
GoesOn (Err memory) v outcome before old new = Stays old new × (before.turned ≡ false)

-- the visit of a transaction by its handle
abbrev pub visit_of : Bor Parts → Tx → Transaction → Visit
visit_of verified tx t = record { verified = verified; tx = tx; transaction = t }

-- the transaction of a handle goes on so, if it is there
abbrev pub GoesOnByHandle : {E : Type 0} → Result (Option Made) E → Bor Parts → Tx → Before → Configuration → Configuration → Type 0
GoesOnByHandle result verified tx before old new =
    (t : Transaction) → attributes_at tx.number old.transactions.txs ≡ Some t
    → GoesOn result (visit_of verified tx t) (goes_from (visit_of verified tx t)) before old new

-- what was done gives the new state; or it is an end, or there was no memory for it, and then it has to be undone
abbrev pub MakesOrUndoes : {E : Type 0} → Result Made E → (State → Outcome State) → Before → Configuration → Configuration → Type 0
MakesOrUndoes (Ok Step) outcome before old new = (outcome (state_of old) ≡ Gives (state_of new)) × (new.last ≡ old.last)
MakesOrUndoes (Ok Last) outcome before old new =
    (outcome (state_of old) ≡ Gives (state_of new)) × IsFinal (state_of new) × (new.last ≡ old.last)
MakesOrUndoes (Ok (Ends end)) outcome before old new =
    (outcome (state_of old) ≡ EndsBy end) × (undo_from before (state_of new) ≡ state_of old) × (new.last ≡ old.last)
MakesOrUndoes (Err memory) outcome before old new = (undo_from before (state_of new) ≡ state_of old) × (new.last ≡ old.last)
