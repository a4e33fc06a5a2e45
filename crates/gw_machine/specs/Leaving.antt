-- What a call on a machine leaves.
use Rattle.std.specs.Prelude.{[], ◌∷◌, List, ◌≡◌, ℕ, ℤ, ◌+◌, ◌≤◌, ◌<◌, sum, length, remove, Option, Some, None, Result, Ok, Err, IfOk, Bool, true, false}
use Rattle.gw_assemblies.specs.declared.assemblies.Assembly.{Assembly as HeldAssembly}
use Rattle.gw_members.specs.Members.{tx_at}
use Rattle.gw_members.specs.declared.tx.Tx.{Tx}
use Rattle.gw_entities.specs.Tabulation.{Tabulation, tabulation_of}
use Rattle.gw_num.specs.declared.arithmetic.NumFault.{NumFault}
use Rattle.gw_num.specs.Table.{at}
use Rattle.gw_step.specs.declared.ends.End.{End}
use Rattle.gw_machine.specs.Configuration.{Configuration}
use Rattle.gw_machine.specs.View.{assembly_of, lists_of, state_of}
use Rattle.gw_object.specs.declared.parts.Parts.{Parts}
use Rattle.gw_step.specs.Blocks.{assembly_at, first_unlinked}
use Rattle.gw_step.specs.Changes.{enters_and_falls, put_table, table}
use Rattle.gw_step.specs.Outcome.{Outcome, Gives, EndsBy}
use Rattle.gw_step.specs.Start.{nothing}
use Rattle.gw_step.specs.State.{State, user_chain}
use Rattle.gw_transactions.specs.declared.Transaction.{Transaction}

-- WHAT STAYS

-- the machine is in this state now, and has as many slots for parameters as before
abbrev pub Becomes : State → Configuration → Configuration → Type 0
Becomes s old new = (state_of new ≡ s) × (new.last ≡ old.last)

-- the machine stays in its state
abbrev pub Stays : Configuration → Configuration → Type 0
Stays old new = Becomes (state_of old) old new

-- the machine is in the state that this makes of its own
abbrev pub BecomesBy : (State → State) → Configuration → Configuration → Type 0
BecomesBy change old new = Becomes (change (state_of old)) old new

-- the same; or there was no memory for it, and the machine stays in its state
abbrev pub BecomesOnOk : {E : Type 0} → Result (Unit {0}) E → (State → State) → Configuration → Configuration → Type 0
BecomesOnOk (Ok done) change old new = BecomesBy change old new
BecomesOnOk (Err memory) change old new = Stays old new

-- fewer than n transactions were made, and fewer arrivals scheduled
abbrev pub HasArrivedBelow : ℕ → Configuration → Type 0
HasArrivedBelow n m = (length m.transactions.txs < n) × (sum m.scheduled < n)

-- the first of the current events chain is active now
abbrev pub BecomesActive : Configuration → Configuration → Type 0
BecomesActive old new =
    (n : ℕ) × (ns : List ℕ) × ((lists_of old).current_events ≡ n ∷ ns)
    × (state_of new ≡ record (state_of old) { lists = record (lists_of old) { active = Some n; current_events = ns } })

-- ENTRIES

-- the transaction n, which is t, enters its next block, its mark time is the clock, and it falls to the block after
abbrev pub enters_marked : ℕ → Transaction → State → State
enters_marked n t s = enters_and_falls n (record t { mark = s.clock }) s

-- the transaction n, which is t, enters its next block with this priority, and falls to the block after
abbrev pub EntersWithPriority : ℕ → Transaction → ℤ → Configuration → Configuration → Type 0
EntersWithPriority n t priority old new = state_of new ≡ enters_and_falls n (record t { priority = priority }) (state_of old)

-- USER CHAINS

-- the first member of a user chain, if there is one, leaves it to go to a block
abbrev pub first_leaves : ℕ → ℕ → State → State
first_leaves chain target s = first_unlinked chain target (user_chain chain s) s

-- THE START

-- the state in which nothing is scheduled, and a named end stands, if there is one
abbrev pub nothing_but : Parts → ℕ → List ℕ → Option End → State
nothing_but p count streams ended = record (nothing p count streams) { ended = ended }

-- the first arrivals are scheduled; or the named end that they come to is answered, and nothing is said of the new state
abbrev pub Schedules : Option End → Outcome State → State → Type 0
Schedules None outcome new = outcome ≡ Gives new
Schedules (Some end) outcome new = outcome ≡ EndsBy end

-- the same for a call on a machine, unless there was no memory: the outcome is said of the state that it was in
abbrev pub SchedulesBy : {E : Type 0} → Result (Option End) E → (State → Outcome State) → Configuration → Configuration → Type 0
SchedulesBy result outcome old new = IfOk result (λ end. Schedules end (outcome (state_of old)) (state_of new))

-- at most one more arrival is scheduled
abbrev pub SchedulesOneAtMost : List ℕ → List ℕ → Type 0
SchedulesOneAtMost old new = (length new ≡ length old) × (sum new ≤ sum old + 1)

-- ENTITIES

-- a value was entered into a table, which stands in the new state as the rule leaves it; or the rule answers a fault, and nothing changed
abbrev pub Tabulates : Result (Unit {0}) NumFault → Result Tabulation NumFault → (Tabulation → State) → State → State → Type 0
Tabulates (Ok done) rule puts old new = (left : Tabulation) × (rule ≡ Ok left) × (new ≡ puts left)
Tabulates (Err fault) rule puts old new = (rule ≡ Err fault) × (new ≡ old)

-- the same for a call on a machine, by the rule for a value and a table
abbrev pub TabulatesIn : Result (Unit {0}) NumFault → ℕ → ℤ → Configuration → Configuration → Type 0
TabulatesIn result t value old new =
    Tabulates result (tabulation_of value (table t (state_of old))) (λ v. put_table t v (state_of old)) (state_of old) (state_of new)

-- DELAY LISTS

-- the transaction at this place of the delay list of an entity, if there is one
abbrev pub waiter_at : ℕ → ℕ → Configuration → Option Tx
waiter_at e place m = tx_at place (at [] m.waits.lists e)

-- the one to which the walk over the delay list of an entity has come, if it is not at the end
abbrev pub waiter_come_to : ℕ → Configuration → Option Tx
waiter_come_to e m = waiter_at e (at 0 m.waits.places e) m

-- the waiter at this place of the delay list of an entity left it
abbrev pub LosesWaiter : ℕ → ℕ → Configuration → Configuration → Type 0
LosesWaiter e place old new = at [] new.waits.lists e ≡ remove (at [] old.waits.lists e) place

-- the waiter at this place of the delay list of an entity, to which the walk over it has come, left it for the current events chain; or nothing changed
abbrev pub Moves : Bool → ℕ → ℕ → Configuration → Configuration → Type 0
Moves true e place old new = LosesWaiter e place old new × (old.current_events.room ≤ new.current_events.room + 1) × (at 0 new.waits.places e ≡ place)
Moves false e place old new = (new.waits ≡ old.waits) × (new.current_events ≡ old.current_events) × (state_of new ≡ state_of old)

-- so it is with the waiter to whom the walk over the delay list of an entity had come
abbrev pub MovesCurrent : Bool → ℕ → Configuration → Configuration → Type 0
MovesCurrent moved e old new = Moves moved e (at 0 old.waits.places e) old new

-- ASSEMBLIES AND COPIES

-- this assembly has begun
abbrev pub HasBegun : HeldAssembly → Configuration → Type 0
HasBegun a m = assembly_at a.block a.set (state_of m) ≡ Some (assembly_of a)

-- a machine has room for so many more transactions that may move now
abbrev pub HasRoomForCopies : ℕ → Configuration → Type 0
HasRoomForCopies n m = (n ≤ m.transactions.room) × (n ≤ m.current_events.room)
