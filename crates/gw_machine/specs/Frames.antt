-- What a call on a machine changes: all else stays.
use Rattle.std.specs.Prelude.{◌≡◌, ℕ, ◌+◌, ◌≤◌}
use Rattle.gw_members.specs.Lists.{LosesRoom}
use Rattle.gw_members.specs.declared.tx.Tx.{Tx}
use Rattle.gw_machine.specs.Configuration.{Configuration}
use Rattle.gw_machine.specs.View.{entity_count}
use Rattle.gw_step.specs.State.{priority_of}

-- who may move now, and who waits for a later time
abbrev pub OnlyEventsChange : Configuration → Configuration → Type 0
OnlyEventsChange old new = new ≡ record old { current_events = new.current_events; future_events = new.future_events }

-- who waits on a delay list or the retry list, and who may move now
abbrev pub OnlyWaitersMove : Configuration → Configuration → Type 0
OnlyWaitersMove old new = new ≡ record old { waits = new.waits; current_events = new.current_events }

-- the same, and whether something has stirred
abbrev pub OnlyWaking : Configuration → Configuration → Type 0
OnlyWaking old new = new ≡ record old { stir = new.stir; waits = new.waits; current_events = new.current_events }

-- who waits for the rest of an assembly set, and who may move now
abbrev pub OnlyAssembliesMove : Configuration → Configuration → Type 0
OnlyAssembliesMove old new = new ≡ record old { assemblies = new.assemblies; current_events = new.current_events }

-- the transactions, and who may move now
abbrev pub OnlyCopiesCome : Configuration → Configuration → Type 0
OnlyCopiesCome old new = new ≡ record old { transactions = new.transactions; current_events = new.current_events }

-- the same, and who is on a user chain
abbrev pub OnlyMembersLeave : Configuration → Configuration → Type 0
OnlyMembersLeave old new =
    new ≡ record old { transactions = new.transactions; current_events = new.current_events; chains = new.chains }

-- the transactions, and who waits for a later time
abbrev pub OnlyArrivalFits : Configuration → Configuration → Type 0
OnlyArrivalFits old new = new ≡ record old { transactions = new.transactions; future_events = new.future_events }

-- the same, and how many arrivals were scheduled
abbrev pub OnlyArrivalComes : Configuration → Configuration → Type 0
OnlyArrivalComes old new =
    new ≡ record old { transactions = new.transactions; future_events = new.future_events; scheduled = new.scheduled }

-- the transactions, the entries of blocks, and whether something has stirred
abbrev pub OnlyEntryIsMade : Configuration → Configuration → Type 0
OnlyEntryIsMade old new =
    new ≡ record old { stir = new.stir; entries = new.entries; transactions = new.transactions }

-- the entities
abbrev pub OnlyEntitiesChange : Configuration → Configuration → Type 0
OnlyEntitiesChange old new = new ≡ record old { entities = new.entities }

-- steps, facilities and the slots of transactions stay
abbrev pub KeepsFacilities : Configuration → Configuration → Type 0
KeepsFacilities old new =
    (new.steps ≡ old.steps) × (new.entities.facilities ≡ old.entities.facilities) × (new.last ≡ old.last)

-- no delay list, nor the retry list, has less room than before
abbrev pub KeepsRoomToWait : Configuration → Configuration → Type 0
KeepsRoomToWait old new =
    LosesRoom 0 old.waits.rooms new.waits.rooms × (old.waits.retry_room ≤ new.waits.retry_room)

-- the current events chain has room for at most n fewer than before
abbrev pub LosesRoomToMove : ℕ → Configuration → Configuration → Type 0
LosesRoomToMove n old new = old.current_events.room ≤ new.current_events.room + n

-- a machine has room for at most n more transactions fewer than before that may move now
abbrev pub LosesRoomForCopies : ℕ → Configuration → Configuration → Type 0
LosesRoomForCopies n old new =
    (old.transactions.room ≤ new.transactions.room + n) × (old.current_events.room ≤ new.current_events.room + n)

-- a transaction keeps its priority
abbrev pub KeepsPriority : Tx → Configuration → Configuration → Type 0
KeepsPriority tx old new = priority_of new.transactions.txs tx.number ≡ priority_of old.transactions.txs tx.number

-- there are as many entities as before
abbrev pub HasAsManyEntities : Configuration → Configuration → Type 0
HasAsManyEntities old new = entity_count new ≡ entity_count old
