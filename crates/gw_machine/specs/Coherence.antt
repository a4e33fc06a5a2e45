-- What a machine keeps beside the state that it is in: its handles lead to the transactions of their numbers.
use Rattle.std.specs.Prelude.{◌≡◌, ◌≢◌, ℕ, ℤ, ◌<◌, ◌≤◌, ◌^◌, pos, ◌<ℤ◌, length, List, [], ◌∷◌, Option, IfSome, Some, None}
use Rattle.std.specs.List.{AllByRecursion}
use Rattle.gw_object.specs.declared.blocks.Block.{Block}
use Rattle.gw_object.specs.declared.parts.Parts.{Parts}
use Rattle.gw_members.specs.Chain.{Chain, all_behind}
use Rattle.gw_members.specs.Members.{due_events}
use Rattle.gw_members.specs.declared.tx.Tx.{Tx}
use Rattle.gw_members.specs.declared.tx.Member.{Member}
use Rattle.gw_members.specs.declared.tx.Event.{Event}
use Rattle.gw_assemblies.specs.declared.assemblies.Assembly.{Assembly}
use Rattle.gw_num.specs.Table.{at}
use Rattle.gw_transactions.specs.declared.Transaction.{Transaction}
use Rattle.gw_transactions.specs.Transactions.{LiveTransaction, Population, attributes_at, Holds, IsSound}
use Rattle.gw_machine.specs.Configuration.{Configuration}
use Rattle.gw_machine.specs.EntityTables.{AreTimed}
use Rattle.gw_step.specs.declared.placement.Placement.{Placement}
use Rattle.gw_step.specs.declared.placement.Placement.TheVariants.{JoinsDelayList, JoinsRetryList, AwaitsSet, JoinsChain}
use Rattle.gw_step.specs.State.{priority_of}
use Rattle.gw_step.specs.Residence.{ResidesOnce}
use Rattle.gw_step.specs.Numbers.{IsWithin, made_in}
use Rattle.gw_step.specs.Operands.{BlocksFit}
use Rattle.gw_machine.specs.View.{state_of, entity_count}

-- HANDLES

-- a member of a priority list: its handle is held, and the priority that the list keeps is the transaction's
pub record IsRanked (p : Population) (m : Member) : Type 0 where
  pub held : Holds p m.tx
  pub rank : priority_of p.txs m.tx.number ≡ m.priority

-- a member of the future events chain: its handle is held
abbrev pub IsHeld : Population → Event → Type 0
IsHeld p e = Holds p e.tx

-- an assembly: the handle of who waits is held
abbrev pub IsHeldBy : Population → Assembly → Type 0
IsHeldBy p a = Holds p a.first

-- each transaction is in a block of an object, which has at most 4,096, or was in none yet, and has 0 there
abbrev pub AreInBlocks : List (Option LiveTransaction) → Type 0
AreInBlocks txs = (n : ℕ) → IfSome (at None txs n) (λ (t : LiveTransaction). t.attributes.current ≤ 4096)

-- each handle of a machine leads to its transaction, each live transaction resides exactly once, and the time is one
pub record Linked (m : Configuration) : Type 0 where
  pub active : IfSome m.active (Holds m.transactions)
  pub current_events : AllByRecursion (IsRanked m.transactions) m.current_events.items
  pub future_events : AllByRecursion (IsHeld m.transactions) m.future_events.items
  pub delay_lists : (e : ℕ) → e < entity_count m → AllByRecursion (IsRanked m.transactions) (at [] m.waits.lists e)
  pub retry : AllByRecursion (IsRanked m.transactions) m.waits.retry
  pub assemblies : AllByRecursion (IsHeldBy m.transactions) m.assemblies.items
  pub user_chains : (c : ℕ) → c < entity_count m → AllByRecursion (Holds m.transactions) (at [] m.chains.lists c)
  -- there is a delay list for each entity
  pub listed : length m.waits.lists ≡ entity_count m
  -- and a user chain
  pub chained : length m.chains.lists ≡ entity_count m
  pub blocks : AreInBlocks m.transactions.txs
  pub sound : IsSound m.transactions
  pub resides : ResidesOnce (state_of m)
  pub timed : AreTimed m.entities m.clock

-- from p to q these handles stay held, and their transactions keep their priorities; and no transaction comes past the blocks
pub record Carries (these : ℕ → Type 0) (p q : Population) : Type 0 where
  pub held : (h : Tx) → these h.number → Holds p h → Holds q h
  pub rank : (h : Tx) → these h.number → Holds p h → priority_of q.txs h.number ≡ priority_of p.txs h.number
  pub blocks : AreInBlocks p.txs → AreInBlocks q.txs
  pub last : q.last ≡ p.last

-- every handle
abbrev pub Every : ℕ → Type 0
Every n = Unit {0}

-- the handles of other numbers than n
abbrev pub Others : ℕ → ℕ → Type 0
Others n m = m ≢ n

-- events as members of a priority list
abbrev pub as_members : Population → List Event → List Member
as_members p [] = []
as_members p (e ∷ es) = record { tx = e.tx; priority = priority_of p.txs e.tx.number } ∷ as_members p es

-- all whose events are due at a time join a chain of members, each behind its peers
abbrev pub DueJoin : Population → ℤ → Chain Event → Chain Member → Chain Member → Type 0
DueJoin p time events old new =
    new.items ≡ all_behind (λ (m : Member). m.priority) (as_members p (due_events time events.items)) old.items

-- RESTING

-- a machine has room to wake the retry list, and to let its active transaction rest on the current events chain or for a time
pub record HasRoom (m : Configuration) : Type 0 where
  pub current_events : length m.waits.retry < m.current_events.room
  pub future_events : 0 < m.future_events.room

-- the handle is the active transaction's
pub record CanRest (m : Configuration) (tx : Tx) : Type 0 where
  pub active : m.active ≡ Some tx
  pub held : Holds m.transactions tx

-- a delay list, a user chain or the retry list that a transaction joins is there, and has room; so have the assemblies where it begins one
abbrev pub CanBePlaced : Placement → Configuration → Type 0
CanBePlaced (JoinsDelayList e) m = (e < entity_count m) × (0 < at 0 m.waits.rooms e)
CanBePlaced JoinsRetryList m = 0 < m.waits.retry_room
CanBePlaced (AwaitsSet a) m = 0 < m.assemblies.room
CanBePlaced (JoinsChain l) m = (l.chain < entity_count m) × (0 < at 0 m.chains.rooms l.chain)
CanBePlaced placement m = Unit {0}

-- PARAMETERS

-- a machine has a slot for this parameter of each transaction
abbrev pub HasSlot : Configuration → ℕ → Type 0
HasSlot m p = (1 ≤ p) × (p ≤ m.last)

-- A RUNNING MACHINE

-- a machine is one of an object: it has an entry for each of its entities
abbrev pub IsOf : Parts → Configuration → Type 0
IsOf p m = entity_count m ≡ length p.entities

-- a machine of these blocks in which at most so many entries were made, and as many transactions as that many steps make
pub record IsSteady (bs : List Block) (made : ℕ) (m : Configuration) : Type 0 where
  pub fit : BlocksFit (entity_count m) bs
  pub within : IsWithin (length bs) (entity_count m) made (made_in made) (state_of m)
  pub few : made ≤ 2 ^ 41

-- a running machine of these blocks
pub record IsRunning (bs : List Block) (m : Configuration) : Type 0 where
  pub steady : IsSteady bs m.steps m
  pub few : m.steps < 2 ^ 41
  pub runs : pos 0 <ℤ m.count

-- the active transaction of a running machine is t, whose next block is one of these
pub record IsActive (bs : List Block) (m : Configuration) (tx : Tx) (t : Transaction) : Type 0 where
  pub steady : IsSteady bs m.steps m
  pub few : m.steps < 2 ^ 41
  pub runs : pos 0 <ℤ m.count
  pub active : m.active ≡ Some tx
  pub held : Holds m.transactions tx
  pub found : attributes_at tx.number m.transactions.txs ≡ Some t
  pub next : t.next ≤ length bs

-- the same, where the block of the active transaction has done its effect on an entity, and the entry is still to come
pub record IsPassing (bs : List Block) (m : Configuration) (tx : Tx) (t : Transaction) : Type 0 where
  pub steady : IsSteady bs m.steps m
  pub few : m.steps < 2 ^ 41
  pub held : Holds m.transactions tx
  pub found : attributes_at tx.number m.transactions.txs ≡ Some t
  pub next : t.next ≤ length bs
