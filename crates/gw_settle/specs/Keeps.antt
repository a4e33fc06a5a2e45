-- What the rounds keep: each row that they compute fits the row of every table that passes.
use Rattle.std.specs.Prelude.{◌≡◌, ℕ, ◌+◌, ◌*◌, ◌≤◌, ◌<◌, List, [], ◌∷◌, length, Option, Some, None, Bool, true, false, not, ◌&&◌, ◌==◌, All, IsSomeAnd, IfSome}
use Rattle.gw_object.specs.declared.blocks.Block.{Block}
use Rattle.gw_object.specs.declared.blocks.Block.TheVariants as blocks
use Rattle.gw_object.specs.declared.parts.Entity.{Entity}
use Rattle.gw_object.specs.declared.parts.Parts.{Parts}
use Rattle.gw_object.specs.Entities.{chains_in}
use Rattle.gw_object.specs.Grammar.{HasSpelling}
use Rattle.gw_rules.specs.Pass.{KindsPass}
use Rattle.gw_rules.specs.declared.entities.EntityKind.TheVariants.{Facility, StorageOrQueue}
use Rattle.gw_rules.specs.Kinds.{block_at, chain_place, is_generate, is_call_at, needs}
use Rattle.gw_rules.specs.KindsLaws.{IsEntity}
use Rattle.gw_rules.specs.declared.edges.Target.{Target}
use Rattle.gw_rules.specs.declared.edges.Target.TheVariants as targets
use Rattle.gw_rules.specs.Blocks.{FlowEdge, Table, replaces}
use Rattle.gw_rules.specs.Entries.{lists}
use Rattle.gw_rules.specs.Rows.{Row, ParamKind, Num, Ret, kind_of, units_of, nothing_known, Fits}
use Rattle.gw_rules.specs.Flow.{FlowPasses}
use Rattle.gw_settle.specs.Joins.{Within}
use Rattle.gw_settle.specs.Rounds.{TableRows, as_table, sends, visit_block, start}

-- THE PREMISE

-- whether a block is a TRANSFER to a subroutine that keeps the return in this parameter
abbrev pub sets_return : Option Block → ℕ → Bool
sets_return (Some (blocks.TransferToSubroutine c)) q = c.parameter == q
sets_return block q = false

-- whether a block is an ASSIGN that adds to this parameter or subtracts from it
abbrev pub changes : Option Block → ℕ → Bool
changes (Some (blocks.Assign a)) q = not (replaces a.mode) && (a.parameter == q)
changes block q = false

-- no parameter both keeps a return and is the target of an ASSIGN by addition or subtraction
abbrev pub NoneChanged : Parts → Type 0
NoneChanged p = (b c q : ℕ) → sets_return (block_at p.blocks b) q ≡ true → changes (block_at p.blocks c) q ≡ true → ⊥

-- TABLES

-- two targets have one row in a table: they are one block, or they stand at one place among the user chains
abbrev pub IsOnePlace : List Entity → Target → Target → Type 0
IsOnePlace es (targets.Block b) (targets.Block c) = b ≡ c
IsOnePlace es (targets.Chain e) (targets.Chain f) = chain_place es e ≡ chain_place es f
IsOnePlace es x y = ⊥

-- a table has one row for one place
abbrev pub IsByPlace : Parts → Table → Type 0
IsByPlace p table = (x y : Target) → IsOnePlace p.entities x y → table x ≡ table y

-- a row, if there is one, fits another, which then is there
abbrev pub IsBelow : Option Row → Option Row → Type 0
IsBelow None y = Unit {0}
IsBelow (Some row) y = IsSomeAnd y (Fits row)

-- each row of a table fits the other's
abbrev pub IsTableBelow : Table → Table → Type 0
IsTableBelow s t = (x : Target) → IsBelow (s x) (t x)

-- the block of a number is there, and no GENERATE
abbrev pub may_enter : Option Block → Bool
may_enter None = false
may_enter (Some block) = not (is_generate (Some block))

-- a target has a place in a table, and is no GENERATE
abbrev pub MayEnter : Parts → Target → Type 0
MayEnter p (targets.Block b) = may_enter (block_at p.blocks b) ≡ true
MayEnter p (targets.Chain e) = chain_place p.entities e < chains_in p.entities

-- RETURNS AND ENTITIES

-- a parameter that holds one of these returns has one that a TRANSFER to a subroutine keeps in it
pub record IsReturned (p : Parts) (q : ℕ) (bs : List ℕ) : Type 0 where
  pub some : (b : ℕ) × (sets_return (block_at p.blocks b) q ≡ true)
  pub each : (b : ℕ) → lists bs b ≡ true → sets_return (block_at p.blocks b) q ≡ true

-- what a parameter holds, if it is set to a return, is such a one
abbrev pub IsKindGrounded : Parts → ℕ → Option ParamKind → Type 0
IsKindGrounded p q None = Unit {0}
IsKindGrounded p q (Some Num) = Unit {0}
IsKindGrounded p q (Some (Ret bs)) = IsReturned p q bs

-- each return in a state is one that a TRANSFER to a subroutine keeps
abbrev pub IsGrounded : Parts → Row → Type 0
IsGrounded p row = (q : ℕ) → IsKindGrounded p q (kind_of row q)

-- the entities of a state are facilities, and storages or queues
pub record IsNamed (es : List Entity) (row : Row) : Type 0 where
  pub facilities : All (λ f. IsEntity es (needs Facility f)) row.facilities
  pub units : All (λ (e : ℕ × ℕ). IsEntity es (needs StorageOrQueue e.0)) row.units

-- the blocks to which what a parameter holds may return call subroutines
abbrev pub KindNamesCalls : List Block → ParamKind → Type 0
KindNamesCalls bs Num = Unit {0}
KindNamesCalls bs (Ret cs) = All (λ c. is_call_at bs c ≡ true) cs

-- and those of each parameter of a state
abbrev pub NamesCalls : List Block → Row → Type 0
NamesCalls bs row = All (λ (e : ℕ × ParamKind). KindNamesCalls bs e.1) row.params

-- AMOUNTS

-- how many rows of a list are absent
abbrev pub absent_in : List (Option Row) → ℕ
absent_in [] = 0
absent_in (None ∷ rows) = 1 + absent_in rows
absent_in (Some row ∷ rows) = absent_in rows

-- and of a table
abbrev pub absent : TableRows → ℕ
absent rows = absent_in rows.blocks + absent_in rows.chains

-- each amount of a state is at most 2^20 for each row that is there: a row that comes has at most that much more than the one that it comes from
abbrev pub HasFew : Parts → TableRows → Row → Type 0
HasFew p rows row = (e : ℕ) → units_of row e + absent rows * 1048576 ≤ (length p.blocks + chains_in p.entities) * 1048576

-- WHAT IS KEPT

-- the parts of an object of which kinds pass
pub record IsWell (p : Parts) : Type 0 where
  pub spelled : HasSpelling p
  pub kinds : KindsPass p

-- what the rounds keep of a table, in the sense of completeness
pub record IsGood (p : Parts) (s : Table) : Type 0 where
  pub arrivals : (b : ℕ) → is_generate (block_at p.blocks b) ≡ true → s (targets.Block b) ≡ Some nothing_known
  pub grounded : (x : Target) → IfSome (s x) (IsGrounded p)
  pub below : NoneChanged p → (t : Table) → IsByPlace p t → FlowPasses p t → IsTableBelow s t

-- there is a row, or none, for each block and each user chain
pub record HasShape (p : Parts) (rows : TableRows) : Type 0 where
  pub blocks : length rows.blocks ≡ length p.blocks
  pub chains : length rows.chains ≡ chains_in p.entities

-- what visits keep of any rows, also of such as no round has reached
pub record AreSound (p : Parts) (rows : TableRows) : Type 0 where
  pub shape : HasShape p rows
  pub grounded : (x : Target) → IfSome (as_table p rows x) (IsGrounded p)
  pub named : (x : Target) → IfSome (as_table p rows x) (IsNamed p.entities)
  pub block_calls : All (λ row. IfSome row (NamesCalls p.blocks)) rows.blocks
  pub chain_calls : All (λ row. IfSome row (NamesCalls p.blocks)) rows.chains
  pub few : (x : Target) → IfSome (as_table p rows x) (HasFew p rows)

-- what the rounds keep of the rows of a table
pub record AreKept (p : Parts) (rows : TableRows) : Type 0 where
  pub shape : HasShape p rows
  pub good : IsGood p (as_table p rows)
  pub named : (x : Target) → IfSome (as_table p rows x) (IsNamed p.entities)
  pub block_calls : All (λ row. IfSome row (NamesCalls p.blocks)) rows.blocks
  pub chain_calls : All (λ row. IfSome row (NamesCalls p.blocks)) rows.chains
  pub few : (x : Target) → IfSome (as_table p rows x) (HasFew p rows)

-- WHERE NOTHING IS LEFT TO BE SENT

-- an edge changes nothing: there is a row, and its state has at least what the row knows
abbrev pub IsIdle : Table → FlowEdge → Type 0
IsIdle table edge = IsSomeAnd (table edge.target) (Within edge.state)

-- the block of number b sends nothing that changes the table
abbrev pub IsIdleAt : Parts → Table → ℕ → Type 0
IsIdleAt p table b = All (IsIdle table) (sends p table b)

-- no block sends anything that changes these rows
pub record IsSettled (p : Parts) (rows : TableRows) : Type 0 where
  pub each : (b : ℕ) → IsIdleAt p (as_table p rows) b

-- LAWS

-- a visit of a block keeps it
abbrev pub VisitsKeep : Type 0
VisitsKeep = (p : Parts) (b : ℕ) (rows : TableRows) → IsWell p → AreKept p rows → AreKept p (visit_block p b rows)

-- the rounds begin with what they keep
abbrev pub StartIsKept : Type 0
StartIsKept = (p : Parts) → AreKept p (start p)

-- a table that they keep and that is settled passes where any table does
abbrev pub SettledPasses : Type 0
SettledPasses = (p : Parts) (rows : TableRows) (t : Table) → NoneChanged p → AreKept p rows → IsSettled p rows → IsByPlace p t
    → FlowPasses p t → FlowPasses p (as_table p rows)
