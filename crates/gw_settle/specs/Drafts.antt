-- A state table in the making, as the code has it.
use Rattle.std.specs.Prelude.{◌≡◌, ◌≢◌, ◌⊎◌, ℕ, List, ◌++◌, length, Option, Some, IsSomeAnd}
use Rattle.gw_object.specs.declared.blocks.Block.{Block}
use Rattle.gw_object.specs.declared.parts.Parts.{Parts}
use Rattle.gw_flow.specs.declared.abstract_state.Amount.{Amount}
use Rattle.gw_rules.specs.Blocks.{FlowEdge, Table}
use Rattle.gw_rules.specs.Rows.{Row, units_of}
use Rattle.gw_flow.specs.Known.{amounts_of}
use Rattle.gw_settle.specs.declared.draft.Draft.{Draft}
use Rattle.gw_settle.specs.declared.draft.TableRows.{TableRows as Held}
use Rattle.gw_settle.specs.declared.table.Change.{Change}
use Rattle.gw_settle.specs.declared.passing.Latest.{Latest}
use Rattle.gw_settle.specs.declared.passing.Like.{Like}
use Rattle.gw_settle.specs.declared.passing.Sent.{Sent}
use Rattle.gw_settle.specs.Rounds.{TableRows, rows_of, with_blocks, as_table, sent_at, send_edge, all_sent, members_in, members_from, sends_in}
use Rattle.gw_settle.specs.Rounds.{visit_block, round, change_of, changes_of, change_at, change_in, AreReached}
use Rattle.gw_settle.specs.Keeps.{IsWell, HasShape, AreSound}
use Rattle.gw_settle.specs.Marks.{with_mark, MarksSuffice, MarksFollow}
use Rattle.gw_settle.specs.Versions.{AreVersions, HaveVersion, IsSharing, Makes, sent_behind, change_behind}
use Rattle.gw_settle.specs.Jumps.{row_in, units_after, rows_after, FallsAlike, MayJump, HasJumped, Advances}

-- the rows that are held
abbrev pub rows_held : Held → TableRows
rows_held held = rows_of held.blocks.items held.chains.items

-- rows of one version say the same
abbrev pub HasVersions : Draft → Type 0
HasVersions draft = AreVersions draft.newest draft.latest draft.versions.items draft.rows.blocks.items

-- what is noted of a draft: each block is marked, or sends nothing that changes its rows; and rows of one version say the same
pub record AreNoted (p : Parts) (draft : Draft) : Type 0 where
  pub marks : MarksSuffice p draft.marks.items (rows_held draft.rows)
  pub versions : HasVersions draft

-- the table of a draft
abbrev pub table_in : Parts → Draft → Table
table_in p draft = as_table p (rows_held draft.rows)

-- a draft has a row, or none, and a mark for each block
pub record HasBlocks (p : Parts) (draft : Draft) : Type 0 where
  pub rows : length draft.rows.blocks.items ≡ length p.blocks
  pub marks : length draft.marks.items ≡ length p.blocks

-- a draft has a row, or none, for each block and each user chain, and a mark for each block; and rows of one version say the same
pub record IsWhole (p : Parts) (draft : Draft) : Type 0 where
  pub shape : HasShape p (rows_held draft.rows)
  pub marks : length draft.marks.items ≡ length p.blocks
  pub versions : HasVersions draft

-- a draft whose blocks may be visited
pub record MayVisit (p : Parts) (draft : Draft) : Type 0 where
  pub well : IsWell p
  pub sound : AreSound p (rows_held draft.rows)
  pub whole : IsWhole p draft

-- STEPS

-- a step made of a draft's rows others, and that changed so much
pub record Steps (step : TableRows → TableRows) (size : TableRows → Change) (old new : Draft) (change : Change) : Type 0 where
  pub rows : rows_held new.rows ≡ step (rows_held old.rows)
  pub is : change ≡ size (rows_held old.rows)

-- a step that is a round
abbrev pub IsRound : Parts → Draft → Draft → Change → Type 0
IsRound p = Steps (round p) (change_in p)

-- a step that is a visit of the block of number b
abbrev pub IsVisit : Parts → ℕ → Draft → Draft → Change → Type 0
IsVisit p b = Steps (visit_block p b) (change_at p b)

-- a step that sends the state of an edge to its target
abbrev pub IsSending : Parts → FlowEdge → Draft → Draft → Change → Type 0
IsSending p edge = Steps (send_edge p edge) (λ rows. change_of edge.state (as_table p rows edge.target))

-- a step that sends those of several edges, one after the other
abbrev pub AreSendings : Parts → List FlowEdge → Draft → Draft → Change → Type 0
AreSendings p edges = Steps (all_sent p edges) (changes_of p edges)

-- a step that sends a state to the block at a place, from 0
abbrev pub IsSentAt : Row → ℕ → Draft → Draft → Change → Type 0
IsSentAt state k = Steps (with_blocks (sent_at state k)) (λ rows. change_of state (row_in rows.blocks k))

-- a step that sends a state behind these blocks
abbrev pub IsSentBehind : Row → List ℕ → Draft → Draft → Change → Type 0
IsSentBehind state bs = Steps (with_blocks (sent_behind state bs)) (λ rows. change_behind state bs rows.blocks)

-- the marks of a draft follow where it becomes another one
abbrev pub MarksGoOn : Parts → Draft → Draft → Type 0
MarksGoOn p old new = MarksFollow p old.marks.items new.marks.items (table_in p old) (table_in p new)

-- the marks of a draft follow, and rows of one version still say the same
pub record NotesGoOn (p : Parts) (old new : Draft) : Type 0 where
  pub marks : MarksGoOn p old new
  pub versions : HasVersions new

-- WHAT IS SENT

-- the row of the members whom a block sends on from their user chain, if there is one
abbrev pub members_at : Parts → Draft → Block → Option Row
members_at p draft block = members_in (table_in p draft) block

-- edges with that of these members, if there are any
abbrev pub with_members : List FlowEdge → Block → Option Row → List FlowEdge
with_members edges block members = edges ++ members_from block members

-- a block sends these edges in a state, by each table in which its members have this row
abbrev pub Sends : Parts → ℕ → Block → Row → Option Row → List FlowEdge → Type 0
Sends p b block state members edges = (table : Table) → members ≡ members_in table block → edges ≡ sends_in p table b (Some block) (Some state)

-- rows of the version of a row that is sent say what it says
abbrev pub IsOfVersion : Sent → Draft → Type 0
IsOfVersion sent draft = HaveVersion sent.version sent.row.now draft.newest draft.latest draft.versions.items draft.rows.blocks.items

-- what a row that is sent makes of the rows of one version isn't known, or was found out last
abbrev pub IsLikeKnown : Sent → Latest → Like → Type 0
IsLikeKnown sent latest like = (like.version ≡ 0)
    ⊎ ((sent.version ≢ 0) × (sent.version ≡ latest.version) × (sent.parameter ≡ latest.parameter) × (like ≡ latest.like))

-- nothing was found out, or it is what a row that was sent makes of the rows of one version
abbrev pub IsLatestOf : Sent → Like → Latest → Type 0
IsLatestOf sent like latest = (latest.like.version ≡ 0)
    ⊎ ((sent.version ≢ 0) × (latest.version ≡ sent.version) × (latest.parameter ≡ sent.parameter) × (latest.like ≡ like))

-- while a row is sent, the rows of one version say the same, and it is known what it makes of them
abbrev pub AreShared : Sent → Like → Draft → Type 0
AreShared sent like draft = IsSharing sent.parameter sent.row.now sent.version draft.newest like draft.versions.items draft.rows.blocks.items

-- a row that is sent came to the block at a place, from 0; and what is known then of the rows of one version
pub record IsRowSent (p : Parts) (sent : Sent) (k : ℕ) (like : Like) (old new : Draft) (change : Change) : Type 0 where
  pub at : IsSentAt sent.row.now k old new change
  pub marks : MarksGoOn p old new
  pub versions : AreShared sent like new

-- what a row that is sent makes of the one that was there
abbrev pub MakesOf : Sent → Option Row → Like → Type 0
MakesOf sent before like = IsSomeAnd before (Makes sent.parameter sent.row.now like)

-- the block at a place, from 0, is marked if its row has changed
abbrev pub IsMarkedAt : ℕ → Draft → Draft → Change → Type 0
IsMarkedAt k old new change = new.marks.items ≡ with_mark change k old.marks.items

-- JUMPS

-- rows that were reached, those of the next round, and a draft of the one after it
pub record AreRounds (p : Parts) (rows later : Held) (draft : Draft) : Type 0 where
  pub near : AreReached p (rows_held rows)
  pub next : rows_held later ≡ round p (rows_held rows)
  pub second : rows_held draft.rows ≡ round p (rows_held later)
  pub noted : AreNoted p draft

-- held rows became others by rounds, and that changed so much
abbrev pub HeldAdvance : Parts → Held → Held → Change → Type 0
HeldAdvance p near new change = Advances p change (rows_held near) (rows_held new)

-- those of a draft did
abbrev pub DraftAdvances : Parts → Draft → Draft → Change → Type 0
DraftAdvances p old new change = HeldAdvance p old.rows new.rows change

-- a draft became another one whose rows are later than some
abbrev pub DraftJumps : Parts → Held → Draft → Draft → Type 0
DraftJumps p next old new = HasJumped p (rows_held next) (rows_held old.rows) (rows_held new.rows)

-- held rows once their amounts have fallen so many times
abbrev pub held_after : ℕ → Held → Held → TableRows
held_after n rows next = rows_after n (rows_held rows) (rows_held next)

-- units that are held once they have fallen so many times
abbrev pub held_units_after : ℕ → List Amount → Row → List (ℕ × ℕ)
held_units_after n us next = units_after n (amounts_of us) next

-- an amount that is held of an entity falls on
abbrev pub HeldFallOn : ℕ → Row → Row → Row → Amount → Type 0
HeldFallOn n next second last a = FallsAlike n a.number (units_of next a.entity) (units_of second a.entity) (units_of last a.entity)

-- two rows say the same but for units
pub record AgreeButUnits (row other : Row) : Type 0 where
  pub params : row.params ≡ other.params
  pub facilities : row.facilities ≡ other.facilities

-- held rows may jump
abbrev pub MayHeldJump : Parts → ℕ → Held → Held → Held → Held → Type 0
MayHeldJump p n near next second last = MayJump p n (rows_held near) (rows_held next) (rows_held second) (rows_held last)
