-- Versions of the rows of blocks: rows of one version say the same.
use Rattle.std.specs.Prelude.{◌≡◌, ◌≢◌, ◌⊎◌, ◌≤◌, ℕ, ◌+◌, List, [], ◌∷◌, length, get_or, set, slice_get, filter, map, not, ◌==◌, Option, Some}
use Rattle.std.specs.Prelude.{option_to_list, Bool, true, if◌then◌else◌}
use Rattle.std.specs.List.{list_all}
use Rattle.std.specs.Option.{option_flatten}
use Rattle.gw_object.specs.declared.parts.Parts.{Parts}
use Rattle.gw_rules.specs.Blocks.{FlowEdge, Table, Rule, rules, move}
use Rattle.gw_object.specs.declared.blocks.Block.{Block}
use Rattle.gw_object.specs.declared.blocks.Block.TheVariants as blocks
use Rattle.gw_object.specs.declared.blocks.Fraction.{Fraction}
use Rattle.gw_rules.specs.Exits.{leads_to, goes_or_falls}
use Rattle.gw_rules.specs.Rows.{Row, ParamKind}
use Rattle.gw_settle.specs.declared.table.Change.{Change}
use Rattle.gw_settle.specs.declared.table.Change.TheVariants.{Same, Less, More}
use Rattle.gw_settle.specs.declared.passing.Behind.{Behind}
use Rattle.gw_settle.specs.declared.passing.Latest.{Latest}
use Rattle.gw_settle.specs.declared.passing.Like.{Like}
use Rattle.gw_settle.specs.declared.known.KnownParam.{KnownParam}
use Rattle.gw_settle.specs.Joins.{with_state}
use Rattle.gw_settle.specs.Known.{params_known}
use Rattle.gw_settle.specs.Rounds.{sent_at, sends_in, change_of, followed_by}

-- each row with a version, which isn't 0, is what a function says of that
abbrev pub AreOf : (ℕ → Row) → List ℕ → List (Option Row) → Type 0
AreOf row versions rows = (i : ℕ) → get_or versions i 0 ≢ 0 → slice_get rows i ≡ Some (Some (row (get_or versions i 0)))

-- versions with none at a place, from 0, if the row there has changed
abbrev pub without_version : Change → ℕ → List ℕ → List ℕ
without_version Same i versions = versions
without_version Less i versions = set versions i 0
without_version More i versions = set versions i 0

-- versions become others: where it is so, with this one at a place, from 0
abbrev pub Sets : Bool → ℕ → ℕ → List ℕ → List ℕ → Type 0
Sets is i version old new = new ≡ (if is then set old i version else old)

-- parameters but for one
abbrev pub params_but : ℕ → List (ℕ × ParamKind) → List (ℕ × ParamKind)
params_but q ps = filter (λ e. not (e.0 == q)) ps

-- known parameters hold the same but for one
abbrev pub AgreeBut : ℕ → List KnownParam → List KnownParam → Type 0
AgreeBut q params others = params_but q (params_known params) ≡ params_but q (params_known others)

-- two rows say the same but for what one parameter holds
pub record SaySameBut (q : ℕ) (row other : Row) : Type 0 where
  pub params : params_but q row.params ≡ params_but q other.params
  pub facilities : row.facilities ≡ other.facilities
  pub units : row.units ≡ other.units

-- what a state makes of a row: nothing, or itself; and whether they differ in nothing but a parameter
pub record Makes (q : ℕ) (state : Row) (like : Like) (row : Row) : Type 0 where
  pub change : change_of state (Some row) ≡ like.change
  pub stays : like.change ≢ More
  pub itself : like.change ≡ Less → with_state state (Some row) ≡ state
  pub alone : like.alone ≡ true → SaySameBut q row state

-- no row has a version above the newest one
abbrev pub AreAtMost : ℕ → List ℕ → Type 0
AreAtMost newest versions = (i : ℕ) → get_or versions i 0 ≤ newest

-- what was found out last holds, where a function says what rows of a version are
pub record IsFound (newest : ℕ) (row : ℕ → Row) (latest : Latest) : Type 0 where
  pub sent : latest.version ≤ newest
  pub like : latest.like.version ≤ newest
  pub makes : Makes latest.parameter (row latest.version) latest.like (row latest.like.version)

-- there is a version for each row, rows of one version say the same, and what was found out last of two of them holds
pub record AreVersions (newest : ℕ) (latest : Latest) (versions : List ℕ) (rows : List (Option Row)) : Type 0 where
  pub length : length versions ≡ length rows
  pub row : ℕ → Row
  pub are : AreOf row versions rows
  pub most : AreAtMost newest versions
  pub found : latest.like.version ≢ 0 → IsFound newest row latest

-- and rows of this version, which isn't 0, say what a state says
pub record HaveVersion (version : ℕ) (state : Row) (newest : ℕ) (latest : Latest) (versions : List ℕ) (rows : List (Option Row)) : Type 0 where
  pub all : AreVersions newest latest versions rows
  pub own : version ≢ 0 → all.row version ≡ state
  pub within : version ≤ newest

-- the rows at two places, from 0, have one version, which isn't 0
abbrev pub IsOneVersion : List ℕ → ℕ → ℕ → Type 0
IsOneVersion versions i j = (get_or versions i 0 ≢ 0) × (get_or versions i 0 ≡ get_or versions j 0)

-- the block at a place, from 0, is a TRANSFER in parameter mode by this parameter
abbrev pub IsReturnAt : List Block → ℕ → ℕ → Type 0
IsReturnAt bs q i = slice_get bs i ≡ Some (blocks.TransferByParameter q)

-- a version that is given to a row: its own, or the next one, which then is the newest
abbrev pub IsGiven : ℕ → ℕ → ℕ → ℕ → Type 0
IsGiven own newest version next = ((version ≡ own) × (next ≡ newest)) ⊎ ((version ≡ newest + 1) × (next ≡ newest + 1))

-- the same while a state is sent that has a version: also what it makes of the rows of one version is known
pub record IsSharing (q : ℕ) (state : Row) (version newest : ℕ) (like : Like) (versions : List ℕ) (rows : List (Option Row)) : Type 0 where
  pub length : length versions ≡ length rows
  pub row : ℕ → Row
  pub are : AreOf row versions rows
  pub own : version ≢ 0 → row version ≡ state
  pub makes : like.version ≢ 0 → Makes q state like (row like.version)
  pub most : AreAtMost newest versions
  pub within : version ≤ newest
  pub like_within : like.version ≤ newest

-- the edges of a transaction that goes on in a state behind these blocks
abbrev pub moves_behind : Row → List ℕ → List FlowEdge
moves_behind state bs = map (λ b. move (b + 1) state) bs

-- the rows of blocks with a state sent to those behind these
abbrev pub sent_behind : Row → List ℕ → List (Option Row) → List (Option Row)
sent_behind state [] rows = rows
sent_behind state (b ∷ bs) rows = sent_behind state bs (sent_at state b rows)

-- what that changes
abbrev pub change_behind : Row → List ℕ → List (Option Row) → Change
change_behind state [] rows = Same
change_behind state (b ∷ bs) rows = followed_by (change_of state (option_flatten (slice_get rows b))) (change_behind state bs (sent_at state b rows))

-- BLOCKS THAT SEND THEIR ROW AS IT IS

-- the blocks, by their numbers, to which a TRANSFER by fraction leads
abbrev pub both_targets : ℕ → Fraction → List ℕ
both_targets b f = (leads_to b (goes_or_falls f.otherwise)) ∷ f.target ∷ []

-- the blocks, by their numbers, to which most blocks that change nothing of a row send it, where their rules hold; none of others
abbrev pub goes_on_to : ℕ → Block → List ℕ
goes_on_to b (blocks.Advance time) = (b + 1) ∷ []
goes_on_to b (blocks.Savevalue save) = (b + 1) ∷ []
goes_on_to b (blocks.Tabulate table) = (b + 1) ∷ []
goes_on_to b (blocks.Logic logic) = (b + 1) ∷ []
goes_on_to b (blocks.Priority priority) = (b + 1) ∷ []
goes_on_to b blocks.Buffer = (b + 1) ∷ []
goes_on_to b (blocks.Transfer target) = target ∷ []
goes_on_to b (blocks.TransferByFraction f) = both_targets b f
goes_on_to b block = []

-- one or two blocks
abbrev pub blocks_behind : Behind → List ℕ
blocks_behind behind = behind.first ∷ option_to_list behind.second

-- the numbers of the blocks behind them
abbrev pub numbers_behind : Behind → List ℕ
numbers_behind behind = map (λ b. b + 1) (blocks_behind behind)

-- whether the rules of a block hold in a row
abbrev pub rules_hold : Parts → Block → Row → Bool
rules_hold p block row = list_all (λ (rule : Rule). rule.holds) (rules p block row)

-- a block sends this row as it is behind these blocks, where its rules hold, by any table
abbrev pub SendsBehind : Parts → ℕ → Block → Row → List ℕ → Type 0
SendsBehind p b block row bs = (table : Table) → sends_in p table b (Some block) (Some row) ≡ (if rules_hold p block row then moves_behind row bs else [])
