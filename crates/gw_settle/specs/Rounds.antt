-- The assembler's table: the rounds that compute it.
use Rattle.std.specs.Prelude.{◌≡◌, ℕ, zero, suc, List, [], ◌∷◌, length, map, Option, Some, None, if◌then◌else◌, replicate}
use Rattle.std.specs.List.{list_all}
use Rattle.std.specs.Option.{option_map}
use Rattle.gw_object.specs.declared.blocks.Block.{Block}
use Rattle.gw_object.specs.declared.blocks.Block.TheVariants as blocks
use Rattle.gw_object.specs.declared.parts.Entity.{Entity}
use Rattle.gw_object.specs.declared.parts.Parts.{Parts}
use Rattle.gw_object.specs.Entities.{chains_in}
use Rattle.gw_rules.specs.Kinds.{block_at, chain_place, is_generate}
use Rattle.gw_rules.specs.declared.edges.Target.{Target}
use Rattle.gw_rules.specs.declared.edges.Target.TheVariants as targets
use Rattle.gw_rules.specs.Blocks.{FlowEdge, Table, Rule, rules, members_move, edges}
use Rattle.gw_rules.specs.Rows.{Row, nothing_known}
use Rattle.gw_rules.specs.Seen.{row_meaning}
use Rattle.gw_rules.specs.Flow.{table_of}
use Rattle.gw_settle.specs.declared.table.Change.{Change}
use Rattle.gw_settle.specs.declared.table.Change.TheVariants.{Same, Less, More}
use Rattle.gw_settle.specs.Joins.{is_within, with_state}

-- the rows of a state table: of the blocks, and of those entities that are user chains, in order
pub record TableRows : Type 0 where
  pub blocks : List (Option Row)
  pub chains : List (Option Row)

-- these rows of the blocks and of the user chains
abbrev pub rows_of : List (Option Row) → List (Option Row) → TableRows
rows_of blocks chains = record { blocks = blocks; chains = chains }

-- these rows as a table
abbrev pub as_table : Parts → TableRows → Table
as_table p rows = table_of rows.blocks p.entities rows.chains

-- the rows of a table with those of its blocks changed
abbrev pub with_blocks : (List (Option Row) → List (Option Row)) → TableRows → TableRows
with_blocks f rows = record rows { blocks = f rows.blocks }

-- the rows of an object's own table
abbrev pub own_rows : Parts → TableRows
own_rows p = record { blocks = map (option_map (row_meaning p.returns)) p.states; chains = map (option_map (row_meaning p.returns)) p.chain_states }

-- A VISIT

-- a list with the element at a place, from 0, changed
abbrev pub with_change_at : {X : Type 0} → (X → X) → ℕ → List X → List X
with_change_at f k [] = []
with_change_at f zero (x ∷ xs) = f x ∷ xs
with_change_at f (suc k) (x ∷ xs) = x ∷ with_change_at f k xs

-- the rows with a state sent to one place, from 0
abbrev pub sent_at : Row → ℕ → List (Option Row) → List (Option Row)
sent_at state k rows = with_change_at (λ row. Some (with_state state row)) k rows

-- the rows with a state sent to the block of a number, from 1
abbrev pub sent_to_block : Row → ℕ → List (Option Row) → List (Option Row)
sent_to_block state zero rows = rows
sent_to_block state (suc k) rows = sent_at state k rows

-- the rows with a state sent to a target
abbrev pub sent_to : List Entity → Row → Target → TableRows → TableRows
sent_to es state (targets.Block b) rows = record rows { blocks = sent_to_block state b rows.blocks }
sent_to es state (targets.Chain e) rows = record rows { chains = sent_at state (chain_place es e) rows.chains }

-- the rows with the state of an edge sent to its target
abbrev pub send_edge : Parts → FlowEdge → TableRows → TableRows
send_edge p edge rows = sent_to p.entities edge.state edge.target rows

-- and of several, one after the other
abbrev pub all_sent : Parts → List FlowEdge → TableRows → TableRows
all_sent p [] rows = rows
all_sent p (e ∷ es) rows = all_sent p es (send_edge p e rows)

-- the row of the user chain from which a block sends members on, if it is an UNLINK, and there is one
abbrev pub members_in : Table → Block → Option Row
members_in table (blocks.Unlink u) = table (targets.Chain u.chain)
members_in table block = None

-- the edge of these members, if there are any
abbrev pub members_from : Block → Option Row → List FlowEdge
members_from (blocks.Unlink u) members = members_move u.target members
members_from block members = []

-- what a block sends in a row: its edges, where its rules hold
abbrev pub sends_in : Parts → Table → ℕ → Option Block → Option Row → List FlowEdge
sends_in p table b (Some block) (Some row) = if list_all (λ (rule : Rule). rule.holds) (rules p block row) then edges p table b block row else []
sends_in p table b (Some block) None = []
sends_in p table b None row = []

-- what the block of number b sends
abbrev pub sends : Parts → Table → ℕ → List FlowEdge
sends p table b = sends_in p table b (block_at p.blocks b) (table (targets.Block b))

-- the rows once the block of number b was visited
abbrev pub visit_block : Parts → ℕ → TableRows → TableRows
visit_block p b rows = all_sent p (sends p (as_table p rows) b) rows

-- ROUNDS

-- the rows once each block up to a number was visited, from the first one on
abbrev pub visited_to : Parts → ℕ → TableRows → TableRows
visited_to p zero rows = rows
visited_to p (suc k) rows = visit_block p (suc k) (visited_to p k rows)

-- and once each was
abbrev pub round : Parts → TableRows → TableRows
round p rows = visited_to p (length p.blocks) rows

-- the row of a block at the start: of an arrival nothing is known, and nobody goes anywhere else
abbrev pub start_row : Block → Option Row
start_row block = if is_generate (Some block) then Some nothing_known else None

-- the rows at the start
abbrev pub start : Parts → TableRows
start p = record { blocks = map start_row p.blocks; chains = replicate (chains_in p.entities) None }

-- the rows after so many rounds
abbrev pub rounds : Parts → ℕ → TableRows
rounds p zero = start p
rounds p (suc k) = round p (rounds p k)

-- these rows are those after some rounds
abbrev pub AreReached : Parts → TableRows → Type 0
AreReached p rows = (k : ℕ) × (rows ≡ rounds p k)

-- these are the rows of the assembler's table: those after some rounds, which a further round doesn't change
pub record AreSettled (p : Parts) (rows : TableRows) : Type 0 where
  pub count : ℕ
  pub after : rows ≡ rounds p count
  pub last : round p rows ≡ rows

-- WHAT CHANGES

-- what a state that comes makes of a row: a row where there was none, nothing where the row knows no more than it, else less
abbrev pub change_of : Row → Option Row → Change
change_of state None = More
change_of state (Some row) = if is_within state row then Same else Less

-- two changes, one after the other: a row more counts before a row that knows less
abbrev pub followed_by : Change → Change → Change
followed_by Same change = change
followed_by Less Same = Less
followed_by Less Less = Less
followed_by Less More = More
followed_by More change = More

-- what the states of these edges change that are sent one after the other
abbrev pub changes_of : Parts → List FlowEdge → TableRows → Change
changes_of p [] rows = Same
changes_of p (e ∷ es) rows = followed_by (change_of e.state (as_table p rows e.target)) (changes_of p es (send_edge p e rows))

-- what a visit of the block of number b changes
abbrev pub change_at : Parts → ℕ → TableRows → Change
change_at p b rows = changes_of p (sends p (as_table p rows) b) rows

-- what visits of each block up to a number change
abbrev pub change_to : Parts → ℕ → TableRows → Change
change_to p zero rows = Same
change_to p (suc k) rows = followed_by (change_to p k rows) (change_at p (suc k) (visited_to p k rows))

-- what a round changes
abbrev pub change_in : Parts → TableRows → Change
change_in p rows = change_to p (length p.blocks) rows
