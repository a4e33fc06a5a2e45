-- Rounds of blocks on which no time passes.
use Rattle.std.specs.Prelude.{ℕ, ◌+◌, List, [], ◌∷◌, Option, Some, None, is_some, Bool, false, ◌&&◌, ◌||◌, ◌==◌}
use Rattle.std.specs.List.{list_any}
use Rattle.gw_object.specs.declared.blocks.Block.{Block}
use Rattle.gw_object.specs.declared.blocks.Block.TheVariants as blocks
use Rattle.gw_object.specs.declared.parts.Parts.{Parts}
use Rattle.gw_rules.specs.Blocks.{returns_read}
use Rattle.gw_rules.specs.Exits.{exits_with, leads_to}
use Rattle.gw_rules.specs.Flow.{own_row, own_table}
use Rattle.gw_rules.specs.Kinds.{block_at}
use Rattle.gw_rules.specs.Rows.{Row}
use Rattle.gw_rules.specs.Weights.{goes_at_once}
use Rattle.gw_rules.specs.declared.edges.Target.TheVariants as targets
use Rattle.gw_rules.specs.declared.ways.Exit.{Exit}
use Rattle.gw_rules.specs.declared.ways.Way.{Way}

-- EXITS

-- whether a way leads from the block of number b to that of number x
abbrev pub is_way_to : ℕ → Way → ℕ → Bool
is_way_to b way x = leads_to b way == x

-- whether an exit leads there, and no time passes on it
abbrev pub is_exit_to : ℕ → ℕ → Exit → Bool
is_exit_to b x exit = goes_at_once exit && is_way_to b exit.way x

-- whether the block of number x stands behind a caller
abbrev pub is_behind : ℕ → ℕ → Bool
is_behind caller x = caller + 1 == x

-- USER CHAINS

-- whether the block of a number has a row of the state table
abbrev pub has_row : Parts → ℕ → Bool
has_row p b = is_some (own_row p b)

-- whether a block is an UNLINK from user chain c to the block of number x
abbrev pub is_unlink : ℕ → ℕ → Block → Bool
is_unlink c x (blocks.Unlink u) = (u.chain == c) && (u.target == x)
is_unlink c x block = false

-- whether one of these blocks is, of which the first has the number b, and has a row
abbrev pub unlinks : Parts → ℕ → ℕ → ℕ → List Block → Bool
unlinks p c x b [] = false
unlinks p c x b (block ∷ bs) = (is_unlink c x block && has_row p b) || unlinks p c x (b + 1) bs

-- whether one of all blocks is
abbrev pub is_unlinked : Parts → ℕ → ℕ → Bool
is_unlinked p c x = unlinks p c x 1 p.blocks

-- whether members of user chain c may go on to the block of number x
abbrev pub lets_go : Parts → ℕ → ℕ → Bool
lets_go p c x = is_some (own_table p (targets.Chain c)) && is_unlinked p c x

-- ROUNDS

-- whether somebody may go from the block of number b, with this row, to that of number x while no time passes: who
-- joins a user chain goes where its members may go
abbrev pub goes_in : Parts → ℕ → ℕ → Block → Row → Bool
goes_in p b x (blocks.Link l) row = lets_go p l.chain x
goes_in p b x block row = list_any (is_exit_to b x) (exits_with (returns_read block row) block)

-- the same of a block and a row that may be there
abbrev pub goes_if : Parts → ℕ → ℕ → Option Block → Option Row → Bool
goes_if p b x (Some block) (Some row) = goes_in p b x block row
goes_if p b x (Some block) None = false
goes_if p b x None row = false

-- whether somebody may go from the block of number b to that of number x while no time passes
abbrev pub goes_to : Parts → ℕ → ℕ → Bool
goes_to p b x = goes_if p b x (block_at p.blocks b) (own_row p b)

-- whether somebody may go so from block b to each of these in turn, and from the last of them to the first one
abbrev pub comes_round : Parts → ℕ → List ℕ → ℕ → Bool
comes_round p b [] first = goes_to p b first
comes_round p b (x ∷ xs) first = goes_to p b x && comes_round p x xs first

-- whether these blocks are a round on which no time passes
abbrev pub is_round : Parts → List ℕ → Bool
is_round p [] = false
is_round p (b ∷ bs) = comes_round p b bs b
