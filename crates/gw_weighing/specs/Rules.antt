-- The rules of weights of an object, as rules at places.
use Rattle.std.specs.Prelude.{◌≡◌, ℕ, suc, ◌+◌, ◌*◌, List, [], ◌∷◌, ◌++◌, Result, IfOk, Vec, slice_get, Option, Some, None, is_some, ◌&&◌, nat_lt}
use Rattle.std.specs.Prelude.{if◌then◌else◌}
use Rattle.std.specs.Global.{Global}
use Rattle.std.specs.List.{flat_map}
use Rattle.std.specs.Option.{option_flatten, option_to_list}
use Rattle.gw_object.specs.declared.blocks.Block.{Block}
use Rattle.gw_object.specs.declared.blocks.Block.TheVariants as blocks
use Rattle.gw_object.specs.declared.parts.ReturnRow.{ReturnRow}
use Rattle.gw_object.specs.declared.parts.TableState.{TableState}
use Rattle.gw_object.specs.declared.parts.Parts.{Parts}
use Rattle.gw_rules.specs.Kinds.{chain_row}
use Rattle.gw_least_weights.specs.declared.rules.Rule.{Rule}
use Rattle.gw_least_weights.specs.Rules.{nothing, once}
use Rattle.gw_weighing.specs.Layout.{of_block, of_chain, of_row}
use Rattle.gw_weighing.specs.Sums.{first_sum, second_sum}
use Rattle.gw_weighing.specs.declared.layout.Layout.{Layout}

-- the row of the state table of the block at a place, from 0
abbrev pub state_at : Parts → ℕ → Option TableState
state_at p i = option_flatten (slice_get p.states i)

-- the rule at the block at a place, in its row of the state table
abbrev pub block_rule : Layout → Parts → ℕ → Block → Option TableState → Rule
block_rule y p i block None = record { turn = 2 * i; at = i; first = nothing; second = nothing }
block_rule y p i block (Some row) = record { turn = 2 * i; at = i; first = first_sum y p (suc i) block row; second = second_sum y p (suc i) block }

-- the rule at the user chain of the block at a place, if that is an UNLINK, and both have a row
abbrev pub chain_rule : Layout → Parts → ℕ → Block → Option Rule
chain_rule y p i (blocks.Unlink u) =
    if is_some (state_at p i) && is_some (chain_row p u.chain)
    then Some (record { turn = 2 * y.blocks; at = of_chain y p.entities u.chain; first = once (of_block y u.target); second = nothing })
    else None
chain_rule y p i block = None

-- the rules of the block at a place
abbrev pub rules_of_block : Layout → Parts → ℕ → Block → List Rule
rules_of_block y p i block = block_rule y p i block (state_at p i) ∷ option_to_list (chain_rule y p i block)

-- the rule by which a return row gathers the weight of the block after one of its blocks, if there is one
abbrev pub gathering_rule : Layout → ℕ → ℕ → Option Rule
gathering_rule y r b =
    if nat_lt b y.blocks
    then Some (record { turn = 2 * b + 1; at = of_row y r; first = once b; second = nothing })
    else None

-- the rules of a return row
abbrev pub rules_of_row : Layout → ℕ → List ℕ → List Rule
rules_of_row y r bs = flat_map (λ b. option_to_list (gathering_rule y r b)) bs

-- the rules of each element, by its place; the first one has the place that is given
abbrev pub from_place : {A : Type 0} → (ℕ → A → List Rule) → ℕ → List A → List Rule
from_place rules first [] = []
from_place rules first (x ∷ xs) = rules first x ++ from_place rules (first + 1) xs

-- of all blocks
abbrev pub rules_of_blocks : Layout → Parts → List Rule
rules_of_blocks y p = from_place (rules_of_block y p) 0 p.blocks

-- of all return rows
abbrev pub rules_of_rows : Layout → Parts → List Rule
rules_of_rows y p = from_place (λ r (row : ReturnRow). rules_of_row y r row.blocks) 0 p.returns

-- unless there is no memory, these rules come behind others
abbrev pub AddsRules : {A E : Type 0} → Result A E → Vec Rule Global → Vec Rule Global → List Rule → Type 0
AddsRules result old new more = IfOk result (λ _. new.items ≡ old.items ++ more)

-- of an object
unfoldable pub rules_of : Layout → Parts → List Rule
rules_of y p = rules_of_blocks y p ++ rules_of_rows y p
