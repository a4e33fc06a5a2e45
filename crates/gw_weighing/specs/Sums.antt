-- What the rules of weights ask of a block in its row of the state table, as sums.
use Rattle.std.specs.Prelude.{ℕ, ◌+◌, ◌*◌, min, List, slice_get, Option, Some, None, Bool, ◌==◌, nat_lt, if◌then◌else◌}
use Rattle.std.specs.List.{find, list_any}
use Rattle.std.specs.Option.{option_and_then}
use Rattle.gw_object.specs.declared.blocks.Block.{Block}
use Rattle.gw_object.specs.declared.blocks.Block.TheVariants as blocks
use Rattle.gw_object.specs.Returns.{row_blocks}
use Rattle.gw_object.specs.declared.parts.ReturnRow.{ReturnRow}
use Rattle.gw_object.specs.declared.parts.TableParameter.{TableParameter}
use Rattle.gw_object.specs.declared.parts.TableState.{TableState}
use Rattle.gw_object.specs.declared.parts.Parts.{Parts}
use Rattle.gw_rules.specs.Exits.{leads_to, exits}
use Rattle.gw_rules.specs.Kinds.{return_row_of}
use Rattle.gw_object.specs.Limits.{greatest_weight}
use Rattle.gw_rules.specs.Weights.{above, goes_at_once, slope_at, treats}
use Rattle.gw_rules.specs.declared.slopes.Treatment.{Treatment}
use Rattle.gw_rules.specs.declared.slopes.Treatment.TheVariants.{SetsTo, Lowers}
use Rattle.gw_rules.specs.declared.ways.Way.{Way}
use Rattle.gw_rules.specs.declared.ways.Exit.{Exit}
use Rattle.gw_rules.specs.declared.ways.Who.{Who}
use Rattle.gw_rules.specs.declared.ways.Who.TheVariants.{Itself, Copies}
use Rattle.gw_least_weights.specs.declared.rules.Sum.{Sum}
use Rattle.gw_least_weights.specs.Rules.{nothing}
use Rattle.gw_weighing.specs.Layout.{of_block, of_chain, of_row}
use Rattle.gw_weighing.specs.declared.layout.Layout.{Layout}

-- 1 for an entry, and the weight at a place
abbrev pub with_entry : ℕ → Sum
with_entry place = record { own = 1; first = record { times = 1; place = place }; second = record { times = 0; place = 0 }; less = 0 }

-- 1 for an entry, the weight at a place, and so many times that at another one
abbrev pub with_copies : ℕ → ℕ → ℕ → Sum
with_copies place copies there = record { own = 1; first = record { times = 1; place = place }; second = record { times = copies; place = there }; less = 0 }

-- what a slope of the next block adds, by what is done to its parameter: what it makes of a constant, or the greatest weight, which is too much already
abbrev pub surcharge : ℕ × ℕ → Treatment → ℕ
surcharge slope (SetsTo value) = min (slope.1 * above value) greatest_weight
surcharge slope treatment = 0

-- and what it takes off: what it makes of 1
abbrev pub discount : ℕ × ℕ → Treatment → ℕ
discount slope Lowers = slope.1
discount slope treatment = 0

-- 1 for an entry, and the weight at a place with this slope, by what is done to its parameter
abbrev pub with_slope : ℕ → ℕ × ℕ → Treatment → Sum
with_slope place slope treatment =
    record {
      own = 1 + surcharge slope treatment;
      first = record { times = 1; place = place };
      second = record { times = 0; place = 0 };
      less = discount slope treatment;
    }

-- for who goes along a way of a block to a place with this slope or with none
abbrev pub for_next : ℕ → Block → Way → Option (ℕ × ℕ) → Sum
for_next place block way None = with_entry place
for_next place block way (Some slope) = with_slope place slope (treats block way slope.0)

-- for who goes along a way of the block of number b
abbrev pub for_who : Layout → Parts → ℕ → Block → Way → Who → Sum
for_who y p b block way Itself = for_next (of_block y (leads_to b way)) block way (slope_at p.slopes (leads_to b way))
for_who y p b block way (Copies copies) = with_copies (of_block y (b + 1)) copies (of_block y (leads_to b way))

-- for an exit of the block of number b
abbrev pub for_exit : Layout → Parts → ℕ → Block → Exit → Sum
for_exit y p b block exit = if goes_at_once exit then for_who y p b block exit.way exit.who else nothing

-- for one that it may have
abbrev pub for_exit_there : Layout → Parts → ℕ → Block → Option Exit → Sum
for_exit_there y p b block None = nothing
for_exit_there y p b block (Some exit) = for_exit y p b block exit

-- the return row whose blocks a parameter may return to by a row of the state table
abbrev pub row_held : TableState → ℕ → Option ℕ
row_held row q = option_and_then (λ (set : TableParameter). return_row_of set.kind) (find (λ (set : TableParameter). set.number == q) row.parameters)

-- whether there is a block behind one of these
abbrev pub is_one_followed : Layout → List ℕ → Bool
is_one_followed y bs = list_any (λ b. nat_lt b y.blocks) bs

-- for a return to the blocks of a return row
abbrev pub for_returns : Layout → List ReturnRow → ℕ → Sum
for_returns y rows r = if is_one_followed y (row_blocks rows r) then with_entry (of_row y r) else nothing

-- and of one that a parameter may hold
abbrev pub for_returns_held : Layout → List ReturnRow → Option ℕ → Sum
for_returns_held y rows None = nothing
for_returns_held y rows (Some r) = for_returns y rows r

-- what the block of number b asks first in its row
abbrev pub first_sum : Layout → Parts → ℕ → Block → TableState → Sum
first_sum y p b (blocks.TransferByParameter q) row = for_returns_held y p.returns (row_held row q)
first_sum y p b (blocks.Link l) row = with_entry (of_chain y p.entities l.chain)
first_sum y p b block row = for_exit_there y p b block (slice_get (exits block) 0)

-- and what besides
abbrev pub second_sum : Layout → Parts → ℕ → Block → Sum
second_sum y p b block = for_exit_there y p b block (slice_get (exits block) 1)
