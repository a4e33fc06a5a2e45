-- Weights: how many block entries each place is worth, and the checks of a weight certificate in order.
use Rattle.std.specs.Prelude.{◌≡◌, ℕ, zero, suc, ◌+◌, ◌*◌, ℤ, pos, negsuc, List, [], ◌∷◌, ◌++◌, slice_index_or, Option, Some, None, is_some, is_none}
use Rattle.std.specs.Prelude.{Bool, true, false, not, ◌||◌, ◌&&◌, ◌==◌, nat_le, if◌then◌else◌}
use Rattle.std.specs.Borrow.{Bor}
use Rattle.std.specs.List.{flat_map}
use Rattle.std.specs.Option.{option_map, option_map_or}
use Rattle.gw_object.specs.declared.blocks.Generate.{Generate}
use Rattle.gw_object.specs.declared.blocks.Block.{Block}
use Rattle.gw_object.specs.declared.blocks.Block.TheVariants as blocks
use Rattle.gw_object.specs.declared.blocks.Operand.{Operand}
use Rattle.gw_object.specs.declared.blocks.Operand.TheVariants.{Constant}
use Rattle.gw_object.specs.declared.blocks.Mode.{Mode}
use Rattle.gw_object.specs.declared.blocks.Mode.TheVariants.{Set}
use Rattle.gw_rules.specs.declared.slopes.Treatment.{Treatment}
use Rattle.gw_rules.specs.declared.slopes.Treatment.TheVariants.{Keeps, SetsTo, Lowers, RunsOut, Changes}
use Rattle.gw_rules.specs.declared.ways.Way.{Way}
use Rattle.gw_rules.specs.declared.ways.Way.TheVariants.{Falls, Goes}
use Rattle.gw_object.specs.declared.fault.Place.TheVariants as places
use Rattle.gw_object.specs.declared.parts.Parts.{Parts}
use Rattle.gw_object.specs.declared.parts.TableState.{TableState}
use Rattle.gw_rules.specs.Checks.{Check, check, first_broken, checks_by_number}
use Rattle.gw_rules.specs.Exits.{leads_to, takes_time, exits_with}
use Rattle.gw_rules.specs.Kinds.{chain_place}
use Rattle.gw_rules.specs.declared.ways.Who.{Who}
use Rattle.gw_rules.specs.declared.ways.Who.TheVariants.{Itself, Copies}
use Rattle.gw_rules.specs.declared.ways.Exit.{Exit}
use Rattle.gw_rules.specs.declared.edges.Target.{Target}
use Rattle.gw_rules.specs.declared.edges.Target.TheVariants as targets
use Rattle.gw_rules.specs.Rows.{ParamKind, Num, Row, kind_of}
use Rattle.gw_rules.specs.Seen.{row_meaning}
use Rattle.gw_rules.specs.Blocks.{is_used, returns_read}
use Rattle.gw_rules.specs.Flow.{own_table, own_row}
use Rattle.gw_rules.specs.WeightsCodes as codes

-- ROWS

-- what a row of the state table says by an object's own return rows, if there is one
abbrev pub meaning_of : Parts → Option (Bor TableState) → Option Row
meaning_of p row = option_map (λ r. row_meaning p.returns r.now) row

-- WEIGHTS

-- the weight of the block of a number, where these are the weights of all; blocks count from 1
abbrev pub weight_at : List ℕ → ℕ → ℕ
weight_at weights zero = 0
weight_at weights (suc i) = slice_index_or weights i 0

-- the weight of the user chain that is the entity of a number
abbrev pub chain_weight : Parts → ℕ → ℕ
chain_weight p c = slice_index_or p.chain_weights (chain_place p.entities c) 0

-- the weight of a place, a block or a user chain: how many entries it pays for, of who goes on from there and of its copies, until time passes
abbrev pub weight_of : Parts → Target → ℕ
weight_of p (targets.Block b) = weight_at p.weights b
weight_of p (targets.Chain c) = chain_weight p c

-- SLOPES

-- the slope of the block of a number, where these are the slopes of all, if it has one: a parameter, and how much its
-- weight grows with each unit of that above 0
abbrev pub slope_at : List (Option (ℕ × ℕ)) → ℕ → Option (ℕ × ℕ)
slope_at slopes zero = None
slope_at slopes (suc i) = slice_index_or slopes i None

-- how far a value is above 0
abbrev pub above : ℤ → ℕ
above (pos n) = n
above (negsuc n) = 0

-- how steep a slope is; without one it is flat
abbrev pub per_of : Option (ℕ × ℕ) → ℕ
per_of None = 0
per_of (Some slope) = slope.1

-- the parameter that a block changes, if it changes one
abbrev pub changed_parameter : Block → Option ℕ
changed_parameter (blocks.Assign a) = Some a.parameter
changed_parameter (blocks.TransferToSubroutine c) = Some c.parameter
changed_parameter (blocks.Loop l) = Some l.parameter
changed_parameter (blocks.Mark q) = q
changed_parameter (blocks.Plus a) = a.parameter
changed_parameter block = None

-- what an ASSIGN of this mode and value does to its parameter
abbrev pub assigns : Mode → Operand → Treatment
assigns Set (Constant value) = SetsTo value
assigns mode value = Changes

-- what a block does to the parameter that it changes: a LOOP goes to its target where it stays above 0, and falls where it comes to 0 or below
abbrev pub treatment : Block → Way → Treatment
treatment (blocks.Assign a) way = assigns a.mode a.value
treatment (blocks.Loop l) Falls = RunsOut
treatment (blocks.Loop l) (Goes target) = Lowers
treatment block way = Changes

-- what a block does to a parameter on a way of it
abbrev pub treats : Block → Way → ℕ → Treatment
treats block way q = option_map_or (λ r. if r == q then treatment block way else Keeps) (changed_parameter block) Keeps

-- RULES

-- whether the slope of a block covers another one: it is on the same parameter, and at least as steep
abbrev pub covers : Option (ℕ × ℕ) → ℕ × ℕ → Bool
covers None slope = false
covers (Some own) slope = (own.0 == slope.0) && nat_le slope.1 own.1

-- whether a block of this weight and slope pays for the entry and for a next block of this weight and slope, by what it does to the slope's parameter
abbrev pub pays_slope : ℕ → Option (ℕ × ℕ) → ℕ → ℕ × ℕ → Treatment → Bool
pays_slope weight own there slope Keeps = nat_le (1 + there) weight && covers own slope
pays_slope weight own there slope (SetsTo value) = nat_le (1 + there + slope.1 * above value) weight
pays_slope weight own there slope Lowers = nat_le (1 + there) (weight + slope.1) && covers own slope
pays_slope weight own there slope RunsOut = nat_le (1 + there) weight
pays_slope weight own there slope Changes = false

-- the same for one that has a slope or none
abbrev pub pays_to : ℕ → Option (ℕ × ℕ) → ℕ → Block → Way → Option (ℕ × ℕ) → Bool
pays_to weight own there block way None = nat_le (1 + there) weight
pays_to weight own there block way (Some slope) = pays_slope weight own there slope (treats block way slope.0)

-- whether a slope is on the parameter of another one, or flat
abbrev pub is_on : Option (ℕ × ℕ) → Option (ℕ × ℕ) → Bool
is_on own None = true
is_on None (Some slope) = false
is_on (Some own) (Some slope) = own.0 == slope.0

-- whether the block of number b pays for the entry, for the block after it, and for so many copies at another one
abbrev pub pays_copies : Parts → ℕ → ℕ → ℕ → Bool
pays_copies p b copies target =
    (nat_le (1 + weight_at p.weights (b + 1) + copies * weight_at p.weights target) (weight_at p.weights b)
    && is_on (slope_at p.slopes b) (slope_at p.slopes (b + 1)))
    && (is_on (slope_at p.slopes b) (slope_at p.slopes target)
    && nat_le (per_of (slope_at p.slopes (b + 1)) + copies * per_of (slope_at p.slopes target)) (per_of (slope_at p.slopes b)))

-- whether the block of number b pays for who goes along a way of it
abbrev pub pays_way : Parts → ℕ → Block → Way → Who → Bool
pays_way p b block way Itself =
    pays_to (weight_at p.weights b) (slope_at p.slopes b) (weight_at p.weights (leads_to b way)) block way (slope_at p.slopes (leads_to b way))
pays_way p b block way (Copies copies) = pays_copies p b copies (leads_to b way)

-- whether somebody may go along an exit in the clock moment of the entry
abbrev pub goes_at_once : Exit → Bool
goes_at_once exit = is_used exit.who && not exit.passes_time

-- whether only so many arrivals of a GENERATE may come in one clock moment: its interval is 1 or more, or it has a limit
abbrev pub is_bounded : Generate → Bool
is_bounded g = takes_time g.interval.mean g.interval.half || is_some g.limit

-- CHECKS

-- whether a row knows of a parameter that it is a number
abbrev pub is_number : Option ParamKind → Bool
is_number (Some Num) = true
is_number kind = false

-- the slope of a block that has a row is on a parameter that is a number there (43)
abbrev pub slope_checks : Parts → ℕ → Option Row → List Check
slope_checks p b None = []
slope_checks p b (Some row) =
    option_map_or (λ (slope : ℕ × ℕ). check codes.slope_param (places.Block b) (is_number (kind_of row slope.0)) ∷ []) (slope_at p.slopes b) []

-- the arrivals of a GENERATE, whether it has a row or not (42)
abbrev pub arrival_checks : ℕ → Block → List Check
arrival_checks b (blocks.Generate g) = check codes.arrival_weight (places.Block b) (is_bounded g) ∷ []
arrival_checks b block = []

-- a LINK pays for the entry and for its user chain, and a user chain that has a row for where an UNLINK sends its members (41)
abbrev pub chain_checks : Parts → ℕ → Block → List Check
chain_checks p b (blocks.Link l) = check codes.chain_weight (places.Block b) (nat_le (1 + chain_weight p l.chain) (weight_at p.weights b)) ∷ []
chain_checks p b (blocks.Unlink u) = check codes.chain_weight (places.Block b) (is_none (slope_at p.slopes u.target))
    ∷ (if is_some (own_table p (targets.Chain u.chain)) then
    check codes.chain_weight (places.Block b) (nat_le (weight_at p.weights u.target) (chain_weight p u.chain)) ∷ [] else [])
chain_checks p b block = []

-- the block of number b pays for the entry, and for where one of its exits leads at once (40)
abbrev pub exit_checks : Parts → ℕ → Block → Exit → List Check
exit_checks p b block exit = if goes_at_once exit then
    check codes.weight_edge (places.Edge b (leads_to b exit.way)) (pays_way p b block exit.way exit.who) ∷ [] else []

-- for where each of these leads
abbrev pub exits_checks : Parts → ℕ → Block → List Exit → List Check
exits_checks p b block exits = flat_map (exit_checks p b block) exits

-- for where its exits lead that it has in a row
abbrev pub own_exits_checks : Parts → ℕ → Block → Row → List Check
own_exits_checks p b block row = exits_checks p b block (exits_with (returns_read block row) block)

-- the block of number b in its row, if it has one: its user chain, then its exits in order
abbrev pub row_checks : Parts → ℕ → Block → Option Row → List Check
row_checks p b block None = []
row_checks p b block (Some row) = chain_checks p b block ++ own_exits_checks p b block row

-- in this row of the state table: its exits
abbrev pub exits_checks_in : Parts → ℕ → Block → TableState → List Check
exits_checks_in p b block row = own_exits_checks p b block (row_meaning p.returns row)

-- and all that is checked of it there
abbrev pub row_checks_in : Parts → ℕ → Block → TableState → List Check
row_checks_in p b block row = row_checks p b block (Some (row_meaning p.returns row))

-- the checks of the block of number b
abbrev pub checks_at : Parts → ℕ → Block → List Check
checks_at p b block = slope_checks p b (own_row p b) ++ (arrival_checks b block ++ row_checks p b block (own_row p b))

-- every check of weights of an object, in order
unfoldable pub weight_checks : Parts → List Check
weight_checks p = checks_by_number (checks_at p) 1 p.blocks

-- weights pass: no check of them is broken
abbrev pub WeightsPass : Parts → Type 0
WeightsPass p = first_broken (weight_checks p) ≡ None
