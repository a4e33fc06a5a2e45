-- Blocks: what each asks of a transaction that enters it, and what is known of the transaction where it goes on.
use Rattle.std.specs.Prelude.{ℕ, ◌+◌, ◌-◌, List, [], ◌∷◌, ◌++◌, length, Option, Some, None, is_some, Bool, true, false, if◌then◌else◌, not, ◌||◌, ◌==◌, nat_le}
use Rattle.std.specs.List.{flat_map}
use Rattle.std.specs.Option.{option_map, option_map_or}
use Rattle.gw_object.specs.Entities.{capacity_of}
use Rattle.gw_object.specs.declared.parts.Entity.{Entity}
use Rattle.gw_object.specs.declared.blocks.Mode.{Mode}
use Rattle.gw_object.specs.declared.blocks.Mode.TheVariants.{Set, Add, Subtract}
use Rattle.gw_object.specs.declared.blocks.Operand.{Operand}
use Rattle.gw_object.specs.declared.blocks.Block.{Block}
use Rattle.gw_object.specs.declared.blocks.Block.TheVariants as blocks
use Rattle.gw_object.specs.declared.parts.Parts.{Parts}
use Rattle.gw_rules.specs.declared.ways.Who.{Who}
use Rattle.gw_rules.specs.declared.ways.Who.TheVariants.{Itself, Copies}
use Rattle.gw_rules.specs.declared.ways.Exit.{Exit}
use Rattle.gw_rules.specs.Exits.{leads_to, exits_with}
use Rattle.gw_rules.specs.Sources.{kind_at, evaluation_operands}
use Rattle.gw_rules.specs.Kinds.{is_generate}
use Rattle.gw_rules.specs.Code.{parameters_asked}
use Rattle.gw_rules.specs.declared.edges.Target.{Target}
use Rattle.gw_rules.specs.declared.edges.Target.TheVariants as targets
use Rattle.gw_rules.specs.declared.edges.FlowEdge.{FlowEdge as EdgeOf}
use Rattle.gw_rules.specs.declared.set_parameters.ParameterKind.TheVariants.{Num as OwnNum, RetTo as OwnRetTo}
use Rattle.gw_rules.specs.declared.set_parameters.Parameter.{Parameter}
use Rattle.gw_rules.specs.FlowCodes as codes
use Rattle.gw_rules.specs.Entries.{in_order}
use Rattle.gw_rules.specs.Seen.{kind_seen}
use Rattle.gw_rules.specs.Rows.{Row, kind_of, is_number, is_return, return_blocks, owns, units_of, is_empty, nothing_known, with_parameter, with_facility, without_facility, with_units, parameters_alone}

-- a state table: what is known of a transaction that is about to go to a target, if it says that one may go there
abbrev pub Table : Type 0
Table = Target → Option Row

-- RULES

-- a rule of a block in a state: whether it holds, and the code of the fault where it doesn't
pub record Rule : Type 0 where
  pub code : ℕ
  pub holds : Bool

-- a rule with this code, which holds or doesn't
abbrev pub rule : ℕ → Bool → Rule
rule code holds = record { code = code; holds = holds }

-- the capacity of the entity of a number; 0 where it is no storage, or isn't there
abbrev pub capacity_at : List Entity → ℕ → ℕ
capacity_at es e = option_map_or capacity_of (kind_at es e) 0

-- units of an entity are given back by who is sure to hold as many (23)
abbrev pub holds_units : Row → ℕ → ℕ → Rule
holds_units state e n = rule codes.too_few_units (nat_le n (units_of state e))

-- a parameter that is used is set (20), and to what serves (27)
abbrev pub use_rules : Row → ℕ → Bool → List Rule
use_rules state p serves = rule codes.unset_param (is_some (kind_of state p)) ∷ rule codes.param_kind serves ∷ []

-- one that is used as a number is set to a number
abbrev pub number_rules : Row → ℕ → List Rule
number_rules state p = use_rules state p (is_number (kind_of state p))

-- the parameters that operands ask for, through procedures, variables and functions too, ascending, each once
abbrev pub parameters_read : Parts → List Operand → List ℕ
parameters_read p os = in_order (flat_map (parameters_asked p) os)

-- the first rule of each block: each parameter that the operands ask for which are evaluated there is set, to a number
abbrev pub value_rules : Parts → Block → Row → List Rule
value_rules p block state = flat_map (number_rules state) (parameters_read p (evaluation_operands p.entities block))

-- a parameter that is used as a return is set to a return
abbrev pub return_rules : Row → ℕ → List Rule
return_rules state p = use_rules state p (is_return (kind_of state p))

-- whether a value takes the place of another one
abbrev pub replaces : Mode → Bool
replaces Set = true
replaces Add = false
replaces Subtract = false

-- what each block asks besides, in order
abbrev pub own_rules : Parts → Block → Row → List Rule
-- of an arrival nothing is known but that it owns nothing (25)
own_rules p (blocks.Generate g) state = rule codes.edge_state (is_empty state) ∷ []
-- who ends owns nothing (24)
own_rules p (blocks.Terminate by) state = rule codes.owns_at_end (length state.facilities == 0) ∷ []
-- who may be merged into another owns nothing (24)
own_rules p (blocks.Assemble size) state = rule codes.owns_at_end (length state.facilities == 0) ∷ []
-- a facility isn't seized by its owner (21), and is released by its owner alone (22)
own_rules p (blocks.Seize f) state = rule codes.already_owned (not (owns state f)) ∷ []
own_rules p (blocks.Release f) state = rule codes.not_owner (owns state f) ∷ []
-- a request is within the capacity (28)
own_rules p (blocks.Enter u) state = rule codes.over_capacity (nat_le u.number (capacity_at p.entities u.entity)) ∷ []
own_rules p (blocks.Leave u) state = holds_units state u.entity u.number ∷ []
own_rules p (blocks.Depart u) state = holds_units state u.entity u.number ∷ []
-- nothing is added to a return or subtracted from it (27)
own_rules p (blocks.Assign a) state = rule codes.param_kind (replaces a.mode || not (is_return (kind_of state a.parameter))) ∷ []
-- where a TRANSFER in parameter mode leads to is a return (20, 27)
own_rules p (blocks.TransferByParameter q) state = return_rules state q
-- what a LOOP counts down is a number (20, 27)
own_rules p (blocks.Loop l) state = number_rules state l.parameter
own_rules p block state = []

-- the rules of a block in a state, in order
abbrev pub rules : Parts → Block → Row → List Rule
rules p block state = value_rules p block state ++ own_rules p block state

-- the rules of a block for which the table has no row: a GENERATE has one (25). No parameter is set in a row that isn't there (20)
abbrev pub rules_without_row : Parts → Block → List Rule
rules_without_row p block = if is_generate (Some block) then value_rules p block nothing_known ++ rule codes.edge_state false ∷ [] else []

-- EDGES

-- a flow edge: where a transaction goes on to, with what is known of it there
abbrev pub FlowEdge : Type 0
FlowEdge = EdgeOf Row

-- a parameter that is set to a number
abbrev pub number_in : ℕ → Parameter
number_in q = record { number = q; kind = OwnNum }

-- the parameter that the block of number b sets, if it sets one: to a number, or to the return to the block itself
abbrev pub parameter_set : ℕ → Block → Option Parameter
parameter_set b (blocks.Assign a) = Some (number_in a.parameter)
parameter_set b (blocks.TransferToSubroutine c) = Some (record { number = c.parameter; kind = OwnRetTo b })
parameter_set b (blocks.Mark p) = option_map number_in p
parameter_set b (blocks.Plus a) = option_map number_in a.parameter
parameter_set b block = None

-- the state once a parameter is set, if one is; no return row is named
abbrev pub with_setting : Option Parameter → Row → Row
with_setting None state = state
with_setting (Some set) state = with_parameter set.number (kind_seen [] set.kind) state

-- what is known of a transaction once it has passed the block of number b in a state; most blocks change nothing of it
abbrev pub after : ℕ → Block → Row → Row
after b (blocks.Seize f) state = with_facility f state
after b (blocks.Release f) state = without_facility f state
after b (blocks.Enter u) state = with_units u.entity (units_of state u.entity + u.number) state
after b (blocks.Leave u) state = with_units u.entity (units_of state u.entity - u.number) state
after b (blocks.Queue u) state = with_units u.entity (units_of state u.entity + u.number) state
after b (blocks.Depart u) state = with_units u.entity (units_of state u.entity - u.number) state
after b block state = with_setting (parameter_set b block) state

-- the blocks to which the return may lead that a TRANSFER in parameter mode reads; no other block reads one
abbrev pub returns_read : Block → Row → List ℕ
returns_read (blocks.TransferByParameter q) state = return_blocks (kind_of state q)
returns_read block state = []

-- a transaction goes on to a block
abbrev pub move : ℕ → Row → FlowEdge
move b state = record { code = codes.edge_state; target = targets.Block b; state = state }

-- whether somebody may go along an exit: the way of no copies isn't gone
abbrev pub is_used : Who → Bool
is_used Itself = true
is_used (Copies copies) = not (copies == 0)

-- what is known of who goes along an exit, where this is known of a transaction that has passed the block
abbrev pub known_of : Who → Row → Row
known_of Itself passed = passed
known_of (Copies copies) passed = parameters_alone passed

-- the flow edge along an exit of the block of number b, if somebody may go along it
abbrev pub edge_along : ℕ → Row → Exit → List FlowEdge
edge_along b passed exit = if is_used exit.who then move (leads_to b exit.way) (known_of exit.who passed) ∷ [] else []

-- the flow edges along these exits of the block of number b, where this is known of a transaction that has passed it
abbrev pub edges_along : ℕ → List Exit → Row → List FlowEdge
edges_along b exits passed = flat_map (edge_along b passed) exits

-- the flow edges of the block of number b to blocks in a state, in order, of those who enter it and of their copies
abbrev pub edges_from : ℕ → Block → Row → List FlowEdge
edges_from b block state = edges_along b (exits_with (returns_read block state) block) (after b block state)

-- a transaction joins a user chain
abbrev pub join : ℕ → Row → FlowEdge
join chain state = record { code = codes.chain_state; target = targets.Chain chain; state = state }

-- the members of a user chain go on to a block, where a table has a row of the chain; where it has none, the chain has no members
abbrev pub members_move : ℕ → Option Row → List FlowEdge
members_move b None = []
members_move b (Some members) = record (move b members) { code = codes.chain_state } ∷ []

-- the flow edge of who enters a block to the user chain that it joins, if it is a LINK
abbrev pub joins : Block → Row → List FlowEdge
joins (blocks.Link l) state = join l.chain state ∷ []
joins block state = []

-- the flow edges of the block of number b in a state, in order, of those who enter it and of their copies
abbrev pub own_edges_in : ℕ → Block → Row → List FlowEdge
own_edges_in b block state = edges_from b block state ++ joins block state

-- the flow edge of the members whom a block sends on from their user chain, if it is an UNLINK
abbrev pub members_edges : Table → Block → List FlowEdge
members_edges table (blocks.Unlink u) = members_move u.target (table (targets.Chain u.chain))
members_edges table block = []

-- the flow edges of a block in a state to a user chain and from one: a LINK leads to its chain, and an UNLINK sends the chain's members on
abbrev pub chain_edges : Table → Block → Row → List FlowEdge
chain_edges table block state = joins block state ++ members_edges table block

-- the flow edges of the block of number b in a state, in order
abbrev pub edges_of : Table → ℕ → Block → Row → List FlowEdge
edges_of table b block state = edges_from b block state ++ chain_edges table block state

-- and in an object, of which they ask nothing
abbrev pub edges : Parts → Table → ℕ → Block → Row → List FlowEdge
edges p table b block state = edges_of table b block state
