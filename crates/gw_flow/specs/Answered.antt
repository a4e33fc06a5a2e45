-- What calls answer for the edges of a block: in numbers of the caller's own, and what they say.
use Rattle.std.specs.Prelude.{◌≡◌, ◌⊎◌, ℕ, List, map, take, Option, Some, None, Result, Ok, Err, Vec, All, IfOk}
use Rattle.std.specs.Global.{Global}
use Rattle.gw_object.specs.Reading.{out_of_memory}
use Rattle.gw_object.specs.declared.fault.Fault.{Fault}
use Rattle.gw_object.specs.declared.blocks.Block.{Block}
use Rattle.gw_object.specs.declared.blocks.Block.TheVariants as blocks
use Rattle.gw_object.specs.declared.parts.ReturnRow.{ReturnRow}
use Rattle.gw_object.specs.declared.parts.Parts.{Parts}
use Rattle.gw_rules.specs.Checks.{Check, first_broken}
use Rattle.gw_rules.specs.Kinds.{block_at}
use Rattle.gw_rules.specs.declared.set_parameters.Parameter.{Parameter}
use Rattle.gw_flow.specs.declared.abstract_state.StateParts.{StateParts}
use Rattle.gw_rules.specs.declared.edges.Target.{Target}
use Rattle.gw_flow.specs.declared.edges.Edge.{Edge}
use Rattle.gw_rules.specs.Blocks.{FlowEdge, parameter_set, after, members_edges, own_edges_in, edges}
use Rattle.gw_rules.specs.Entries.{in_place}
use Rattle.gw_rules.specs.Rows.{Row}
use Rattle.gw_rules.specs.Flow.{own_table, rule_checks}
use Rattle.gw_flow.specs.Known.{params_of, known_row}

-- a state says what is known of a transaction once it has passed the block of number b in another one, by the return rows
abbrev pub HasPassed : List ReturnRow → ℕ → Block → StateParts → StateParts → Type 0
HasPassed rows b block s passed = known_row rows passed ≡ after b block (known_row rows s)

-- the parameters that are sure to be set once one is set, if one is; each other one is as it was given
abbrev pub parameters_with : Option Parameter → List Parameter → List Parameter
parameters_with None given = given
parameters_with (Some p) given = in_place (λ (q : Parameter). q.number) p given

-- where an edge leads, and what its state says by the return rows
abbrev pub edge_meaning : List ReturnRow → Edge → Target × Row
edge_meaning rows e = (e.target, known_row rows e.state)

-- where a flow edge leads, and what its state says
abbrev pub flow_edge_meaning : FlowEdge → Target × Row
flow_edge_meaning e = (e.target, e.state)

-- these edges lead where flow edges lead, in the same order, and their states say the same
abbrev pub SayTheSame : List ReturnRow → List Edge → List FlowEdge → Type 0
SayTheSame rows out es = map (edge_meaning rows) out ≡ map flow_edge_meaning es

-- edges are flow edges in the numbers of these parameters: by any return rows by which they say what each of those says of its own, they say the same
abbrev pub AreInNumbersOf : List Parameter → List Edge → List FlowEdge → Type 0
AreInNumbersOf ps out es = (rows : List ReturnRow) → All (λ (e : FlowEdge). e.state.params ≡ params_of rows ps) es → SayTheSame rows out es

-- these are the edges of the block of number b in a state, by the return rows, of those who enter it and of their copies
abbrev pub AreOwnEdges : List ReturnRow → ℕ → Block → StateParts → List Edge → Type 0
AreOwnEdges rows b block s out = SayTheSame rows out (own_edges_in b block (known_row rows s))

-- these are the edges of the members whom a block sends on from their user chain, by an object's own table
abbrev pub AreMembersEdges : Parts → Block → List Edge → Type 0
AreMembersEdges p block out = SayTheSame p.returns out (members_edges (own_table p) block)

-- these are the edges of the block of number b in a state, by an object's own table
abbrev pub AreEdges : Parts → ℕ → Block → StateParts → List Edge → Type 0
AreEdges p b block s out = SayTheSame p.returns out (edges p (own_table p) b block (known_row p.returns s))

-- the edges of those who enter the block, and of their copies: all but the one of the members whom an UNLINK takes from a user chain
abbrev pub own_edges : Block → List Edge → List Edge
own_edges (blocks.Unlink u) out = take 1 out
own_edges block out = out

-- the states of edges have these parameters
abbrev pub HaveParameters : List Edge → List Parameter → Type 0
HaveParameters out ps = All (λ (e : Edge). e.state.parameters ≡ ps) out

-- the states of edges have the parameters that were given, but the one that the block of number b sets
abbrev pub HaveGiven : List Edge → ℕ → Block → List Parameter → Type 0
HaveGiven out b block given = HaveParameters out (parameters_with (parameter_set b block) given)

-- so have the edges of the block of number b but that of the members of a user chain
abbrev pub HaveOwn : List Edge → ℕ → Block → List Parameter → Type 0
HaveOwn out b block given = HaveGiven (own_edges block out) b block given

-- so have those that are answered for a state, if there is no error
abbrev pub KeepOwn : {E : Type 0} → ℕ → StateParts → Result (Vec Edge Global) E → Block → Type 0
KeepOwn b s result block = IfOk result (λ out. HaveOwn out.items b block s.parameters)

-- a fact of the block of a number, where it is there
abbrev pub ForBlock : Parts → ℕ → (Block → Type 0) → Type 0
ForBlock p b fact = (block : Block) → block_at p.blocks b ≡ Some block → fact block

-- the checks of the rules of the block of number b in a state, by an object's return rows
abbrev pub rule_checks_in : Parts → ℕ → StateParts → Block → List Check
rule_checks_in p b s block = rule_checks p b block (known_row p.returns s)

-- what a call answers for the edges of the block of number b in a state: the fault of the first rule that is broken;
-- else its edges, in order, unless memory ran out
abbrev pub AnswersEdges : Parts → ℕ → StateParts → Result (Vec Edge Global) Fault → Block → Type 0
AnswersEdges p b s (Ok out) block = (first_broken (rule_checks_in p b s block) ≡ None) × AreEdges p b block s out.items
AnswersEdges p b s (Err fault) block = (first_broken (rule_checks_in p b s block) ≡ Some fault)
    ⊎ ((first_broken (rule_checks_in p b s block) ≡ None) × (fault ≡ out_of_memory))
