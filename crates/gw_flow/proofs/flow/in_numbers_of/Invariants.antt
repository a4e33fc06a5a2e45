use Rattle.std.proofs.Common.{◌≡◌, List, take}
use Rattle.std.specs.Prelude.{All}
use Rattle.gw_object.specs.declared.parts.ReturnRow.{ReturnRow}
use Rattle.gw_flow.specs.declared.edges.Edge.{Edge}
use Rattle.gw_rules.specs.Blocks.{FlowEdge}
use Rattle.gw_flow.specs.Known.{params_of}
use Rattle.gw_flow.specs.Answered.{SayTheSame}
use Rattle.gw_flow.proofs.flow.in_numbers_of.Given as goal

-- so far each edge is the same, with these parameters
abbrev pub invariant-loop-edge : goal.invariant-loop-edge
invariant-loop-edge l = record {
  same : (rows : List ReturnRow) → All (λ (e : FlowEdge). e.state.params ≡ params_of rows l.parameters) l.edges
      → SayTheSame rows l.out.items (take l.edge-index l.edges);
  own : All (λ (e : Edge). e.state.parameters ≡ l.parameters) l.out.items;
}
