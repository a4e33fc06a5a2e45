use Rattle.std.proofs.Common.{◌≡◌, ◌++◌, ◌∷◌, [], ◌∙◌, sym, ap, ap₂, map, take}
use Rattle.std.proofs.lemmas.List.{map-append, take_more}
use Rattle.std.proofs.lemmas.List.Elements.{All-push}
use Rattle.gw_flow.specs.declared.edges.Edge.{Edge}
use Rattle.gw_rules.specs.declared.edges.Target.{Target}
use Rattle.gw_rules.specs.Rows.{Row}
use Rattle.gw_flow.specs.Answered.{edge_meaning, flow_edge_meaning}
use Rattle.gw_flow.proofs.flow.in_numbers_of.Goals as goal

pub loop-edge-preserved : goal.loop-edge-preserved
loop-edge-preserved c =
    let made = c.in_ok-edge_in_numbers_of.field-0 in
    let more = take_more c.args.edges.now c.loop-edge.edge-index c.edge-item.result c.loop-edge-test.true in
    let said_of : Target → Row → Target × Row = λ target state. (target, state) in
    let both = map-append flow_edge_meaning (take c.loop-edge.edge-index c.args.edges.now) (c.edge-item.result ∷ []) in
    record {
      same = λ rows each. rw c.in_ok-push.ensures.items (map-append (edge_meaning rows) c.loop-edge.out.items (made ∷ [])
          ∙ ap (λ xs. xs ++ edge_meaning rows made ∷ []) (c.loop-edge.invariant.same rows each)
          ∙ ap (λ x. map flow_edge_meaning (take c.loop-edge.edge-index c.args.edges.now) ++ x ∷ [])
          (ap₂ said_of c.in_ok-edge_in_numbers_of.ensures.target
          (c.in_ok-edge_in_numbers_of.ensures.same rows (rw c.edge-item.is (each c.loop-edge.edge-index c.edge-item.result c.loop-edge-test.true))))
          ∙ sym both ∙ ap (map flow_edge_meaning) (ap (λ x. take c.loop-edge.edge-index c.args.edges.now ++ x ∷ []) c.edge-item.is ∙ sym more));
      own = rw c.in_ok-push.ensures.items
          (All-push (λ (e : Edge). e.state.parameters ≡ c.args.parameters.now) c.loop-edge.out.items made c.loop-edge.invariant.own
          c.in_ok-edge_in_numbers_of.ensures.own);
    }
