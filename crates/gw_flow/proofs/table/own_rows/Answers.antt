use Rattle.std.proofs.Common.{◌++◌, ◌∷◌, [], ◌≤◌, ◌∙◌, length, sym, ap, map, take, option_map, arith}
use Rattle.std.proofs.lemmas.List.{map-append, take_more, take_all}
use Rattle.gw_rules.specs.Seen.{row_meaning}
use Rattle.gw_flow.specs.Known.{known_row}
use Rattle.gw_flow.proofs.table.own_rows.Goals as goal

pub loop-state-preserved : goal.loop-state-preserved
loop-state-preserved c = λ returns.
    let row = c.in_ok-own_row.field-0 in
    let before = take c.loop-state.state-index c.args.states.now in
    let more = take_more c.args.states.now c.loop-state.state-index c.state-item.result c.loop-state-test.true in
    rw c.in_ok-push.ensures.items (map-append (option_map (known_row returns)) c.loop-state.rows.items (row ∷ [])
    ∙ ap (λ xs. xs ++ option_map (known_row returns) row ∷ []) (c.loop-state.invariant returns)
    ∙ ap (λ x. map (option_map (row_meaning returns)) before ++ x ∷ []) (c.in_ok-own_row.ensures returns)
    ∙ sym (map-append (option_map (row_meaning returns)) before (c.state-item.result ∷ []))
    ∙ ap (map (option_map (row_meaning returns))) (ap (λ x. before ++ x ∷ []) c.state-item.is ∙ sym more))

pub returns : goal.returns
returns c = λ returns.
    let past : length c.args.states.now ≤ c.loop-state.state-index = omega (arith, c.loop-state-test.false) in
    c.loop-state.invariant returns ∙ ap (map (option_map (row_meaning returns))) (take_all c.loop-state.state-index c.args.states.now past)
