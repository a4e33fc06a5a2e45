use Rattle.std.proofs.Common.{◌≡◌, map, option_map, refl, sym, subst, ap, ◌∙◌}
use Rattle.std.specs.Prelude.{All}
use Rattle.gw_object.specs.Grammar.{AreAscending}
use Rattle.gw_rules.specs.Seen.{row_meaning}
use Rattle.gw_flow.specs.Known.{known_row}
use Rattle.gw_rules.specs.Blocks.{Table}
use Rattle.gw_rules.specs.Flow.{table_of, own_table, flow_checks, MayFind}
use Rattle.gw_rules.proofs.Rooms.{rows_have_room}
use Rattle.gw_flow.proofs.checking.check_by.Goals as goal

pub check_blocks-requires-clause-few : goal.check_blocks-requires-clause-few
check_blocks-requires-clause-few c = c.requires.spelled.limits.blocks

pub check_blocks-requires-clause-returns : goal.check_blocks-requires-clause-returns
check_blocks-requires-clause-returns c = subst (All AreAscending) (sym c.requires.returns) c.requires.spelled.canonical.each_return

pub check_blocks-requires-clause-room : goal.check_blocks-requires-clause-room
check_blocks-requires-clause-room c =
    let p = c.args.parts.now in
    let returns = c.args.returns.now in
    let blocks : map (option_map (known_row returns)) c.deref.result.now ≡ map (option_map (row_meaning p.returns)) p.states =
    ap (map (option_map (known_row returns))) c.deref.ensures.value ∙ c.in-Ok.ensures.blocks returns
    ∙ ap (λ rs. map (option_map (row_meaning rs)) p.states) c.requires.returns in
    λ b row is. rows_have_room p.returns c.requires.next p.states c.requires.spelled.limits.each_state b row (rw (sym blocks) is)

pub returns-in-Ok : goal.returns-in-Ok
returns-in-Ok c =
    let p = c.args.parts.now in
    let returns = c.args.returns.now in
    let blocks : map (option_map (known_row returns)) c.deref.result.now ≡ map (option_map (row_meaning p.returns)) p.states =
    ap (map (option_map (known_row returns))) c.deref.ensures.value ∙ c.in-Ok.ensures.blocks returns
    ∙ ap (λ rs. map (option_map (row_meaning rs)) p.states) c.requires.returns in
    let chains : map (option_map (known_row returns)) c.deref-in-Ok.result.now ≡ map (option_map (row_meaning p.returns)) p.chain_states =
    ap (map (option_map (known_row returns))) c.deref-in-Ok.ensures.value ∙ c.in-Ok.ensures.chains returns
    ∙ ap (λ rs. map (option_map (row_meaning rs)) p.chain_states) c.requires.returns in
    let table : table_of (map (option_map (known_row returns)) c.deref.result.now) c.as_slice.result.now
    (map (option_map (known_row returns)) c.deref-in-Ok.result.now) ≡ own_table p = rw (blocks, chains, c.as_slice.ensures) refl in
    subst (λ (t : Table). MayFind c.check_blocks.result (flow_checks p t)) table c.check_blocks.ensures
