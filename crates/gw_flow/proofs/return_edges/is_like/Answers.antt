use Rattle.std.proofs.Common.{sym, ◌∙◌}
use Rattle.gw_rules.specs.Seen.{kind_seen}
use Rattle.gw_flow.specs.Known.{known_row}
use Rattle.gw_flow.specs.ViewedTable.{table_viewed}
use Rattle.gw_rules.proofs.Fitting.{fits_is_decided}
use Rattle.gw_flow.proofs.ReturnEdges.{returns_like}
use Rattle.gw_flow.proofs.return_edges.is_like.Goals as goal

pub returns-then-own_suffices : goal.returns-then-own_suffices
returns-then-own_suffices c = λ fit pass.
    let returns = c.args.table.returns.now in
    let state = known_row returns c.args.this.state.now in
    let row = known_row returns c.args.earlier.state.now in
    let fits = (fits_is_decided state row).0 (sym c.fits.ensures ∙ fit) in
    returns_like (table_viewed c.args.table) (kind_seen returns c.args.this.kind) (kind_seen returns c.args.earlier.kind) state row
    (sym c.own_suffices.ensures ∙ c.if-own_suffices.true) fits pass
