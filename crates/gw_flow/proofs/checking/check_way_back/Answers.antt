use Rattle.std.proofs.Common.{sym, subst}
use Rattle.std.specs.Prelude.{All}
use Rattle.std.proofs.lemmas.List.Elements.{All-push}
use Rattle.gw_rules.specs.Seen.{kind_seen}
use Rattle.gw_flow.specs.Known.{known_row}
use Rattle.gw_flow.specs.ViewedTable.{table_viewed}
use Rattle.gw_flow.specs.ReturnEdges.{PassesBy}
use Rattle.gw_flow.proofs.ReturnEdges.{return_holds, return_passes}
use Rattle.gw_flow.proofs.checking.check_way_back.Goals as goal

pub returns-then-is_like_latest-clause-found : goal.returns-then-is_like_latest-clause-found
returns-then-is_like_latest-clause-found c =
    let returns = c.args.table.returns.now in
    return_holds (table_viewed c.args.table) c.args.parts.now c.args.number c.args.parameter (known_row returns c.args.this.state.now)
    (kind_seen returns c.args.this.kind) c.requires.held
    (c.is_like_latest.ensures c.if-is_like_latest.true)

pub returns-in-Ok-clause-pass : goal.returns-in-Ok-clause-pass
returns-in-Ok-clause-pass c =
    let returns = c.args.table.returns.now in
    let passes = return_passes (table_viewed c.args.table) c.args.parts.now c.args.number c.args.parameter
    (known_row returns c.args.this.state.now) (kind_seen returns c.args.this.kind) c.requires.held c.in_ok-check_in.ensures in
    subst (All (PassesBy c.args.table)) (sym c.in-Ok.ensures.items)
    (All-push (PassesBy c.args.table) c.args.earlier.now.items c.args.this c.requires.pass passes)
