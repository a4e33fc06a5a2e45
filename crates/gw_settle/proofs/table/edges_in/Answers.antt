use Rattle.std.proofs.Common.{rules, ◌≡◌, sym, subst}
use Rattle.gw_rules.specs.Rows.{HasRoom}
use Rattle.gw_settle.proofs.table.edges_in.Goals as goal

pub edges_sent-edges-requires-clause-room : goal.edges_sent-edges-requires-clause-room
edges_sent-edges-requires-clause-room c =
    let is : c.in_ok-state.state ≡ c.args.row.now = search rules in
    subst HasRoom (sym is) c.requires.room
