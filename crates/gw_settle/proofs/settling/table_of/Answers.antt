use Rattle.std.proofs.Common.{◌≡◌, ap₂, sym, subst}
use Rattle.gw_settle.specs.Rounds.{rows_of}
use Rattle.gw_settle.specs.Settles.{AreFinal}
use Rattle.gw_settle.proofs.Spelled.{stopped}
use Rattle.gw_settle.proofs.settling.table_of.Goals as goal

pub returns-in-Ok-table_written-clause-table : goal.returns-in-Ok-table_written-clause-table
returns-in-Ok-table_written-clause-table c =
    let e : rows_of c.deref.result.now c.deref-in-Ok.result.now ≡ rows_of c.in-Ok.rows.blocks.items c.in-Ok.rows.chains.items =
    ap₂ rows_of c.deref.ensures.value c.deref-in-Ok.ensures.value in
    record {
      rows = rows_of c.deref.result.now c.deref-in-Ok.result.now;
      says = c.in-Ok-table_written.ensures.says;
      final = subst (AreFinal c.args.parts.now) (sym e) c.in-Ok.ensures;
    }

pub returns-in-Ok-clause-refused : goal.returns-in-Ok-clause-refused
returns-in-Ok-clause-refused c =
    let e : rows_of c.deref.result.now c.deref-in-Ok.result.now ≡ rows_of c.in-Ok.rows.blocks.items c.in-Ok.rows.chains.items =
    ap₂ rows_of c.deref.ensures.value c.deref-in-Ok.ensures.value in
    let final : AreFinal c.args.parts.now (rows_of c.deref.result.now c.deref-in-Ok.result.now) = subst (AreFinal c.args.parts.now) (sym e) c.in-Ok.ensures in
    stopped c.args.parts.now (rows_of c.deref.result.now c.deref-in-Ok.result.now) _ _ final.table c.in-Err-table_written.ensures.stops
    c.fault_of.ensures.memory c.fault_of.ensures.limit
