use Rattle.std.proofs.Common.{drop}
use Rattle.gw_settle.specs.Drafts.{rows_held, NotesGoOn}
use Rattle.gw_settle.proofs.Sent.{Sending}
use Rattle.gw_settle.proofs.table.send_all.Given as goal

abbrev pub invariant-loop-edge : goal.invariant-loop-edge
invariant-loop-edge l = record {
  sending : Sending l.parts l.edges (drop l.edge-index l.edges) (rows_held l.fn.draft.rows) (rows_held l.draft.rows) l.change;
  noted : NotesGoOn l.parts l.fn.draft l.draft;
}
