use Rattle.std.proofs.Common.{◌≡◌, take, None}
use Rattle.gw_pieces.specs.Notes.{NotesMore}
use Rattle.gw_pieces.specs.Reasons.{CodeLimit, ProcedureMissing}
use Rattle.gw_names.specs.Numbers.{numbers_of}
use Rattle.gw_pieces.specs.Sources.{AreCompiled}
use Rattle.gw_pieces.proofs.Reasoning.{DueBefore}
use Rattle.gw_pieces.proofs.compiling.procedures_of.Given as goal

-- where nothing is noted, the procedures so far are those of the origins so far
abbrev pub invariant-loop-place : goal.invariant-loop-place
invariant-loop-place l = record {
  clear : l.ledger.least ≡ None → l.fn.ledger.least ≡ None;
  compiled : l.ledger.least ≡ None
      → AreCompiled (numbers_of l.plan.names) l.plan.text.now.statements.items (take l.place l.plan.order.items) l.procedures.items;
  notes : NotesMore (CodeLimit (numbers_of l.plan.names) l.plan.order.items l.plan.text.now.statements.items)
      (DueBefore (numbers_of l.plan.names) l.plan.order.items l.plan.text.now.statements.items l.place)
      (ProcedureMissing (numbers_of l.plan.names) l.plan.order.items l.plan.text.now.statements.items) l.fn.ledger.least l.ledger.least;
}
