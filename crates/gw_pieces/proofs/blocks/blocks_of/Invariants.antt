use Rattle.std.proofs.Common.{◌≡◌, ◌++◌, drop, None}
use Rattle.gw_pieces.specs.Notes.{NotesMissing}
use Rattle.gw_names.specs.Numbers.{numbers_of}
use Rattle.gw_pieces.specs.Blocks.{blocks_from, AllRecorded}
use Rattle.gw_pieces.specs.Reasons.{BlockMissing}
use Rattle.gw_pieces.proofs.blocks.blocks_of.Given as goal

-- the blocks are those of the statements so far, and each of these is recorded where nothing is noted
abbrev pub invariant-loop-number : goal.invariant-loop-number
invariant-loop-number l = record {
  blocks : l.blocks.items ++ blocks_from (numbers_of l.plan.names) l.plan.order.items l.number
      (drop l.number l.plan.text.now.statements.items) ≡ blocks_from (numbers_of l.plan.names) l.plan.order.items 0 l.plan.text.now.statements.items;
  clear : l.ledger.least ≡ None → l.fn.ledger.least ≡ None;
  recorded : l.ledger.least ≡ None
      → AllRecorded (numbers_of l.plan.names) l.plan.order.items l.number (drop l.number l.plan.text.now.statements.items)
      → AllRecorded (numbers_of l.plan.names) l.plan.order.items 0 l.plan.text.now.statements.items;
  notes : NotesMissing (BlockMissing (numbers_of l.plan.names) l.plan.order.items l.plan.text.now.statements.items) l.fn.ledger.least l.ledger.least;
}
