use Rattle.std.proofs.Common.{length, refl, arith}
use Rattle.std.proofs.lemmas.Option.{slice_get_read}
use Rattle.gw_names.specs.Numbers.{numbers_of}
use Rattle.gw_pieces.proofs.Noting.{further_missing, ends_with, after_block}
use Rattle.gw_pieces.proofs.Walks.{next_block, next_recorded}
use Rattle.gw_pieces.proofs.blocks.blocks_of.Goals as goal

pub loop-number-preserved : goal.loop-number-preserved
loop-number-preserved c =
    let n = numbers_of c.args.plan.now.names in
    let order = c.args.plan.now.order.items in
    let ss = c.args.plan.now.text.now.statements.items in
    let i = c.loop-number.number in
    let s = c.index.result.now in
    let at = slice_get_read ss (length ss) i s refl (omega (arith, c.loop-number-test.true, c.len-number-end.ensures)) c.index.ensures in
    let h = c.loop-number.invariant in
    record {
      blocks = next_block n order ss i s at c.loop-number.blocks.items c.put_block.new.blocks.items _ c.in_ok-put_block.ensures.blocks h.blocks;
      clear = λ least. h.clear (c.in_ok-put_block.ensures.ledger least).0;
      recorded = λ least. next_recorded n order ss i s at (c.in_ok-put_block.ensures.ledger least).1 (h.recorded (c.in_ok-put_block.ensures.ledger least).0);
      notes = further_missing _ _ _ h.notes (ends_with _ _ _ c.in_ok-put_block.ensures.notes (after_block n order ss i s at _));
    }
