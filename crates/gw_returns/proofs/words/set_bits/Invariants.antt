use Rattle.std.proofs.Common.{◌≡◌, take, length}
use Rattle.gw_returns.specs.Words.{with_bits}
use Rattle.gw_returns.proofs.words.set_bits.Given as goal

-- the bit is set in the words of the blocks so far, and there are as many words as before
abbrev pub invariant-loop-block : goal.invariant-loop-block
invariant-loop-block l = record {
  set : l.words ≡ with_bits l.place l.fn.words (take l.block-index l.blocks);
  length : length l.words ≡ length l.fn.words;
}
