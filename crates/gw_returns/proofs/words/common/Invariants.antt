use Rattle.std.proofs.Common.{◌≡◌, take}
use Rattle.gw_returns.specs.Words.{common}
use Rattle.gw_returns.proofs.words.common.Given as goal

-- what the words of the blocks so far have in common
abbrev pub invariant-loop-block : goal.invariant-loop-block
invariant-loop-block l = l.all ≡ common l.words (take l.block-index l.blocks)
