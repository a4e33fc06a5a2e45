use Rattle.std.proofs.Common.{◌≡◌, map, take}
use Rattle.gw_settle.specs.Rounds.{start_row}
use Rattle.gw_settle.proofs.rounds.start_blocks.Given as goal

-- the rows so far are those of the blocks so far
abbrev pub invariant-loop-block : goal.invariant-loop-block
invariant-loop-block l = l.rows.items ≡ map start_row (take l.block-index l.blocks)
