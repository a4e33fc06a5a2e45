use Rattle.std.proofs.Common.{◌≡◌, ◌++◌, drop}
use Rattle.gw_figures.specs.Labels.{labels, blocks_labels}
use Rattle.gw_figures.proofs.labels.put_blocks.Given as goal

-- what is there, and the figures that are left, are what was there and all
abbrev pub invariant-loop-i : goal.invariant-loop-i
invariant-loop-i l = labels l.out.items ++ blocks_labels l.i (drop l.i l.blocks) ≡ labels l.fn.out.items ++ blocks_labels 0 l.fn.blocks
