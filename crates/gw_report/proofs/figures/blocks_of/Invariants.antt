use Rattle.std.proofs.Common.{◌≡◌, map}
use Rattle.std.specs.List.{range_with_len}
use Rattle.gw_report.specs.Figures.{figures_of_block}
use Rattle.gw_report.proofs.figures.blocks_of.Given as goal

-- those of the numbers so far
abbrev pub invariant-loop-i : goal.invariant-loop-i
invariant-loop-i l = l.blocks.items ≡ map (figures_of_block l.sim.state) (range_with_len 1 l.i)
