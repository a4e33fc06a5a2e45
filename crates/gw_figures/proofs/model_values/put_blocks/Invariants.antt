use Rattle.std.proofs.Common.{◌≡◌, ◌-◌, ◌++◌}
use Rattle.gw_figures.specs.Values.{blocks_values}
use Rattle.gw_figures.specs.Windows.{span_of}
use Rattle.gw_figures.proofs.model_values.put_blocks.Given as goal

-- what is there, and the values that are left, are what was there and all
abbrev pub invariant-loop-i : goal.invariant-loop-i
invariant-loop-i l = l.out.items ++ blocks_values (span_of l.window) l.i (l.blocks - l.i) ≡ l.fn.out.items ++ blocks_values (span_of l.fn.window) 0 l.fn.blocks
