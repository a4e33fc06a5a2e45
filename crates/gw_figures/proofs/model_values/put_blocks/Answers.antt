use Rattle.std.proofs.Common.{rules, arith, ◌++◌}
use Rattle.gw_figures.specs.Values.{blocks_values}
use Rattle.gw_figures.specs.Windows.{span_of}
use Rattle.gw_figures.proofs.Counting.{next_block}
use Rattle.gw_figures.proofs.model_values.put_blocks.Goals as goal

pub loop-i-preserved : goal.loop-i-preserved
loop-i-preserved c =
    next_block (span_of c.args.window.now) c.loop-i.i c.args.blocks c.loop-i.out.items c.put_block.new.out.items
    (c.args.out.now.items ++ blocks_values (span_of c.args.window.now) 0 c.args.blocks)
    (omega arith) c.loop-i.invariant (search rules)
