use Rattle.std.proofs.Common.{rules, arith, ◌+◌}
use Rattle.gw_report.specs.Figures.{figures_of_block}
use Rattle.gw_report.proofs.Ranges.{one_more}
use Rattle.gw_report.proofs.figures.blocks_of.Goals as goal

pub loop-i-preserved : goal.loop-i-preserved
loop-i-preserved c = one_more (figures_of_block c.args.sim.now.state) 1 c.loop-i.i (c.loop-i.i + 1) c.loop-i.blocks.items
    c.push.new.self.items (record { entries = c.entries_at.result; here = c.here.result }) c.loop-i.invariant (search rules) (search rules) (omega arith)
