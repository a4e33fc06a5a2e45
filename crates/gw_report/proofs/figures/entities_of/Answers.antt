use Rattle.std.proofs.Common.{rules, arith}
use Rattle.gw_report.specs.Figures.{figures_of_entity}
use Rattle.gw_report.proofs.Ranges.{one_more}
use Rattle.gw_report.proofs.figures.entities_of.Goals as goal

pub loop-i-preserved : goal.loop-i-preserved
loop-i-preserved c = one_more (figures_of_entity c.args.sim.now.state) 0 c.loop-i.i c.loop-i.i c.loop-i.entities.items
    c.push.new.self.items c.entity_of.result c.loop-i.invariant (search rules) (search rules) (omega arith)
