use Rattle.std.proofs.Common.{rules, arith, ◌-◌}
use Rattle.gw_figures.specs.Windows.{class_at}
use Rattle.gw_figures.proofs.Ranges.{one_more}
use Rattle.gw_figures.proofs.classes.rises.Goals as goal

pub loop-i-preserved : goal.loop-i-preserved
loop-i-preserved c =
    one_more (λ i. class_at c.args.after.now i - class_at c.args.before.now i) 0 c.loop-i.i c.loop-i.i c.loop-i.rises.items
    c.push.new.self.items c.saturating_sub.result
    c.loop-i.invariant (search rules) (search rules) (omega arith)
