use Rattle.gw_chart.specs.Lines.{clock_at}
use Rattle.gw_drawing.proofs.Series.{grown, begun}
use Rattle.gw_chart.proofs.line.put_clocks_by.Goals as goal

pub loop-i-init : goal.loop-i-init
loop-i-init c = begun (clock_at c.args.plot c.args.from c.args.span c.args.step) c.args.out.now.items

pub loop-i-preserved : goal.loop-i-preserved
loop-i-preserved c = grown (clock_at c.args.plot c.args.from c.args.span c.args.step) c.loop-i.i _ _ _ c.loop-i.invariant
    (rw c.div_ceil-first.ensures at c.in_ok-put_clock.ensures)
