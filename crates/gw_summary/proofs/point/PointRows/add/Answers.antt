use Rattle.std.proofs.Common.{◌∙◌, sym}
use Rattle.std.specs.Prelude.{slice_get}
use Rattle.gw_summary.proofs.HoldingPoints.{never_unlike}
use Rattle.gw_summary.proofs.Keeping.{kept_as_is}
use Rattle.gw_summary.proofs.point.PointRows.add.Goals as goal

pub returns-else-eq-clause-lines : goal.returns-else-eq-clause-lines
returns-else-eq-clause-lines c = kept_as_is c.args.self.now.lines.items c.args.number c.args.line.now c.adding-adding.result c.adding-adding.ensures
    (λ is. let h = rw is at c.if-eq.ensures in absurd cc)

pub returns-else-eq-clause-study : goal.returns-else-eq-clause-study
returns-else-eq-clause-study c = λ s holds is. (
  λ unlike. never_unlike s c.args.number c.args.line.now (slice_get c.args.self.now.lines.items c.args.number)
      (λ known at. holds.lines c.args.number known at) is (sym c.adding-adding.ensures ∙ unlike),
  holds,
)
