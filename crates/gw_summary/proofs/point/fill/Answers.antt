use Rattle.std.proofs.Common.{◌∙◌, arith, ap, subst, Some, ◌≡◌}
use Rattle.std.specs.Prelude.{slice_get}
use Rattle.gw_summary.specs.Adding.{has}
use Rattle.gw_summary.specs.Keeping.{lines_at}
use Rattle.gw_summary.proofs.HoldingPoints.{known_pushed}
use Rattle.gw_summary.proofs.Keeping.{lines_pushed, has_pushed}
use Rattle.gw_summary.proofs.point.fill.Goals as goal

pub loop-preserved : goal.loop-preserved
loop-preserved c =
    let pushed = c.in_ok-push.ensures.items in (
      omega (arith, c.loop.invariant.0, c.in_ok-push.ensures.len),
      ap lines_at pushed ∙ lines_pushed c.loop.lines.items ∙ c.loop.invariant.1,
      λ n. ap (λ ls. has (slice_get ls n)) pushed ∙ has_pushed c.loop.lines.items n ∙ c.loop.invariant.2 n,
      omega (arith, c.loop.invariant.0, c.loop.invariant.3, c.in_ok-push.ensures.len),
      λ n l h. c.loop.invariant.4 n l (known_pushed c.loop.lines.items n l (subst (λ ls. slice_get ls n ≡ Some (Some l)) pushed h)),
    )
