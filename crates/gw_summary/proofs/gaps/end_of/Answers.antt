use Rattle.std.proofs.Common.{◌≡◌, length, max, min, arith, ap, sym, ◌∙◌}
use Rattle.std.specs.Prelude.{vec_len}
use Rattle.std.proofs.lemmas.Grind.{common_steps}
use Rattle.gw_summary.specs.declared.point.PointRows.{PointRows}
use Rattle.gw_summary.proofs.LastPlaces.{end_more, end_last}
use Rattle.gw_summary.proofs.gaps.end_of.Goals as goal

pub loop-i-preserved : goal.loop-i-preserved
loop-i-preserved c =
    let points = c.args.points.now in
    let x = c.index-points-i.result in
    let here = c.len.ensures ∙ ap (λ (p : PointRows). vec_len p.lines) (sym c.index-points-i.is) in
    let len : c.min.result ≡ min (length x.lines.items) 512 = omega (arith, x.lines.ok.0, c.min.ensures, here) in
    let now : c.max-end.result ≡ max c.loop-i.end c.min.result = grind (arith, common_steps, c.max-end.ensures) in (
      omega (arith, now, c.loop-i.invariant.0, len),
      end_more points c.loop-i.i x c.loop-i.end c.max-end.result c.loop-i-test.true c.index-points-i.is
          (now ∙ ap (max c.loop-i.end) len) c.loop-i.invariant.1,
    )

pub returns-clause-end : goal.returns-clause-end
returns-clause-end c = end_last c.args.points.now c.loop-i.i c.loop-i.end c.loop-i-test.false c.loop-i.invariant.1
