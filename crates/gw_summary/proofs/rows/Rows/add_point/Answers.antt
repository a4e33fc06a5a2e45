use Rattle.std.proofs.Common.{◌++◌, ◌∙◌, refl, ap, arith}
use Rattle.gw_summary.specs.Keeping.{lines_of, lines_at, waiting_lines}
use Rattle.gw_summary.proofs.HoldingRows.{adds_point}
use Rattle.gw_summary.proofs.Keeping.{point_inserted}
use Rattle.gw_summary.proofs.rows.Rows.add_point.Goals as goal

pub returns-clause-same : goal.returns-clause-same
returns-clause-same c =
    let old = c.args.self.now in (
      ap (λ ls. ls ++ waiting_lines old.waiting.items)
          (ap lines_of c.in_ok-insert_point.ensures.items ∙ point_inserted old.points.items c.place_for-place.result _ (ap lines_at c.new.ensures.items)),
      refl,
    )

pub returns-clause-added : goal.returns-clause-added
returns-clause-added c =
    let old = c.args.self.now in
    adds_point c.args.name.now old _ c.place_for-place.result _ (omega (arith, c.place_for-place.ensures, old.points.ok.0))
    c.in_ok-insert_point.ensures.items
    (c.in_ok-extend_from_slice.ensures.items ∙ ap (λ ls. ls ++ c.args.name.now) c.new-copy.ensures.items) c.new.ensures.items refl
