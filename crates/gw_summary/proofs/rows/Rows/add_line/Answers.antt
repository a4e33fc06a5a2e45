use Rattle.std.proofs.Common.{refl}
use Rattle.gw_summary.specs.declared.rows.Rows.{Rows}
use Rattle.gw_summary.proofs.HoldingRows.{HaveSameParts, held_by, more_by}
use Rattle.gw_summary.proofs.rows.Rows.add_line.Goals as goal

pub returns-in-Ok-clause-study : goal.returns-in-Ok-clause-study
returns-in-Ok-clause-study c =
    let old = c.args.self.now in
    let middle : Rows = record old { number = c.args.number } in
    let same : HaveSameParts old middle = record { header = refl; figures = refl; waiting = refl; study = refl; refused = refl; points = refl } in
    λ s readable is held.
    (tt, more_by s c.args.line.now old middle c.add.new.self refl (c.in-Ok.ensures.study s readable is (held_by s old middle same held)))
