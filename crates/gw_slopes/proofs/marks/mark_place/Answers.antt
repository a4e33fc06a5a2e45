use Rattle.std.proofs.Common.{refl}
use Rattle.gw_slopes.specs.Marking.{is_due}
use Rattle.gw_slopes.proofs.Marking.{stay_sound}
use Rattle.gw_slopes.proofs.marks.mark_place.Goals as goal

pub returns-then-place-marks : goal.returns-then-place-marks
returns-then-place-marks c =
    let p = c.args.parts.now in
    let due = is_due p c.args.parameter c.args.marks.now c.args.place in
    stay_sound p c.args.parameter c.args.marks.now c.mark.new.marks due c.args.place refl c.mark.ensures.marks
