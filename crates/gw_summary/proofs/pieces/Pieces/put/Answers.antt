use Rattle.std.proofs.Common.{arith, refl}
use Rattle.gw_summary.proofs.StudyReading.{part_read, short_rest}
use Rattle.gw_summary.proofs.pieces.Pieces.put.Goals as goal

pub returns-then-saturating_add-gt-LONGEST-clause-study : goal.returns-then-saturating_add-gt-LONGEST-clause-study
returns-then-saturating_add-gt-LONGEST-clause-study c = λ s before readable front was.
    let rest = c.args.self.now.rest in
    let short = short_rest s before c.args.bytes.now rest.items was.read.lines readable was.read.split front c.requires in
    absurd (omega (arith, short, rest.ok.0))

pub returns-in-Ok-clause-study : goal.returns-in-Ok-clause-study
returns-in-Ok-clause-study c = λ s before readable front was.
    (tt, part_read s before c.args.bytes.now c.args.self.now _ refl c.in-Ok.ensures.items c.requires was)
