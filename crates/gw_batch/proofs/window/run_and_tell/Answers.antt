use Rattle.gw_batch.specs.Writing.{stage}
use Rattle.gw_batch.proofs.Windows.{write_stops, tells_writes}
use Rattle.gw_batch.proofs.window.run_and_tell.Goals as goal

pub returns-clause-stops : goal.returns-clause-stops
returns-clause-stops g c = λ es rest start.
    write_stops c.tell_all.result (stage c.args.telling.now es c.args.writer.now.held) c.tell_all.new.writer.held
    (c.tell_all.ensures.halts es rest start) c.tell_all.ensures.fault

pub returns-clause-marks : goal.returns-clause-marks
returns-clause-marks g c = tells_writes c.tell_all.result _ _ c.tell_all.ensures.fault c.tell_all.ensures.marks
