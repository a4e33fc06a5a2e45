use Rattle.gw_summary.proofs.StudyReading.{nothing_read}
use Rattle.gw_summary.proofs.pieces.Pieces.new.Goals as goal

pub returns-clause-study : goal.returns-clause-study
returns-clause-study c = λ s. nothing_read s _ c.new-2.ensures.items c.new.ensures.none (c.new.ensures.study s)
