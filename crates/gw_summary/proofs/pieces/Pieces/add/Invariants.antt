-- what stands before the line at hand is read, and there is no line feed in it so far
use Rattle.gw_summary.proofs.Reading.{IsReadTo}
use Rattle.gw_summary.proofs.StudyReading.{IsReadOfTo}
use Rattle.gw_summary.proofs.pieces.Pieces.add.Given as goal

abbrev pub invariant-loop-i : goal.invariant-loop-i
invariant-loop-i l = record {
  read : IsReadTo l.piece l.start l.i l.fn.self l.self;
  study : IsReadOfTo l.piece l.start l.fn.self l.self;
}
