-- the lines so far are taken, and where they are rows of a study, rows hold nothing else
use Rattle.std.proofs.Common.{take}
use Rattle.gw_summary.specs.Keeping.{Takes, waiting_lines}
use Rattle.gw_summary.specs.StudyRows.{StudyRuns}
use Rattle.gw_summary.proofs.HoldingRows.{HoldsOn}
use Rattle.gw_summary.proofs.rows.Rows.add_waiting.Given as goal

abbrev pub invariant-loop-i : goal.invariant-loop-i
invariant-loop-i l = Takes (waiting_lines (take l.i l.waiting)) l.fn.self l.self × ((s : StudyRuns) → HoldsOn s l.waiting l.fn.self l.self)
