-- the word is that of no end so far
use Rattle.std.proofs.Common.{◌≡◌, ◌≤◌}
use Rattle.gw_step.specs.declared.ends.End.{End}
use Rattle.gw_scan.specs.declared.sim.Status.TheVariants.{Ended}
use Rattle.gw_report.specs.Report.{status_word}
use Rattle.gw_rows.proofs.EndWords.{place_of}
use Rattle.gw_rows.proofs.ends.end_in.Given as goal

abbrev pub invariant-loop-end : goal.invariant-loop-end
invariant-loop-end l = (end : End) → l.word ≡ status_word (Ended end) → l.end-index ≤ place_of end
