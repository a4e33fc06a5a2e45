-- no read has failed, and the bytes that came are read
use Rattle.std.proofs.Common.{◌≡◌, false, ℕ, List}
use Rattle.std.specs.Io.KnownBytes.{Consumes}
use Rattle.gw_summary.specs.Keeping.{IsRead}
use Rattle.planner.specs.Reading.{AreReadAsStudies}
use Rattle.planner.proofs.rows.read_pieces.Given as goal

abbrev pub invariant-loop : goal.invariant-loop
invariant-loop g l =
    (l.reader.failed ≡ false)
    × ((before : List ℕ) × Consumes l.fn.reader.left l.reader.left before × IsRead before l.pieces × AreReadAsStudies before l.pieces)
