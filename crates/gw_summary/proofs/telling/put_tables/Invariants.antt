-- the points so far are told, the first of them is kept, and the differences of the others to it are there
use Rattle.std.proofs.Common.{◌≡◌, List, [], take}
use Rattle.gw_comparison.specs.declared.point.Point.{Point}
use Rattle.gw_alternatives.specs.Told.{AddsAllDifferences}
use Rattle.gw_summary.specs.Telling.{TellsPoints, first_of}
use Rattle.gw_summary.proofs.telling.put_tables.Given as goal

abbrev pub invariant-loop-i : goal.invariant-loop-i
invariant-loop-i l =
    (told : List Point) × TellsPoints l.rows l.study l.request (take l.i l.points) told l.fn.out.items l.out.items
    × (l.first ≡ first_of told) × AddsAllDifferences l.request.all told [] l.behind.items
