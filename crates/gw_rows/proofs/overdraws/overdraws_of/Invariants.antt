-- the texts so far are those of the streams so far
use Rattle.std.proofs.Common.{◌≡◌, List, map, take}
use Rattle.std.specs.List.{All}
use Rattle.gw_figures.specs.declared.run.Overdraw.{Overdraw}
use Rattle.gw_rows.specs.Reading.{IsStreamInRange}
use Rattle.gw_rows.specs.Rows.{overdraw_text}
use Rattle.gw_rows.proofs.overdraws.overdraws_of.Given as goal

abbrev pub invariant-loop-i : goal.invariant-loop-i
invariant-loop-i l =
    (os : List Overdraw) → All IsStreamInRange os → map (λ t. t.now) l.texts ≡ map overdraw_text os → l.overdraws.items ≡ take l.i os
