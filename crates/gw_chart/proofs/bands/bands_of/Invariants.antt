use Rattle.std.proofs.Common.{◌≡◌, ◌++◌, drop, map}
use Rattle.gw_chart.specs.Bands.{band_of}
use Rattle.gw_chart.proofs.bands.bands_of.Given as goal

-- what was put, and what is left, are all
abbrev pub invariant-loop-i : goal.invariant-loop-i
invariant-loop-i l = l.bands.items ++ map band_of (drop l.i l.row) ≡ map band_of l.row
