-- the first column of the name is among those that are left
use Rattle.std.proofs.Common.{◌≡◌, drop}
use Rattle.gw_comparison.specs.Points.{column_of}
use Rattle.gw_comparison.proofs.accounts.column_of.Given as goal

abbrev pub invariant-loop-i : goal.invariant-loop-i
invariant-loop-i l = column_of l.name l.columns ≡ column_of l.name (drop l.i l.columns)
