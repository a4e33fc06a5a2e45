use Rattle.std.proofs.Common.{◌≡◌, ◌≤◌, ◌++◌, drop}
use Rattle.std.specs.Prelude.{vec_len}
use Rattle.gw_study.specs.Table.{rows, trends_of_done}
use Rattle.gw_study.proofs.columns.trends_of_done.Given as goal

-- what is there, and those of the runs that are left, are all
abbrev pub invariant-loop-i : goal.invariant-loop-i
invariant-loop-i l = (rows l.done.items ++ trends_of_done (drop l.i l.runs) ≡ trends_of_done l.runs) × (vec_len l.done ≤ l.i)
