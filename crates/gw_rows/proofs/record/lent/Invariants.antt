-- what is lent, and what is left, are all fields
use Rattle.std.proofs.Common.{◌≡◌, ◌++◌, drop, map}
use Rattle.gw_rows.specs.Rows.{texts}
use Rattle.gw_rows.proofs.record.lent.Given as goal

abbrev pub invariant-loop-i : goal.invariant-loop-i
invariant-loop-i l = map (λ f. f.now) l.lent.items ++ texts (drop l.i l.fields) ≡ texts l.fields
