use Rattle.std.proofs.Common.{◌≡◌, ◌++◌, replicate}
use Rattle.gw_writing.proofs.columns.put_blanks.Given as goal

abbrev pub invariant-loop : goal.invariant-loop
invariant-loop l = l.out.items ≡ l.fn.out.items ++ replicate l.counter 32
