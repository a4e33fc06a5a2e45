use Rattle.std.proofs.Common.{◌≡◌, ◌++◌, take, drop}
use Rattle.gw_compile.specs.Needs.{with_number}
use Rattle.gw_compile.proofs.needs.put_number.Given as goal

-- nothing has changed, and the number comes behind those that were looked at
abbrev pub invariant-loop-i : goal.invariant-loop-i
invariant-loop-i l = record {
  same : l.needs.items ≡ l.fn.needs.items;
  behind : with_number l.number l.needs.items ≡ take l.i l.needs.items ++ with_number l.number (drop l.i l.needs.items);
}
