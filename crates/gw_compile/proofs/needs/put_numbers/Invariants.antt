use Rattle.std.proofs.Common.{◌≡◌, drop}
use Rattle.gw_compile.specs.Needs.{with_numbers}
use Rattle.gw_compile.proofs.needs.put_numbers.Given as goal

-- those that are left are still to come
abbrev pub invariant-loop-i : goal.invariant-loop-i
invariant-loop-i l =
    with_numbers l.numbers l.fn.needs.items ≡ with_numbers (drop l.i l.numbers) l.needs.items
