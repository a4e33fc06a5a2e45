use Rattle.std.proofs.Common.{◌≡◌, length}
use Rattle.gw_unit_tests.proofs.chains.unlink_in_order.Given as goal

-- there are as many chains as there were
abbrev pub invariant-loop-number : goal.invariant-loop-number
invariant-loop-number l = length l.chains.lists ≡ length l.fn.chains.lists
