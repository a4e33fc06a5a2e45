use Rattle.std.proofs.Common.{◌≡◌, length}
use Rattle.gw_unit_tests.proofs.chains.unlink_all.Given as goal

-- there are as many chains as there were
abbrev pub invariant-loop : goal.invariant-loop
invariant-loop l = length l.chains.lists ≡ length l.fn.chains.lists
