use Rattle.std.proofs.Common.{◌≡◌, length}
use Rattle.gw_unit_tests.proofs.chains.crowded_user_chain.Given as goal

-- there are two chains
abbrev pub invariant-loop-number : goal.invariant-loop-number
invariant-loop-number l = length l.chains.lists ≡ 2
