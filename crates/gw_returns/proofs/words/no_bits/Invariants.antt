use Rattle.std.proofs.Common.{◌≡◌, replicate}
use Rattle.gw_returns.proofs.words.no_bits.Given as goal

-- as many words so far as are counted
abbrev pub invariant-loop : goal.invariant-loop
invariant-loop l = l.words.items ≡ replicate l.counter 0
