use Rattle.std.proofs.Common.{◌≡◌, None, replicate}
use Rattle.gw_settle.proofs.rounds.start_chains.Given as goal

-- as many rows so far as user chains so far
abbrev pub invariant-loop : goal.invariant-loop
invariant-loop l = l.rows.items ≡ replicate l.counter None
