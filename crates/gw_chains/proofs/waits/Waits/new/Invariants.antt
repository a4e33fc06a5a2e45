use Rattle.std.proofs.Common.{◌≡◌, [], map, replicate}
use Rattle.gw_chains.specs.Waiting.{Walked}
use Rattle.gw_chains.proofs.waits.Waits.new.Given as goal

abbrev pub invariant-loop : goal.invariant-loop
invariant-loop l = map (λ (w : Walked). w.members) l.delay_lists.items ≡ replicate l.counter []
