use Rattle.std.proofs.Common.{◌≡◌, ◌≤◌, ◌-◌}
use Rattle.gw_study.specs.Streams.{next_drawn}
use Rattle.gw_study.proofs.streams.next_drawn.Given as goal

-- the next is looked for from here on
abbrev pub invariant-loop-d : goal.invariant-loop-d
invariant-loop-d l = next_drawn l.parts l.stream l.d (16 - l.d) ≡ next_drawn l.parts l.stream 1 15
