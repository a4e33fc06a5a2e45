use Rattle.std.proofs.Common.{◌≡◌, take}
use Rattle.gw_rules.specs.Blocks.{edges_along}
use Rattle.gw_flow.proofs.edges.edges_along.Given as goal

-- the edges so far are those along the exits so far
abbrev pub invariant-loop-exit : goal.invariant-loop-exit
invariant-loop-exit l = l.edges.items ≡ edges_along l.number (take l.exit-index l.exits) l.passed
