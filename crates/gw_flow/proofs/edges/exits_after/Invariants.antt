use Rattle.std.proofs.Common.{◌≡◌, map, take}
use Rattle.gw_rules.specs.Exits.{returns_to}
use Rattle.gw_flow.proofs.edges.exits_after.Given as goal

-- the exits so far are those to the blocks after the blocks so far
abbrev pub invariant-loop-block : goal.invariant-loop-block
invariant-loop-block l = l.exits.items ≡ map returns_to (take l.block-index l.blocks)
