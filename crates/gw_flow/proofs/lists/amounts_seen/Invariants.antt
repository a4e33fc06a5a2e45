use Rattle.std.proofs.Common.{◌≡◌, take}
use Rattle.gw_rules.specs.Seen.{units_seen}
use Rattle.gw_flow.specs.Known.{amounts_of}
use Rattle.gw_flow.proofs.lists.amounts_seen.Given as goal

-- the amounts so far are those of the units so far
abbrev pub invariant-loop-u : goal.invariant-loop-u
invariant-loop-u l = amounts_of l.amounts.items ≡ units_seen (take l.u-index l.units)
