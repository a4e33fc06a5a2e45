use Rattle.std.proofs.Common.{◌≡◌, take}
use Rattle.gw_rules.specs.Seen.{units_seen}
use Rattle.gw_flow.specs.Known.{amounts_of}
use Rattle.gw_settle.proofs.written.units_written.Given as goal

abbrev pub invariant-loop-amount : goal.invariant-loop-amount
invariant-loop-amount l = units_seen l.all.items ≡ amounts_of (take l.amount-index l.units)
