use Rattle.std.proofs.Common.{◌≡◌, drop}
use Rattle.gw_rules.specs.Entries.{entry}
use Rattle.gw_settle.specs.Known.{params_known}
use Rattle.gw_settle.proofs.known.Known.callers.Given as goal

-- none so far has this number
abbrev pub invariant-loop-i : goal.invariant-loop-i
invariant-loop-i l =
    entry (params_known (drop l.i l.params)) l.parameter ≡ entry (params_known l.params) l.parameter
