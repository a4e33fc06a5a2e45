use Rattle.std.proofs.Common.{◌≡◌, drop}
use Rattle.gw_pieces.specs.Settings.{used_from}
use Rattle.gw_pieces.proofs.settings.used.Given as goal

-- those that are left are still to be looked at
abbrev pub invariant-loop-i : goal.invariant-loop-i
invariant-loop-i l = used_from 0 0 l.seeds ≡ used_from l.i l.used (drop l.i l.seeds)
