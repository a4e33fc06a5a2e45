use Rattle.std.proofs.Common.{◌≡◌, drop}
use Rattle.gw_pieces.specs.Settings.{count_in}
use Rattle.gw_pieces.proofs.settings.count_of.Given as goal

-- no START stands so far
abbrev pub invariant-loop-statement : goal.invariant-loop-statement
invariant-loop-statement l = count_in l.statements ≡ count_in (drop l.statement-index l.statements)
