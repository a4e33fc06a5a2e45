use Rattle.std.proofs.Common.{◌≡◌, drop}
use Rattle.gw_pieces.specs.Settings.{seed_from}
use Rattle.gw_pieces.proofs.settings.seed_of.Given as goal

-- the seed is that of the statements so far
abbrev pub invariant-loop-statement : goal.invariant-loop-statement
invariant-loop-statement l = seed_from 0 l.statements l.stream ≡ seed_from l.seed (drop l.statement-index l.statements) l.stream
