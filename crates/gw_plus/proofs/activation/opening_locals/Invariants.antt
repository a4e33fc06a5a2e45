use Rattle.std.proofs.Common.{◌≡◌, take}
use Rattle.gw_rules.specs.Meaning.{frame_of_locals}
use Rattle.gw_plus.proofs.activation.opening_locals.Given as goal

abbrev pub invariant-loop-i : goal.invariant-loop-i
invariant-loop-i l = l.locals.items ≡ take l.i (frame_of_locals l.count l.arguments).locals
