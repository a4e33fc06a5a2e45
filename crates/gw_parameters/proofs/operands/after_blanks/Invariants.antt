-- the bytes before this one are blanks
use Rattle.std.proofs.Common.{◌≡◌, drop}
use Rattle.gw_text_tokens.specs.Lines.{after_blanks}
use Rattle.gw_parameters.proofs.operands.after_blanks.Given as goal

abbrev pub invariant-loop-i : goal.invariant-loop-i
invariant-loop-i l = after_blanks (drop l.i l.bytes) ≡ after_blanks l.bytes
