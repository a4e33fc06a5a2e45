use Rattle.gw_listing.specs.Lines.{AreWords}
use Rattle.gw_listing.proofs.text.one_line.Given as goal

-- no line ends in what there is so far
abbrev pub invariant-loop-byte : goal.invariant-loop-byte
invariant-loop-byte l = AreWords l.line.items
