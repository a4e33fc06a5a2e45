use Rattle.gw_settle.proofs.Placing.{DecidedTo}
use Rattle.gw_settle.proofs.falls.are_decided.Given as goal

-- the rules on units of the blocks so far are decided
abbrev pub invariant-loop-i : goal.invariant-loop-i
invariant-loop-i l = DecidedTo l.parts.blocks l.near.blocks.items l.last.blocks.items l.i
