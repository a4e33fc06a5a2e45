use Rattle.std.proofs.Common.{◌≡◌, ◌+◌, drop}
use Rattle.gw_rounds.specs.Rounds.{unlinks, is_unlinked}
use Rattle.gw_rounds.proofs.rounds.is_unlinked.Given as goal

-- one of the blocks that are left is such an UNLINK where one of all is
abbrev pub invariant-loop-i : goal.invariant-loop-i
invariant-loop-i l = unlinks l.parts l.chain l.next (l.i + 1) (drop l.i l.blocks) ≡ is_unlinked l.parts l.chain l.next
