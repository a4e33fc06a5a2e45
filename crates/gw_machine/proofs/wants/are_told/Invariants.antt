use Rattle.std.proofs.Common.{drop}
use Rattle.gw_machine.specs.Wants.{AreTold}
use Rattle.gw_machine.proofs.wants.are_told.Given as goal

-- all are told where those still to come are
abbrev pub invariant-loop-want : goal.invariant-loop-want
invariant-loop-want l = AreTold l.entries (drop l.want-index l.wants) → AreTold l.entries l.wants
