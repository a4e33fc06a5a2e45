use Rattle.std.proofs.Common.{◌≡◌, drop}
use Rattle.gw_machine.specs.declared.least.Least.TheVariants.{Nobody}
use Rattle.gw_machine.proofs.Lessening.{least_in}
use Rattle.gw_machine.proofs.least.least_of.Given as goal

-- the least of those still to come and of what was found is the least of all
abbrev pub invariant-loop-want : goal.invariant-loop-want
invariant-loop-want l = least_in l.blocks l.e (drop l.want-index l.wants) l.least ≡ least_in l.blocks l.e l.wants Nobody
