-- the numbers that are left rise as all do
use Rattle.std.proofs.Common.{◌≡◌, drop}
use Rattle.gw_experiment.specs.Experiments.{rises_from}
use Rattle.gw_experiment.proofs.parameters.rise_from.Given as goal

abbrev pub invariant-loop-i : goal.invariant-loop-i
invariant-loop-i l = rises_from l.last (drop l.i l.numbers) ≡ rises_from l.fn.first l.numbers
