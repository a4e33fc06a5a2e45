use Rattle.std.proofs.Common.{◌≡◌, ◌==◌, drop}
use Rattle.std.specs.List.{find}
use Rattle.gw_object.specs.declared.parts.TableParameter.{TableParameter}
use Rattle.gw_weights.proofs.returns.parameter_of.Given as goal

-- the first of the parameters that are left is that of all
abbrev pub invariant-loop-parameter : goal.invariant-loop-parameter
invariant-loop-parameter l = find (λ (set : TableParameter). set.number == l.number) l.parameters
    ≡ find (λ (set : TableParameter). set.number == l.number) (drop l.parameter-index l.parameters)
