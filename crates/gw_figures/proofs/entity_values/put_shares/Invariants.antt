use Rattle.std.proofs.Common.{◌≡◌, ◌++◌, take}
use Rattle.gw_figures.specs.Values.{shares}
use Rattle.gw_figures.proofs.entity_values.put_shares.Given as goal

-- the parts of the classes so far are added
abbrev pub invariant-loop-values : goal.invariant-loop-values
invariant-loop-values l = l.out.items ≡ l.fn.out.items ++ shares l.count (take l.values-index l.classes)
