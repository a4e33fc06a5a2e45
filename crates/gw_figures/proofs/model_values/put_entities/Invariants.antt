use Rattle.std.proofs.Common.{◌≡◌, ◌++◌, drop}
use Rattle.gw_figures.specs.Values.{entities_values}
use Rattle.gw_figures.specs.Windows.{span_of}
use Rattle.gw_figures.proofs.model_values.put_entities.Given as goal

-- what is there, and the values that are left, are what was there and all
abbrev pub invariant-loop-i : goal.invariant-loop-i
invariant-loop-i l = l.out.items ++ entities_values (span_of l.window) l.i (drop l.i l.entities) ≡ l.fn.out.items
    ++ entities_values (span_of l.fn.window) 0 l.fn.entities
