use Rattle.std.proofs.Common.{◌≡◌, ◌++◌, drop}
use Rattle.gw_figures.specs.Labels.{labels, entities_labels}
use Rattle.gw_figures.proofs.labels.put_entities.Given as goal

-- what is there, and the figures that are left, are what was there and all
abbrev pub invariant-loop-i : goal.invariant-loop-i
invariant-loop-i l = labels l.out.items ++ entities_labels (drop l.i l.entities) ≡ labels l.fn.out.items ++ entities_labels l.fn.entities
