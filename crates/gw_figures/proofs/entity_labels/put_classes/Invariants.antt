use Rattle.std.proofs.Common.{◌≡◌, ◌-◌, ◌++◌}
use Rattle.gw_figures.specs.Labels.{labels, class_labels}
use Rattle.gw_figures.proofs.entity_labels.put_classes.Given as goal

-- what is there, and the figures that are left, are what was there and all
abbrev pub invariant-loop-class : goal.invariant-loop-class
invariant-loop-class l = labels l.out.items ++ class_labels l.table l.front l.class (l.classes - l.class) ≡ labels l.fn.out.items
    ++ class_labels l.fn.table l.fn.front 0 l.fn.table.classes
