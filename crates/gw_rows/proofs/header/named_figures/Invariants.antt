-- the figures so far, and those of the names that are left, are all
use Rattle.std.proofs.Common.{◌≡◌, ◌++◌, drop, map}
use Rattle.gw_figures.specs.Labels.{labels}
use Rattle.gw_rows.specs.Names.{labels_named}
use Rattle.gw_rows.proofs.header.named_figures.Given as goal

abbrev pub invariant-loop-i : goal.invariant-loop-i
invariant-loop-i l =
    labels l.figures.items ++ labels_named (drop l.i (map (λ n. n.now) l.names)) ≡ labels_named (map (λ n. n.now) l.names)
