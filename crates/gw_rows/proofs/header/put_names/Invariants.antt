-- the names so far, and those that are left, are all
use Rattle.std.proofs.Common.{◌≡◌, ◌++◌, drop, map}
use Rattle.gw_figures.specs.Labels.{labels}
use Rattle.gw_rows.specs.Rows.{texts}
use Rattle.gw_rows.proofs.header.put_names.Given as goal

abbrev pub invariant-loop-i : goal.invariant-loop-i
invariant-loop-i l =
    texts l.fields.items ++ map (λ x. x.name) (labels (drop l.i l.figures)) ≡ texts l.initial.fields.items ++ map (λ x. x.name) (labels l.figures)
