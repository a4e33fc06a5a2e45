use Rattle.std.proofs.Common.{rules, arith, ◌≡◌, ◌-◌, ◌+◌, ◌++◌, ◌∷◌, [], subst}
use Rattle.gw_figures.specs.Labels.{labels, plain, class_text, class_labels}
use Rattle.gw_figures.proofs.Counting.{next_class}
use Rattle.gw_figures.proofs.entity_labels.put_classes.Goals as goal

pub loop-class-preserved : goal.loop-class-preserved
loop-class-preserved c =
    let t = c.args.table.now in
    let front = c.args.front.now in
    let n = c.from-classes.result in
    let old = labels c.loop-class.out.items in
    let new = labels c.put_named.new.out.items in
    let i = c.loop-class.class in
    let is : n - i - 1 ≡ n - (i + 1) = omega arith in
    let added : new ≡ old ++ plain front (class_text t i (n - i - 1)) ∷ [] = search rules in
    next_class t front i n old new (labels c.args.out.now.items ++ class_labels t front 0 t.classes) (omega arith) c.loop-class.invariant
    (subst (λ k. new ≡ old ++ plain front (class_text t i k) ∷ []) is added)
