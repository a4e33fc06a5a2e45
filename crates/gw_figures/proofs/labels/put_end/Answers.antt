use Rattle.std.proofs.Common.{rules, ◌≡◌, ◌++◌, ◌∷◌, [], codes}
use Rattle.gw_figures.specs.Labels.{labels, plain}
use Rattle.gw_figures.proofs.Four.{four}
use Rattle.gw_figures.proofs.labels.put_end.Goals as goal

pub returns : goal.returns
returns c =
    let one : labels c.put_of_end.new.out.items ≡ labels c.args.out.now.items ++ plain [] (codes "CLOCK") ∷ [] = search rules in
    let two : labels c.put_of_end-2.new.out.items ≡ labels c.put_of_end.new.out.items ++ plain [] (codes "STEPS") ∷ [] = search rules in
    let three : labels c.put_of_end-3.new.out.items ≡ labels c.put_of_end-2.new.out.items ++ plain [] (codes "ENTRIES") ∷ [] = search rules in
    four c.put_of_end-4.result (labels c.args.out.now.items) (labels c.put_of_end.new.out.items) (labels c.put_of_end-2.new.out.items)
    (labels c.put_of_end-3.new.out.items) (labels c.put_of_end-4.new.out.items)
    (plain [] (codes "CLOCK")) (plain [] (codes "STEPS")) (plain [] (codes "ENTRIES")) (plain [] (codes "COUNT")) one two three c.put_of_end-4.ensures
