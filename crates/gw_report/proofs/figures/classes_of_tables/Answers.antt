use Rattle.std.proofs.Common.{rules, arith, ◌≡◌, ◌∙◌, List, [], ◌∷◌, ◌++◌, map, ap}
use Rattle.std.proofs.lemmas.List.{map-append}
use Rattle.gw_report.specs.Figures.{classes_of}
use Rattle.gw_report.proofs.Ranges.{one_more}
use Rattle.gw_report.proofs.figures.classes_of_tables.Goals as goal

pub loop-i-preserved : goal.loop-i-preserved
loop-i-preserved c =
    let table = c.in_ok-from_slice.field-0 in
    let added : c.push.new.self.items ≡ c.loop-i.classes.items ++ table ∷ [] = search rules in
    let mapped = ap (λ (vs : List _). map (λ v. v.items) vs) added ∙ map-append (λ v. v.items) c.loop-i.classes.items (table ∷ []) in
    let is : table.items ≡ classes_of c.args.sim.now.state c.loop-i.i = search rules in
    one_more (classes_of c.args.sim.now.state) 0 c.loop-i.i c.loop-i.i (map (λ v. v.items) c.loop-i.classes.items)
    (map (λ v. v.items) c.push.new.self.items) table.items
    c.loop-i.invariant mapped is (omega arith)
