use Rattle.std.proofs.Common.{rules, ◌≡◌, ◌∙◌, ◌++◌, ◌∷◌, [], map, ap}
use Rattle.gw_num.specs.Table.{at}
use Rattle.gw_machine.specs.Known.{wants_of}
use Rattle.gw_machine.proofs.Wanting.{appended-none}
use Rattle.gw_machine.proofs.wants.reach.Goals as goal

pub loop-alloc-preserved : goal.loop-alloc-preserved
loop-alloc-preserved c k =
    let xs = c.loop-alloc.lists.items in
    let is : c.push.new.self.items ≡ xs ++ c.new.result ∷ [] = search rules in
    ap (λ ls. at [] (map wants_of ls) k) is ∙ appended-none wants_of [] xs c.new.result c.new.ensures.items k ∙ c.loop-alloc.invariant k
