use Rattle.std.proofs.Common.{rules, ◌≤◌, ◌<◌, ◌∙◌, [], map, length, sym, arith}
use Rattle.std.proofs.lemmas.List.{length-map}
use Rattle.gw_num.proofs.Tables.{at_past}
use Rattle.gw_machine.specs.Known.{wants_of}
use Rattle.gw_machine.proofs.Wanting.{read-map}
use Rattle.gw_machine.proofs.wants.Wants.of.Goals as goal

pub returns-then-e-len : goal.returns-then-e-len
returns-then-e-len c =
    let xs = c.self.inside.lists.items in
    let there : c.args.e < length xs = search rules in
    rw (← c.self.view_is) (c.as_slice.ensures.value ∙ sym (read-map wants_of [] xs c.args.e c.index.result.now there c.index.ensures))

pub returns-else-e-len : goal.returns-else-e-len
returns-else-e-len c =
    let xs = c.self.inside.lists.items in
    let past : length xs ≤ c.args.e = search rules in
    rw (← c.self.view_is) (sym (at_past [] (map wants_of xs) c.args.e (omega (arith, past, length-map xs wants_of))))
