use Rattle.std.proofs.Common.{rules, ◌≡◌, ◌≤◌, ◌<◌, ◌∙◌, List, [], map, length, ap, arith}
use Rattle.std.proofs.lemmas.List.{length-map}
use Rattle.std.specs.Prelude.{slice_set}
use Rattle.gw_num.specs.Table.{at}
use Rattle.gw_num.proofs.Tables.{at-put, at-put_other, at_past}
use Rattle.gw_machine.specs.declared.wants.Want.{Want}
use Rattle.gw_machine.specs.Known.{wants_of}
use Rattle.gw_machine.proofs.Wanting.{map-set, read-map, entry-untold}
use Rattle.gw_machine.proofs.wants.Wants.tell_entry.Goals as goal

pub returns-then-e-len-clause-others : goal.returns-then-e-len-clause-others
returns-then-e-len-clause-others c =
    let xs = c.self.inside.lists.items in
    let there : c.args.e < length xs = search rules in
    λ k other. rw (← c.self.view_is)
    (ap (λ (ls : List (List Want)). at [] ls k) (map-set wants_of [] xs c.args.e c.count_entry.new.wants there)
    ∙ at-put_other [] (map wants_of xs) c.args.e k _ other)

pub returns-then-e-len-clause-here : goal.returns-then-e-len-clause-here
returns-then-e-len-clause-here c =
    let xs = c.self.inside.lists.items in
    let there : c.args.e < length xs = search rules in
    let old : at [] (map wants_of xs) c.args.e ≡ c.index_mut.result.now.items =
    read-map wants_of [] xs c.args.e c.index_mut.result.now there c.index_mut.ensures.value in
    let new : at [] (map wants_of (slice_set xs c.args.e c.count_entry.new.wants)) c.args.e ≡ c.count_entry.new.wants.items =
    ap (λ (ls : List (List Want)). at [] ls c.args.e) (map-set wants_of [] xs c.args.e c.count_entry.new.wants there)
    ∙ at-put [] (map wants_of xs) c.args.e _ in
    rw (← c.self.view_is) (rw (old, new) c.count_entry.ensures)

pub returns-else-e-len-clause-here : goal.returns-else-e-len-clause-here
returns-else-e-len-clause-here c =
    let xs = c.self.inside.lists.items in
    let past : length xs ≤ c.args.e = search rules in
    let none : at [] (map wants_of xs) c.args.e ≡ [] = at_past [] (map wants_of xs) c.args.e (omega (arith, past, length-map xs wants_of)) in
    rw (← c.self.view_is) (rw none (entry-untold [] c.args.block c.args.entries))
